-- Of a book whose names exist: in every state that a run reaches, over any histories, each job's block is one of the book's, its position is
-- at most the number of the block's steps, it has eight registers, and no value names a block that does not exist. And each other number has a
-- property that the book's, the events' and the machine's own have.
--     Named, .., StateNamed           values, cells, jobs, states
--     Numbers, BookHas, EventHas      where the property holds from the start
--     state_after_has                 a state that a run reaches
--     Any, state_after_named          the same of any numbers
--     Few, job_few                    and so the job's block and position are small
-- Assumes nothing.
use mathlib.Core.Path.{◌≡◌, refl, ◌∙◌}
use mathlib.Core.Bool.{Bool, true}
use mathlib.Core.Option.{some}
use mathlib.Core.List.{List, [], ◌∷◌}
use Prim.Native.Nat.{ℕ, zero, suc, ◌+◌, ◌<◌, ◌≤◌}
use native.Mathlib.Omega.{arith}
use lib.ListN.{length, length-set, get_elem?}
use borrow.Author.Tests.{ltb-true}
use Rattle.labels.proofs.Impossible.{impossible}
use Rattle.labels.specs.declared.Label.{Label}
use Rattle.book.specs.declared.Value.{Value}
use Rattle.book.specs.declared.Value.TheVariants.{Plain, CellName, CodeName}
use Rattle.book.specs.declared.Declared.{Declared}
use Rattle.book.specs.declared.Step.{Step}
use Rattle.book.specs.declared.Step.TheVariants.{Put, Name, Code, Add, New, Read, Write, Relabel, Lower, Start, Exec, Choose}
use Rattle.book.specs.Book.{Book, value_of}
use Rattle.book.specs.Refusals.{value_named, cell_named, step_named, has_cell_shape}
use Rattle.book.proofs.Decoded.{number_is}
use Rattle.book.proofs.Tests.{both_left, both_right}
use Rattle.book.proofs.Every.{All, all_each, all_set, all_push, all_at, all_get, all_replicate, all_both, mapped}
use Rattle.book.proofs.Parsed.{SoundBlock, SoundBook}
use Rattle.machine.specs.declared.Event.{Event}
use Rattle.machine.specs.declared.Event.TheVariants.{StepOf, WriteBy, RelabelBy, NewBy, ExecBy, StartBy}
use Rattle.machine.specs.Histories.{Histories}
use Rattle.machine.specs.States.{Traced, Cell, Job, State}
use Rattle.machine.specs.Acts.{Effect, blocked, keep, store, create, launch, fresh_job, zero_with, write_act, relabel_act, new_act, start_act, exec_act}
use Rattle.machine.specs.Steps.{Turn, summable, register, gets, moved, add_step, read_step, lower_step, through, turn_of}
use Rattle.machine.specs.Events.{no_block, block_of, value_exists, Outcome, declared, landed, turn_landed, outcome_of, fresh_state, state_after}
use Rattle.machine.specs.Records.{number_of}
use Rattle.machine.proofs.Cases.{given_both, some_both, plain_both, cell_both, code_both, chosen_both}

-- the number that a step, an event brings
abbrev pub step_number : Step → ℕ
step_number (Put r n) = n
step_number (Name r k) = k
step_number (Code r b) = 0
step_number (Add r a b) = 0
step_number (New r i a) = 0
step_number (Read r w) = 0
step_number (Write w a) = 0
step_number (Relabel w o) = 0
step_number (Lower l) = 0
step_number (Start b) = 0
step_number (Exec w) = 0
step_number (Choose r a b) = 0

abbrev pub event_number : Event → ℕ
event_number (StepOf i) = 0
event_number (WriteBy l k v n) = n
event_number (RelabelBy l k o) = 0
event_number (NewBy l i v n) = n
event_number (ExecBy l k) = 0
event_number (StartBy l b) = 0

-- a property of numbers, in tables of this size: of those that the machine makes
pub record Numbers (Q : ℕ → Type 0) (size : ℕ) : Type 0 where
  pub none : Q 0
  pub sums : (x y : ℕ) → summable x y ≡ true → Q (x + y)
  pub cells : (k : ℕ) → k < size → Q k

-- of those that a book, an event brings
pub record BookHas (Q : ℕ → Type 0) (K : Book) : Type 0 where
  pub cells : All (λ d. Q (number_of d.value)) K.cells
  pub blocks : All (λ b. All (λ p. Q (step_number p)) b.steps) K.blocks

abbrev pub EventHas : (ℕ → Type 0) → Event → Type 0
EventHas Q e = Q (event_number e)

-- in a book of so many blocks
pub data Named (Q : ℕ → Type 0) (blocks : ℕ) : Value → Type 0 where
  plain_named : {n : ℕ} → Q n → Named Q blocks (Plain n)
  cell_named_lem : {k : ℕ} → Q k → Named Q blocks (CellName k)
  code_named : {b : ℕ} → b < blocks → Named Q blocks (CodeName b)

module _ {Q : ℕ → Type 0} {blocks : ℕ} where
  named_block : {b : ℕ} → Named Q blocks (CodeName b) → b < blocks
  named_block (code_named h) = h

  block_named : (v : Value) (b : ℕ) → Named Q blocks v → v ≡ CodeName b → b < blocks
  block_named v b h e = named_block (rw e at h)

  value_named_lem : (cells : ℕ) (v : Value) → value_named cells blocks v ≡ true → Q (number_of v) → Named Q blocks v
  unfolding value_named
  value_named_lem cells (Plain n) e q = plain_named q
  value_named_lem cells (CellName n) e q = cell_named_lem q
  value_named_lem cells (CodeName n) e q = code_named (ltb-true _ _ e)

  pub number_named : {v : Value} → ((b : ℕ) → b < blocks → Q b) → Named Q blocks v → Q (number_of v)
  number_named f (plain_named q) = q
  number_named f (cell_named_lem q) = q
  number_named f (code_named h) = f _ h

-- the position of a step that stands
at_inside : {A : Type 0} (l : List A) (i : ℕ) (a : A) → get_elem? l i ≡ some a → i < length l
at_inside [] i a e = impossible cc
at_inside (x ∷ xs) zero a e = omega arith
at_inside (x ∷ xs) (suc i) a e = let h = at_inside xs i a e in omega arith

module _ (Q : ℕ → Type 0) (K : Book) {H : Type 0} where
  pub record TracedNamed (v : Traced H) : Type 0 where
    pub value : Named Q (length K.blocks) v.value

  pub record CellNamed (c : Cell H) : Type 0 where
    pub content : TracedNamed c.content

  pub record JobNamed (j : Job H) : Type 0 where
    pub block : j.block < length K.blocks
    pub position : j.position ≤ length (block_of K j.block).steps
    pub registers : All TracedNamed j.registers
    pub eight : length j.registers ≡ 8

  pub record StateNamed (s : State H) : Type 0 where
    pub cells : All CellNamed s.cells
    pub jobs : All JobNamed s.jobs

  data EffectNamed : Effect H → Type 0 where
    blocked_named : EffectNamed blocked
    keep_named : EffectNamed keep
    store_named : {k : ℕ} {c : Cell H} → CellNamed c → EffectNamed (store k c)
    create_named : {c : Cell H} → CellNamed c → EffectNamed (create c)
    launch_named : {j : Job H} → JobNamed j → EffectNamed (launch j)

  -- where the turn is blocked, the job after it is not looked at
  data TurnNamed : Turn H → Type 0 where
    waits : {j : Job H} → TurnNamed (record { job = j; effect = blocked })
    goes : {j : Job H} {e : Effect H} → JobNamed j → EffectNamed e → TurnNamed (record { job = j; effect = e })

  record OutcomeNamed (o : Outcome H) : Type 0 where
    state : StateNamed o.state

  landed_named : (s t : State H) {e : Effect H} → StateNamed s → StateNamed t → EffectNamed e → OutcomeNamed (landed s t e)
  unfolding landed
  landed_named s t a b blocked_named = record { state = a }
  landed_named s t a b keep_named = record { state = b }
  landed_named s t a b (store_named {k} {c} h) = record { state = record { cells = all_set CellNamed t.cells k c b.cells h; jobs = b.jobs } }
  landed_named s t a b (create_named {c} h) = record { state = record { cells = all_push CellNamed t.cells c b.cells h; jobs = b.jobs } }
  landed_named s t a b (launch_named {j} h) = record { state = record { cells = b.cells; jobs = all_push JobNamed t.jobs j b.jobs h } }

  turn_landed_lem : (s : State H) (i : ℕ) {t : Turn H} → StateNamed s → TurnNamed t → OutcomeNamed (turn_landed s i t)
  unfolding turn_landed landed
  turn_landed_lem s i q waits = record { state = q }
  turn_landed_lem s i q (goes n e) = landed_named s _ q (record { cells = q.cells; jobs = all_set JobNamed s.jobs i _ q.jobs n }) e

module _ (Q : ℕ → Type 0) (A : Histories) (K : Book) (size : ℕ) (N : Numbers Q size) where
  open A use {H}

  abbrev blocks : ℕ
  blocks = length K.blocks

  fresh_named : (b : ℕ) (l : Label) (h : H) → b < blocks → JobNamed Q K (fresh_job A b l h)
  fresh_named b l h i =
      record { block = i; position = omega arith; registers = all_replicate (TracedNamed Q K) 8 (zero_with A h) (record { value = plain_named N.none }); eight = refl }

  -- the acts, in a state whose names exist
  module _ (s : State H) (q : StateNamed Q K s) (l : Label) (h : H) where
    writing_named : (k : ℕ) (v : Traced H) → TracedNamed Q K v → EffectNamed Q K (write_act A s l h k v)
    unfolding write_act
    writing_named k v n =
        some_both (EffectNamed Q K) blocked_named
        (λ c ec. given_both (EffectNamed Q K) blocked_named (λ t. store_named (record { content = record { value = n.value } })))

    relabelling_named : (k : ℕ) (o : Label) → EffectNamed Q K (relabel_act A s l h k o)
    unfolding relabel_act
    relabelling_named k o =
        some_both (EffectNamed Q K) blocked_named
        (λ c ec. given_both (EffectNamed Q K) blocked_named
        (λ t. store_named (record { content = (all_at (CellNamed Q K) s.cells k c q.cells ec).content })))

    making_named : (i : ℕ) (v : Traced H) → TracedNamed Q K v → EffectNamed Q K (new_act A size s l h i v)
    unfolding new_act
    making_named i v n = given_both (EffectNamed Q K) blocked_named (λ t. create_named (record { content = record { value = n.value } }))

    starting_named : (b : ℕ) → b < blocks → EffectNamed Q K (start_act A size s l h b)
    unfolding start_act
    starting_named b i = given_both (EffectNamed Q K) blocked_named (λ t. launch_named (fresh_named b l h i))

    executing_named : (k : ℕ) → EffectNamed Q K (exec_act A size s l h k)
    unfolding exec_act
    executing_named k =
        some_both (EffectNamed Q K) blocked_named
        (λ c ec. code_both (EffectNamed Q K) blocked_named
        (λ b eb. given_both (EffectNamed Q K) blocked_named
        (λ t. launch_named (fresh_named b _ _ (block_named c.content.value b (all_at (CellNamed Q K) s.cells k c q.cells ec).content.value eb)))))

  -- a step that stands at the position of job j
  module _ (s : State H) (q : StateNamed Q K s) (j : Job H) (n : JobNamed Q K j) (m : j.position < length (block_of K j.block).steps) where
    register_named : (r : ℕ) → TracedNamed Q K (register A j r)
    register_named r = all_get (TracedNamed Q K) j.registers r _ n.registers (record { value = plain_named N.none })

    gets_named : (r : ℕ) (v : Value) (h : H) → Named Q blocks v → JobNamed Q K (gets A j r v h)
    gets_named r v h i =
        record {
          block = n.block;
          position = omega arith;
          registers = all_set (TracedNamed Q K) j.registers r _ n.registers (record { value = i });
          eight = length-set j.registers r _ ∙ n.eight;
        }

    moved_named : JobNamed Q K (moved A j)
    moved_named = record { block = n.block; position = omega arith; registers = n.registers; eight = n.eight }

    giving_named : (r : ℕ) (v : Value) (h : H) → Named Q blocks v → TurnNamed Q K (record { job = gets A j r v h; effect = keep })
    giving_named r v h i = goes (gets_named r v h i) keep_named

    through_named : (w : ℕ) (f : ℕ → Effect H) → ((k : ℕ) → EffectNamed Q K (f k)) → TurnNamed Q K (through A j w f)
    through_named w f g = cell_both (TurnNamed Q K) waits (λ k ek. goes moved_named (g k))

    turn_named : (f : ℕ → Bool) (cells : ℕ) (p : Step) → step_named f cells blocks p ≡ true → Q (step_number p) → TurnNamed Q K (turn_of A size s j p)
    unfolding turn_of add_step read_step lower_step new_act step_named
    turn_named f cells (Put r x) e h = giving_named r _ _ (plain_named h)
    turn_named f cells (Name r k) e h = giving_named r _ _ (cell_named_lem h)
    turn_named f cells (Code r b) e h = giving_named r _ _ (code_named (ltb-true _ _ e))
    turn_named f cells (Add r a b) e h =
        plain_both (TurnNamed Q K) waits
        (λ x ex. plain_both (TurnNamed Q K) waits
        (λ y ey. given_both (TurnNamed Q K) waits (λ t. giving_named r _ _ (plain_named (N.sums x y t)))))
    turn_named f cells (New r i a) e h =
        given_both (λ x. TurnNamed Q K (record { job = gets A j r (CellName (length s.cells)) j.history; effect = x })) waits
        (λ t. goes (gets_named r _ _ (cell_named_lem (N.cells _ (ltb-true _ _ t)))) (create_named (record { content = record { value = (register_named a).value } })))
    turn_named f cells (Read r w) e h =
        cell_both (TurnNamed Q K) waits
        (λ k ek. some_both (TurnNamed Q K) waits
        (λ c ec. giving_named r _ _ (all_at (CellNamed Q K) s.cells k c q.cells ec).content.value))
    turn_named f cells (Write w a) e h = through_named w _ (λ k. writing_named s q j.label j.history k _ (register_named a))
    turn_named f cells (Relabel w o) e h = through_named w _ (λ k. relabelling_named s q j.label j.history k o)
    turn_named f cells (Lower l) e h =
        given_both (TurnNamed Q K) waits
        (λ t. goes (record { block = n.block; position = omega arith; registers = n.registers; eight = n.eight }) keep_named)
    turn_named f cells (Start b) e h = goes moved_named (starting_named s q j.label j.history b (ltb-true _ _ e))
    turn_named f cells (Exec w) e h = through_named w _ (executing_named s q j.label j.history)
    turn_named f cells (Choose r a b) e h =
        plain_both (TurnNamed Q K) waits
        (λ x ex.
        let i = chosen_both (λ b. b < blocks) x a b (ltb-true _ _ (both_left _ _ e)) (ltb-true _ _ (both_right _ _ e)) in
        goes moved_named (starting_named s q _ _ _ i))

  -- the events
  module _ (ok : SoundBook K) (has : BookHas Q K) where
    -- a step of a block; one that does not exist has none
    step_ok : (b i : ℕ) (p : Step) → get_elem? (block_of K b).steps i ≡ some p
        → step_named (has_cell_shape K) (length K.cells) (length K.blocks) p ≡ true
    step_ok b i p e =
        all_at _ (block_of K b).steps i p (all_get (SoundBlock K) K.blocks b no_block ok.blocks (record { few = omega arith; named = tt })).named e

    step_has : (b i : ℕ) (p : Step) → get_elem? (block_of K b).steps i ≡ some p → Q (step_number p)
    step_has b i p e = all_at _ (block_of K b).steps i p (all_get _ K.blocks b no_block has.blocks tt) e

    module _ (s : State H) (q : StateNamed Q K s) where
      same : {n : ℕ} → OutcomeNamed Q K (record { answer = n; state = s })
      same = record { state = q }

      brought_named : (v n : ℕ) → value_exists K s v n ≡ true → Q n → Named Q blocks (value_of v n)
      brought_named v n t h = value_named_lem _ _ (both_right _ _ t) (rw (number_is v n) h)

      outcome_named : (e : Event) → EventHas Q e → OutcomeNamed Q K (outcome_of A size K s e)
      unfolding outcome_of
      outcome_named (StepOf i) h =
          some_both (OutcomeNamed Q K) same
          (λ j ej. some_both (OutcomeNamed Q K) same
          (λ p ep.
          let m = at_inside (block_of K j.block).steps j.position p ep in
          turn_landed_lem Q K s i q
          (turn_named s q j (all_at (JobNamed Q K) s.jobs i j q.jobs ej) m _ _ p
          (step_ok j.block j.position p ep) (step_has j.block j.position p ep))))
      outcome_named (WriteBy l k v n) h =
          given_both (OutcomeNamed Q K) same
          (λ t. landed_named Q K s s q q (writing_named s q l _ k _ (record { value = brought_named v n (both_right _ _ (both_right _ _ t)) h })))
      outcome_named (RelabelBy l k o) h = given_both (OutcomeNamed Q K) same (λ t. landed_named Q K s s q q (relabelling_named s q l _ k o))
      outcome_named (NewBy l i v n) h =
          given_both (OutcomeNamed Q K) same
          (λ t. landed_named Q K s s q q (making_named s q l _ i _ (record { value = brought_named v n (both_right _ _ (both_right _ _ t)) h })))
      outcome_named (ExecBy l k) h = given_both (OutcomeNamed Q K) same (λ t. landed_named Q K s s q q (executing_named s q l _ k))
      outcome_named (StartBy l b) h =
          given_both (OutcomeNamed Q K) same (λ t. landed_named Q K s s q q (starting_named s q l _ b (ltb-true _ _ (both_right _ _ t))))

    after_named : (es : List Event) → All (EventHas Q) es → (s : State H) → StateNamed Q K s → StateNamed Q K (state_after A size K s es)
    unfolding state_after
    after_named [] h s q = q
    after_named (e ∷ es) h s q = after_named es h.1 (outcome_of A size K s e).state (outcome_named s q e h.0).state

    declared_named : (d : Declared) → cell_named (has_cell_shape K) (length K.cells) (length K.blocks) d ≡ true → Q (number_of d.value) → CellNamed Q K (declared A d)
    unfolding cell_named
    declared_named d e h = record { content = record { value = value_named_lem _ _ (both_right _ _ e) h } }

    pub state_after_has : (l : Label) (es : List Event) → All (EventHas Q) es → StateNamed Q K (state_after A size K (fresh_state A K l) es)
    state_after_has l es h =
        after_named es h (fresh_state A K l)
        (record {
          cells = mapped _ _ (declared A) (λ d n. n) K.cells (all_both _ _ (λ d. CellNamed Q K (declared A d)) declared_named K.cells ok.cells has.cells);
          jobs = (fresh_named 0 l _ ok.some_block, tt);
        })

-- any numbers
abbrev pub Any : ℕ → Type 0
Any n = Unit {0}

pub state_after_named : (A : Histories) (K : Book) (size : ℕ) → SoundBook K → (l : Label) (es : List Event) → StateNamed Any K (state_after A size K (fresh_state A K l) es)
state_after_named A K size ok l es =
    state_after_has Any A K size (record { none = tt; sums = λ x y t. tt; cells = λ k h. tt }) ok
    (record { cells = all_each _ (λ d. tt) K.cells; blocks = all_each _ (λ b. all_each _ (λ p. tt) b.steps) K.blocks }) l es (all_each _ (λ e. tt) es)

-- "64 blocks or 64 steps in a block"
pub record Few {H : Type 0} (j : Job H) : Type 0 where
  pub block : j.block < 64
  pub position : j.position ≤ 64

pub job_few : (K : Book) → SoundBook K → {Q : ℕ → Type 0} {H : Type 0} (j : Job H) → JobNamed Q K j → Few j
job_few K ok j n =
    let b = all_get (SoundBlock K) K.blocks j.block no_block ok.blocks (record { few = omega arith; named = tt }) in
    record { block = omega (arith, n.block, ok.few); position = omega (arith, n.position, b.few) }
