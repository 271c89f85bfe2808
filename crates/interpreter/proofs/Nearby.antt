-- An act sees of the cells only the one that it reaches, and of the tables only how full they are.
--     turn_nearby, outside_nearby      so a step, an outsider's event does nearby what it does in the whole state
--     Allowed, turn_allowed, ..        what is new fits
--     step_lands                       what the code hands back for a step lands as the machine's turn
-- Assumes nothing.
use mathlib.Core.Path.{◌≡◌, refl, sym, ap, ◌∙◌}
use mathlib.Core.Bool.{Bool, true, false}
use mathlib.Core.Option.{some}
use mathlib.Core.List.{List, [], ◌∷◌}
use Prim.Native.Nat.{ℕ, zero, suc, ◌<◌}
use native.Mathlib.Omega.{arith}
use lib.Dec.{ltb}
use lib.ListN.{length, get_elem?, length-replicate}
use borrow.Author.Tests.{ltb-true, ltb-false}
use Rattle.labels.proofs.Impossible.{impossible}
use Rattle.labels.specs.declared.Label.{Label}
use Rattle.labels.specs.Labels.{label}
use Rattle.book.specs.declared.Value.{Value}
use Rattle.book.specs.declared.Value.TheVariants.{Plain, CellName, CodeName}
use Rattle.book.specs.declared.Step.{Step}
use Rattle.book.specs.declared.Step.TheVariants.{Put, Name, Code, Add, New, Read, Write, Relabel, Lower, Start, Exec, Choose}
use Rattle.machine.specs.Control.{on_plain, on_cell}
use Rattle.machine.specs.declared.Event.{Event}
use Rattle.machine.specs.declared.Event.TheVariants.{StepOf, WriteBy, RelabelBy, NewBy, ExecBy, StartBy}
use Rattle.machine.specs.Histories.{sources}
use Rattle.machine.specs.States.{Traced, Cell, Job, State}
use Rattle.machine.specs.Acts.{Effect, blocked, keep, store, create, launch, is_free, fresh_job, write_act, relabel_act, new_act, start_act, exec_act}
use Rattle.machine.specs.Steps.{Turn, register, through, read_step, add_step, lower_step, turn_of}
use Rattle.machine.specs.Events.{table_size, landed, turn_landed}
use Rattle.machine.proofs.Cases.{given_both, some_both, plain_both, cell_both, code_both}
use Rattle.book.proofs.Lists.{at_none}
use Rattle.acts.specs.declared.Near.{Near}
use Rattle.acts.specs.declared.Stored.{Stored}
use Rattle.acts.specs.declared.Act as Acts
use Rattle.acts.specs.declared.Act.TheVariants.{Blocked, Give, Store, Create, Launch}
use Rattle.acts.specs.declared.Act.TheVariants as Effects
use Rattle.acts.specs.Views.{cell_of, actor, nearby, effect_of, job_after, turn_taken, kept}
use Rattle.turns.specs.Turns.{number_in, target_by, reached_by, Takes}
use Rattle.outsiders.specs.Outside.{aimed_at, outside}
use Rattle.acts.proofs.Acting.{same_some, same_none}

-- y is what an act looks at in the state s
module _ (s : State Label) (y : Near) (cells_are : length s.cells ≡ y.cells) (jobs_are : length s.jobs ≡ y.jobs) where
  -- cell k is the one that it reaches
  abbrev pub Reached : ℕ → Type 0
  Reached k = k < y.cells → get_elem? s.cells k ≡ some (cell_of y.cell)

  looked : (k : ℕ) → Reached k → get_elem? s.cells k ≡ get_elem? (nearby y).cells k
  looked k r = go (ltb k y.cells) refl
    where
      go : (b : Bool) → ltb k y.cells ≡ b → get_elem? s.cells k ≡ get_elem? (nearby y).cells k
      go true e = let h = ltb-true _ _ e in r h ∙ sym (same_some (cell_of y.cell) y.cells k h)
      go false e =
          let h = ltb-false _ _ e in
          at_none s.cells k (omega (arith, cells_are)) ∙ sym (same_none (cell_of y.cell) y.cells k h)

  cells_full : is_free table_size s.cells ≡ is_free table_size (nearby y).cells
  cells_full = ap (λ n. ltb n 64) (cells_are ∙ sym (length-replicate y.cells (cell_of y.cell)))

  jobs_full : is_free table_size s.jobs ≡ is_free table_size (nearby y).jobs
  jobs_full = ap (λ n. ltb n 64) (jobs_are ∙ sym (length-replicate y.jobs (fresh_job sources 0 (label 0) (label 0))))

  module _ (l h : Label) where
    write_nearby : (k : ℕ) (v : Traced Label) → Reached k → write_act sources s l h k v ≡ write_act sources (nearby y) l h k v
    unfolding write_act
    write_nearby k v r = rw (looked k r) refl

    relabel_nearby : (k : ℕ) (o : Label) → Reached k → relabel_act sources s l h k o ≡ relabel_act sources (nearby y) l h k o
    unfolding relabel_act
    relabel_nearby k o r = rw (looked k r) refl

    make_nearby : (i : ℕ) (v : Traced Label) → new_act sources table_size s l h i v ≡ new_act sources table_size (nearby y) l h i v
    unfolding new_act
    make_nearby i v = rw cells_full refl

    start_nearby : (b : ℕ) → start_act sources table_size s l h b ≡ start_act sources table_size (nearby y) l h b
    unfolding start_act
    start_nearby b = rw jobs_full refl

    exec_nearby : (k : ℕ) → Reached k → exec_act sources table_size s l h k ≡ exec_act sources table_size (nearby y) l h k
    unfolding exec_act
    exec_nearby k r = rw (looked k r, jobs_full) refl

  module _ (j : Job Label) where
    through_same : (w : ℕ) (f g : ℕ → Effect Label) → (Reached (number_in j w) → f (number_in j w) ≡ g (number_in j w)) → Reached (number_in j w)
        → through sources j w f ≡ through sources j w g
    unfolding on_cell
    through_same w f g same r = go (register sources j w).value refl
      where
        go : (v : Value) → (register sources j w).value ≡ v → through sources j w f ≡ through sources j w g
        go (Plain n) e = simp e
        go (CellName k) e =
            let q : f k ≡ g k = rw e at (same r) in
            simp (e, q)
        go (CodeName b) e = simp e

    read_nearby : (r w : ℕ) → Reached (number_in j w) → read_step sources s j r w ≡ read_step sources (nearby y) j r w
    unfolding read_step on_cell
    read_nearby r w t = go (register sources j w).value refl
      where
        go : (v : Value) → (register sources j w).value ≡ v → read_step sources s j r w ≡ read_step sources (nearby y) j r w
        go (Plain n) e = simp e
        go (CellName k) e =
            let q : get_elem? s.cells k ≡ get_elem? (nearby y).cells k = rw e at (looked (number_in j w) t) in
            simp (e, q)
        go (CodeName b) e = simp e

    choose_nearby : (r a b : ℕ) → turn_of sources table_size s j (Choose r a b) ≡ turn_of sources table_size (nearby y) j (Choose r a b)
    unfolding turn_of on_plain
    choose_nearby r a b = go (register sources j r).value refl
      where
        go : (v : Value) → (register sources j r).value ≡ v → turn_of sources table_size s j (Choose r a b) ≡ turn_of sources table_size (nearby y) j (Choose r a b)
        go (Plain n) e = simp (e, start_nearby j.label j.history)
        go (CellName k) e = simp e
        go (CodeName b) e = simp e

    pub turn_nearby : (p : Step) → Reached (reached_by p j) → turn_of sources table_size s j p ≡ turn_of sources table_size (nearby y) j p
    unfolding turn_of target_by
    turn_nearby (Put r n) t = refl
    turn_nearby (Name r k) t = refl
    turn_nearby (Code r b) t = refl
    turn_nearby (Add r a b) t = refl
    turn_nearby (New r i a) t =
        rw (make_nearby j.label j.history i (register sources j a), cells_are, length-replicate y.cells (cell_of y.cell)) refl
    turn_nearby (Read r w) t = read_nearby r w t
    turn_nearby (Write w a) t =
        through_same w (λ k. write_act sources s j.label j.history k (register sources j a))
        (λ k. write_act sources (nearby y) j.label j.history k (register sources j a))
        (write_nearby j.label j.history (number_in j w) (register sources j a)) t
    turn_nearby (Relabel w o) t =
        through_same w (λ k. relabel_act sources s j.label j.history k o) (λ k. relabel_act sources (nearby y) j.label j.history k o)
        (relabel_nearby j.label j.history (number_in j w) o) t
    turn_nearby (Lower q) t = refl
    turn_nearby (Start b) t = rw (start_nearby j.label j.history b) refl
    turn_nearby (Exec w) t =
        through_same w (exec_act sources table_size s j.label j.history) (exec_act sources table_size (nearby y) j.label j.history)
        (exec_nearby j.label j.history (number_in j w)) t
    turn_nearby (Choose r a b) t = choose_nearby r a b

  pub outside_nearby : (e : Event) → Reached (aimed_at e) → outside s e ≡ outside (nearby y) e
  unfolding outside aimed_at
  outside_nearby (StepOf i) t = refl
  outside_nearby (WriteBy q k v n) t = write_nearby q q k _ t
  outside_nearby (RelabelBy q k o) t = relabel_nearby q q k o t
  outside_nearby (NewBy q i v n) t = make_nearby q q i _
  outside_nearby (ExecBy q k) t = exec_nearby q q k t
  outside_nearby (StartBy q b) t = start_nearby q q b

there_inside : {A : Type 0} (l : List A) (k : ℕ) (x : A) → get_elem? l k ≡ some x → k < length l
there_inside [] k x e = impossible cc
there_inside (y ∷ ys) zero x e = omega arith
there_inside (y ∷ ys) (suc k) x e = let h = there_inside ys k x e in omega arith

-- what is written exists, and what is new fits into the tables of the state s
module _ (s : State Label) where
  pub data Allowed : Effect Label → Type 0 where
    blocked_fits : Allowed blocked
    keep_fits : Allowed keep
    store_fits : {k : ℕ} {c : Cell Label} → k < length s.cells → Allowed (store k c)
    create_fits : {c : Cell Label} → length s.cells < 64 → Allowed (create c)
    launch_fits : {j : Job Label} → length s.jobs < 64 → Allowed (launch j)

  pub store_inside : {k : ℕ} {c : Cell Label} → Allowed (store k c) → k < length s.cells
  store_inside (store_fits h) = h

  pub create_room : {c : Cell Label} → Allowed (create c) → length s.cells < 64
  create_room (create_fits h) = h

  pub launch_room : {j : Job Label} → Allowed (launch j) → length s.jobs < 64
  launch_room (launch_fits h) = h

  pub record TurnAllowed (t : Turn Label) : Type 0 where
    pub effect : Allowed t.effect

  module _ (l h : Label) where
    write_allowed : (k : ℕ) (v : Traced Label) → Allowed (write_act sources s l h k v)
    unfolding write_act
    write_allowed k v = some_both Allowed blocked_fits (λ c ec. given_both Allowed blocked_fits (λ e. store_fits (there_inside s.cells k c ec)))

    relabel_allowed : (k : ℕ) (o : Label) → Allowed (relabel_act sources s l h k o)
    unfolding relabel_act
    relabel_allowed k o = some_both Allowed blocked_fits (λ c ec. given_both Allowed blocked_fits (λ e. store_fits (there_inside s.cells k c ec)))

    make_allowed : (i : ℕ) (v : Traced Label) → Allowed (new_act sources table_size s l h i v)
    unfolding new_act
    make_allowed i v = given_both Allowed blocked_fits (λ e. create_fits (ltb-true _ _ e))

    start_allowed : (b : ℕ) → Allowed (start_act sources table_size s l h b)
    unfolding start_act
    start_allowed b = given_both Allowed blocked_fits (λ e. launch_fits (ltb-true _ _ e))

    exec_allowed : (k : ℕ) → Allowed (exec_act sources table_size s l h k)
    unfolding exec_act
    exec_allowed k =
        some_both Allowed blocked_fits
        (λ c ec. code_both Allowed blocked_fits (λ b eb. given_both Allowed blocked_fits (λ e. launch_fits (ltb-true _ _ e))))

  module _ (j : Job Label) where
    waits : TurnAllowed (record { job = j; effect = blocked })
    waits = record { effect = blocked_fits }

    keeps : {i : Job Label} → TurnAllowed (record { job = i; effect = keep })
    keeps = record { effect = keep_fits }

    through_allowed : (w : ℕ) (f : ℕ → Effect Label) → ((k : ℕ) → Allowed (f k)) → TurnAllowed (through sources j w f)
    through_allowed w f g = cell_both TurnAllowed waits (λ k ek. record { effect = g k })

    pub turn_allowed : (p : Step) → TurnAllowed (turn_of sources table_size s j p)
    unfolding turn_of add_step read_step lower_step
    turn_allowed (Put r n) = keeps
    turn_allowed (Name r k) = keeps
    turn_allowed (Code r b) = keeps
    turn_allowed (Add r a b) = plain_both TurnAllowed waits (λ x ex. plain_both TurnAllowed waits (λ y ey. given_both TurnAllowed waits (λ e. keeps)))
    turn_allowed (New r i a) = record { effect = make_allowed j.label j.history i _ }
    turn_allowed (Read r w) = cell_both TurnAllowed waits (λ k ek. some_both TurnAllowed waits (λ c ec. keeps))
    turn_allowed (Write w a) = through_allowed w _ (λ k. write_allowed j.label j.history k _)
    turn_allowed (Relabel w o) = through_allowed w _ (λ k. relabel_allowed j.label j.history k o)
    turn_allowed (Lower q) = given_both TurnAllowed waits (λ e. keeps)
    turn_allowed (Start b) = record { effect = start_allowed j.label j.history b }
    turn_allowed (Exec w) = through_allowed w _ (exec_allowed j.label j.history)
    turn_allowed (Choose r a b) = plain_both TurnAllowed waits (λ n en. record { effect = start_allowed j.label j.history _ })

  pub outside_allowed : (e : Event) → Allowed (outside s e)
  unfolding outside
  outside_allowed (StepOf i) = blocked_fits
  outside_allowed (WriteBy q k v n) = write_allowed q q k _
  outside_allowed (RelabelBy q k o) = relabel_allowed q q k o
  outside_allowed (NewBy q i v n) = make_allowed q q i _
  outside_allowed (ExecBy q k) = exec_allowed q q k
  outside_allowed (StartBy q b) = start_allowed q q b

-- a blocked turn lands the same, whatever became of its job
pub settled_lands : (s : State Label) (i : ℕ) (j g : Job Label) (e : Effect Label)
    → turn_landed s i (record { job = kept j g e; effect = e }) ≡ turn_landed s i (record { job = g; effect = e })
unfolding turn_landed landed kept
settled_lands s i j g blocked = refl
settled_lands s i j g keep = refl
settled_lands s i j g (store k c) = refl
settled_lands s i j g (create c) = refl
settled_lands s i j g (launch n) = refl

-- x is what the code hands back for a step p of job j, which is job i of the state s; y is what it looked at
module _ (s : State Label) (y : Near) (cells_are : length s.cells ≡ y.cells) (jobs_are : length s.jobs ≡ y.jobs) where
  same_after : (j : Job Label) (x : Acts.Act) → job_after s j x ≡ job_after (nearby y) j x
  unfolding job_after
  same_after j Blocked = refl
  same_after j (Give r v) = refl
  same_after j (Effects.Lower q h) = refl
  same_after j (Store c) = refl
  same_after j (Create r c) = rw (cells_are, length-replicate y.cells (cell_of y.cell)) refl
  same_after j (Launch b l h) = refl

  pub step_lands : (p : Step) (l h : Label) (rs : List Stored) (b n i : ℕ) (x : Acts.Act) (a : ℕ)
      → Reached s y cells_are jobs_are (reached_by p (actor l h rs b n)) → Takes a (nearby y) p l h rs x
      → turn_landed s i (turn_taken s (actor l h rs b n) (reached_by p (actor l h rs b n)) x)
      ≡ turn_landed s i (turn_of sources table_size s (actor l h rs b n) p)
  step_lands p l h rs b n i x a r t =
      ap (λ (g : Job Label). turn_landed s i (record { job = g; effect = effect_of (reached_by p (actor l h rs b n)) x })) (same_after (actor l h rs b n) x)
      ∙ ap (turn_landed s i) (t.takes b n)
      ∙ settled_lands s i (actor l h rs b n) (turn_of sources table_size (nearby y) (actor l h rs b n) p).job (turn_of sources table_size (nearby y) (actor l h rs b n) p).effect
      ∙ ap (turn_landed s i) (sym (turn_nearby s y cells_are jobs_are (actor l h rs b n) p r))

  pub step_allowed : (p : Step) (l h : Label) (rs : List Stored) (b n : ℕ) (x : Acts.Act) (a : ℕ)
      → Reached s y cells_are jobs_are (reached_by p (actor l h rs b n)) → Takes a (nearby y) p l h rs x
      → Allowed s (effect_of (reached_by p (actor l h rs b n)) x)
  step_allowed p l h rs b n x a r t =
      let e : effect_of (reached_by p (actor l h rs b n)) x ≡ (turn_of sources table_size s (actor l h rs b n) p).effect
      = ap (λ (t : Turn Label). t.effect) (t.takes b n ∙ refl)
      ∙ sym (ap (λ (t : Turn Label). t.effect) (turn_nearby s y cells_are jobs_are (actor l h rs b n) p r)) in
      rw e (turn_allowed s (actor l h rs b n) p).effect
