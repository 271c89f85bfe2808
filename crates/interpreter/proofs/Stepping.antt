-- Laws of a step of a job, for the code, where the step stands and its cell is looked up. Which list of events it is in plays no part.
--     Stepping                          what is known where a step's cell is looked up
--     step_stands, .., step_launch      what each function of the step asks for, and what holds behind it
-- Assumes nothing.
use mathlib.Core.Path.{◌≡◌, refl, sym, ap, ◌∙◌}
use mathlib.Core.List.{List, map}
use Prim.Native.Nat.{ℕ, zero, suc, ◌+◌, ◌-◌, ◌<◌, ◌≤◌}
use native.Mathlib.Omega.{arith}
use lib.ListN.{length, get_or, set}
use Rattle.labels.specs.declared.Label.{Label}
use Rattle.book.specs.Outcome.{Passed}
use Rattle.std.specs.Prelude.{Some}
use Rattle.book.specs.declared.Value.TheVariants.{CellName}
use Rattle.book.specs.Spans.{byte_at}
use Rattle.book.specs.Book.{blocks_of, step_at}
use Rattle.book.specs.Refusals.{unreadable}
use Rattle.book.specs.Outline.{start_at}
use Rattle.book.specs.Stretch.{step_found, step_end}
use Rattle.book.proofs.Decoded as Decoded
use Rattle.machine.specs.Histories.{sources}
use Rattle.machine.specs.declared.Event.TheVariants.{StepOf}
use Rattle.machine.specs.States.{State}
use Rattle.machine.specs.States as States
use Rattle.machine.specs.Acts.{fresh_job}
use Rattle.machine.specs.Steps.{moved, gets}
use Rattle.machine.specs.Events.{Outcome}
use Rattle.acts.specs.declared.StoredCell.{StoredCell}
use Rattle.acts.specs.declared.StoredJob.{StoredJob}
use Rattle.acts.specs.declared.Stored.{Stored}
use Rattle.acts.specs.declared.Act.{Act}
use Rattle.acts.specs.declared.Act.TheVariants.{Blocked, Give, Lower, Store, Create, Launch}
use Rattle.acts.specs.Views.{value_in, stored_of, job_of, nearby, effect_of, job_after, answer_of, lowered, clamped, sort_of, Only, waits, acts}
use Rattle.turns.specs.Turns.{target_in, reached_in, Takes, Gives, Changes, Launches}
use Rattle.turns.proofs.Targets.{target_number}
use Rattle.interpreter.proofs.Nearby.{Allowed, store_inside, create_room, launch_room}
use Rattle.tables.specs.Opening.{start_in}
use Rattle.interpreter.specs.Loop.{Holds}
use Rattle.interpreter.proofs.Lands.{state_of, afterwards, with_job, cells_in_use, jobs_in_use, in_table}
use Rattle.interpreter.proofs.Lands as Lands
use Rattle.interpreter.proofs.Holding.{holds_entry, holds_job, holds_store, holds_create, holds_launch}
use Rattle.interpreter.proofs.Starts.{placed_fresh}
use Rattle.interpreter.proofs.Going.{Turned}

-- of the cell by another name
pub allowed_at : (s : State Label) (x : Act) (k l : ℕ) → k ≡ l → Allowed s (effect_of l x) → Allowed s (effect_of k x)
allowed_at s x k l e p = rw e p

abbrev pub answering : ℕ → State Label → Outcome Label
answering a s = record { answer = a; state = s }

-- past 72
above : (k b : ℕ) → k ≡ b → 72 ≤ k → (k ≡ 72 → ⊥) → 73 ≤ b
above k b e l n = go (k - 72) refl
  where
    go : (i : ℕ) → k - 72 ≡ i → 73 ≤ b
    go zero q = absurd (n (omega arith))
    go (suc i) q = omega arith

-- a step stands inside the book, and its kind is a step's
pub step_stands : (b : List ℕ) (z u : ℕ) → u ≡ step_end b z → (u ≡ 0 → ⊥) → (z ≤ length b) × (64 ≤ byte_at b z)
step_stands b z u eu un = (omega (arith, Decoded.step_inside b z u eu un), (Decoded.step_kind b z u eu un).0)

-- an effect that is not of the one kind that it could be is blocked
blocks : (n : ℕ) (x : Act) → Only n x → (sort_of x ≡ n → ⊥) → x ≡ Blocked
unfolding sort_of
blocks n Blocked o k = refl
blocks n x (waits e) k = absurd (omega arith)
blocks n x (acts e) k = absurd (k e)

-- x is not of sort n, as the code tells it: by the one kind
abbrev pub Not : ℕ → Act → Type 0
Not (suc zero) x = (r : ℕ) (v : Stored) → x ≡ Give r v → ⊥
Not (suc (suc zero)) x = (l s : Label) → x ≡ Lower l s → ⊥
Not (suc (suc (suc zero))) x = (y : StoredCell) → x ≡ Store y → ⊥
Not (suc (suc (suc (suc zero)))) x = (r : ℕ) (y : StoredCell) → x ≡ Create r y → ⊥
Not (suc (suc (suc (suc (suc zero))))) x = (b : ℕ) (l s : Label) → x ≡ Launch b l s → ⊥
Not n x = sort_of x ≡ n → ⊥

not_sort : (n : ℕ) (x : Act) → Not n x → sort_of x ≡ n → ⊥
unfolding sort_of
not_sort n Blocked k e = (rw (← e) at k) refl
not_sort n (Give r v) k e = (rw (← e) at k) r v refl
not_sort n (Lower l s) k e = (rw (← e) at k) l s refl
not_sort n (Store y) k e = (rw (← e) at k) y refl
not_sort n (Create r y) k e = (rw (← e) at k) r y refl
not_sort n (Launch b l s) k e = (rw (← e) at k) b l s refl

-- a step that stands, its cell looked up: the state and the arrays that hold it, the job's number i, where the step stands, z, and ends, u, the
-- register t that names the cell, and its entry q of the table
pub record Stepping (b starts : List ℕ) (s : State Label) (cells : List StoredCell) (n : ℕ) (jobs : List StoredJob) (m i : ℕ) (d : StoredJob) (z u : ℕ) (t : Stored)
    (q : ℕ) : Type 0 where
  pub holds : Holds b s cells n jobs m
  pub readable : unreadable b ≡ Passed
  pub starts_are : starts ≡ map start_at (blocks_of b)
  pub r : i < m
  pub ez : z ≡ (get_or jobs i d).at
  pub eu : u ≡ step_end b z
  pub un : u ≡ 0 → ⊥
  pub et : stored_of t ≡ target_in (step_at b z) (get_or jobs i d).source (get_or jobs i d).registers
  pub eq : q ≡ clamped t.number

module _ {b starts : List ℕ} {state : State Label} {cells : List StoredCell} {n : ℕ} {jobs : List StoredJob} {m i : ℕ} {d : StoredJob} {z u : ℕ} {t : Stored} {q : ℕ}
    (step : Stepping b starts state cells n jobs m i d z u t q) where
  -- behind the step, with this answer and these tables
  abbrev Onward : ℕ → List StoredCell → ℕ → List StoredJob → ℕ → Type 0
  Onward = Turned b state (StepOf i)

  found : step_found b (get_or jobs i d).at ≡ Some (step_at b z, u)
  found = rw (← step.ez) (sym (Decoded.step_some b z u step.eu step.un (step_at b z) refl))

  place : (z ≤ length b) × (64 ≤ byte_at b z)
  place = step_stands b z u step.eu step.un

  module _ (k : ℕ) (ek : k ≡ byte_at b z) where
    pub step_creates : k ≡ 68 → (byte_at b z ≡ 68) × (z ≤ length b)
    step_creates e = (sym ek ∙ e, place.0)

    pub step_gives : (k ≡ 68 → ⊥) → k < 70
        → Gives (byte_at b z) × (z ≤ length b) × (stored_of t ≡ target_in (step_at b z) (get_or jobs i d).source (get_or jobs i d).registers)
    step_gives a f = (record { from = place.1; to = omega arith; no_new = λ e. a (ek ∙ e) }, place.0, step.et)

    pub step_changes : 70 ≤ k → k < 72
        → Changes (byte_at b z) × (z ≤ length b) × (stored_of t ≡ target_in (step_at b z) (get_or jobs i d).source (get_or jobs i d).registers)
    step_changes a f = (record { from = omega arith; to = omega arith }, place.0, step.et)

    pub step_lowers : k ≡ 72 → (byte_at b z ≡ 72) × (z ≤ length b)
    step_lowers e = (sym ek ∙ e, place.0)

    pub step_launches : 72 ≤ k → (k ≡ 72 → ⊥)
        → Launches (byte_at b z) × (z ≤ length b) × (stored_of t ≡ target_in (step_at b z) (get_or jobs i d).source (get_or jobs i d).registers)
    step_launches a f = (record { from = above k (byte_at b z) ek a f }, place.0, step.et)

  -- the cell there, and what the step does, x
  module _ (dc cell : StoredCell) (ec : cell ≡ get_or cells q dc) (f : ℕ) (x : Act)
      (ex : Takes f (nearby (record { cell = cell; cells = n; jobs = m })) (step_at b z) (get_or jobs i d).label (get_or jobs i d).source (get_or jobs i d).registers x) where
    number_is : t.number ≡ reached_in (step_at b z) (get_or jobs i d).source (get_or jobs i d).registers
    number_is = target_number (step_at b z) (get_or jobs i d).source (get_or jobs i d).registers t step.et

    looked : cell ≡ get_or cells (clamped (reached_in (step_at b z) (get_or jobs i d).source (get_or jobs i d).registers)) dc
    looked = ec ∙ ap (λ q. get_or cells q dc) (step.eq ∙ ap clamped number_is)

    stepped : (g : StoredJob) → job_of g ≡ job_after state (job_of (get_or jobs i d)) x → (a : ℕ) → a ≡ answer_of x
        → (cells' : List StoredCell) (n' : ℕ) (jobs' : List StoredJob) (m' : ℕ)
        → Holds b (state_of state (with_job state i g) t.number x) cells' n' jobs' m'
        → Onward a cells' n' jobs' m'
    stepped g eg a ea cells' n' jobs' m' v =
        record {
          state = state_of state (with_job state i g) t.number x;
          lands =
              Lands.step_done step.holds i d step.r (step_at b z) u found dc cell looked x f ex g eg
              ∙ ap (λ k. afterwards state (with_job state i g) k x) (sym number_is)
              ∙ ap (λ a. answering a (state_of state (with_job state i g) t.number x)) (sym ea);
          holds = v;
        }

    fits : Allowed state (effect_of t.number x)
    fits = allowed_at state x t.number _ number_is (Lands.step_fits step.holds i d step.r (step_at b z) u found dc cell looked x f ex)

    -- the job put back
    put : (g : StoredJob) → g.at ≡ u → (job_of g).block ≡ (get_or jobs i d).block → (job_of g).position ≡ suc (get_or jobs i d).position
        → Holds b (with_job state i g) cells n (set jobs i g) m
    put g eat eb epo =
        holds_job step.holds i g step.r
        (Lands.step_placed step.holds i d step.r (step_at b z) u found dc cell looked x f ex g eat eb epo)

    step_blocked : x ≡ Blocked → Onward 1 cells n jobs m
    unfolding job_after state_of answer_of
    step_blocked e = stepped (get_or jobs i d) (rw e refl) 1 (rw e refl) cells n jobs m (rw e step.holds)

    pub step_waits : Not f x → Onward 1 cells n jobs m
    step_waits k = step_blocked (blocks f x ex.only (not_sort f x k))

    pub step_room : (y : ℕ) (v : StoredCell) → x ≡ Create y v → n < 64
    unfolding effect_of
    step_room y v e = let s = create_room state (rw e at fits) in omega (arith, cells_in_use step.holds)

    pub step_free : (y : ℕ) (l s : Label) → x ≡ Launch y l s → m < 64
    unfolding effect_of
    step_free y l s e = let v = launch_room state (rw e at fits) in omega (arith, jobs_in_use step.holds)

    module _ (g : StoredJob) where
      pub step_give : (y : ℕ) (v : Stored) → x ≡ Give y v → (job_of g ≡ gets sources (job_of (get_or jobs i d)) y (value_in v) v.source) × (g.at ≡ u)
          → Onward 0 cells n (set jobs i g) m
      unfolding job_after state_of answer_of
      step_give y v e eg =
          stepped g (rw e eg.0) 0 (rw e refl) cells n (set jobs i g) m
          (rw e (put g eg.1 (ap (λ (j : States.Job Label). j.block) eg.0) (ap (λ (j : States.Job Label). j.position) eg.0)))

      pub step_lower : (l s : Label) → x ≡ Lower l s → (job_of g ≡ lowered (job_of (get_or jobs i d)) l s) × (g.at ≡ u)
          → Onward 0 cells n (set jobs i g) m
      unfolding job_after state_of answer_of
      step_lower l s e eg =
          stepped g (rw e eg.0) 0 (rw e refl) cells n (set jobs i g) m
          (rw e (put g eg.1 (ap (λ (j : States.Job Label). j.block) eg.0) (ap (λ (j : States.Job Label). j.position) eg.0)))

      pub step_store : (y : StoredCell) → x ≡ Store y → (job_of g ≡ moved sources (job_of (get_or jobs i d))) × (g.at ≡ u)
          → Onward 0 (set cells q y) n (set jobs i g) m
      unfolding job_after state_of effect_of answer_of
      step_store y e eg =
          let v = put g eg.1 (ap (λ (j : States.Job Label). j.block) eg.0) (ap (λ (j : States.Job Label). j.position) eg.0) in
          let s = store_inside state (rw e at fits) in
          let qk : q ≡ t.number
          = step.eq ∙ in_table step.holds t.number (omega (arith, cells_in_use step.holds)) in
          stepped g (rw e eg.0) 0 (rw e refl) (set cells q y) n (set jobs i g) m
          (rw e (holds_entry cells y q t.number qk (holds_store v y t.number)))

      pub step_create : (y : ℕ) (v : StoredCell) → x ≡ Create y v
          → (job_of g ≡ gets sources (job_of (get_or jobs i d)) y (CellName n) (get_or jobs i d).source) × (g.at ≡ u)
          → Onward 0 (set cells n v) (n + 1) (set jobs i g) m
      unfolding job_after state_of answer_of
      step_create y v e eg =
          let s = put g eg.1 (ap (λ (j : States.Job Label). j.block) eg.0) (ap (λ (j : States.Job Label). j.position) eg.0) in
          let l = cells_in_use step.holds in
          stepped g (rw (e, l) eg.0) 0 (rw e refl) (set cells n v) (n + 1) (set jobs i g) m
          (rw e (holds_create s v (step_room y v e)))

      pub step_launch : (y : ℕ) (l s : Label) → x ≡ Launch y l s → (job_of g ≡ moved sources (job_of (get_or jobs i d))) × (g.at ≡ u)
          → (start : ℕ) (child : StoredJob) → start ≡ start_in starts y (length b)
          → (job_of child ≡ fresh_job sources y l s) × (child.at ≡ start) × (child.position ≡ 0) × (child.block ≡ y)
          → Onward 0 cells n (set (set jobs i g) m child) (m + 1)
      unfolding job_after state_of answer_of
      step_launch y l s e eg start child st ch =
          let v = put g eg.1 (ap (λ (j : States.Job Label). j.block) eg.0) (ap (λ (j : States.Job Label). j.position) eg.0) in
          stepped g (rw e eg.0) 0 (rw e refl) cells n (set (set jobs i g) m child) (m + 1)
          (rw e
          (holds_launch v y l s child (step_free y l s e) ch.0
          (placed_fresh b step.readable starts step.starts_are child y ch.3 ch.2 (ch.1 ∙ st))))
