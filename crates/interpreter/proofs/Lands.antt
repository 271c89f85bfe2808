-- What the code hands back for an event is what the machine does to the state that the arrays hold.
--     afterwards                      the outcome of an effect
--     step_none, step_done            a step of a job
--     act_done                        an outsider's act
-- Assumes nothing.
use mathlib.Core.Path.{◌≡◌, refl, sym, ap, ◌∙◌}
use mathlib.Core.Bool.{Bool, true, false}
use mathlib.Core.Option.{none, some}
use mathlib.Core.List.{List, [], ◌∷◌, ◌++◌, map}
use Prim.Native.Nat.{ℕ, suc, ◌<◌, ◌≤◌}
use native.Mathlib.Omega.{arith}
use lib.Dec.{ltb}
use lib.ListN.{length, drop, get_or, set, get_elem?}
use borrow.Author.Tests.{lt-ltb, ltb-true, ltb-false}
use Rattle.labels.proofs.Impossible.{impossible}
use Rattle.labels.specs.declared.Label.{Label}
use Rattle.book.specs.declared.Step.{Step}
use Rattle.std.specs.Prelude.{None, Some}
use Rattle.book.specs.Control.{both, on_some}
use Rattle.book.specs.Records.{next}
use Rattle.book.specs.Book.{parse, step_at, steps_from}
use Rattle.book.specs.Stretch.{step_found}
use Rattle.book.proofs.Lists.{at_none}
use Rattle.book.proofs.Records.{walk}
use Rattle.book.proofs.Steps.{steps_end_lem, steps_none, steps_more}
use Rattle.book.proofs.Standing.{there, no, Stood}
use Rattle.machine.specs.declared.Event.{Event}
use Rattle.machine.specs.declared.Event.TheVariants.{StepOf}
use Rattle.machine.specs.Histories.{sources}
use Rattle.machine.specs.States.{State}
use Rattle.machine.specs.States as States
use Rattle.machine.specs.Acts.{fresh_job}
use Rattle.machine.specs.Events.{table_size, no_step_left, no_such, block_of, Outcome, unchanged, landed, turn_landed, outcome_of}
use Rattle.acts.specs.declared.StoredCell.{StoredCell}
use Rattle.acts.specs.declared.StoredJob.{StoredJob}
use Rattle.acts.specs.declared.Act.{Act}
use Rattle.acts.specs.declared.Act.TheVariants.{Blocked, Give, Lower, Store, Create, Launch}
use Rattle.acts.specs.Views.{cell_of, job_of, nearby, effect_of, job_after, answer_of, clamped}
use Rattle.turns.specs.Turns.{reached_by, reached_in, Takes}
use Rattle.outsiders.specs.Outside.{aimed_at, outside}
use Rattle.interpreter.proofs.Nearby.{Reached, outside_nearby, Allowed, outside_allowed, step_lands, step_allowed}
use Rattle.turns.proofs.Targets.{reached_same}
use Rattle.interpreter.specs.Loop.{Placed, Holds}
use Rattle.interpreter.proofs.Arrays.{front_get, front_long, left_some, left_none, left_more}

-- s is the state before, t the same with the actor's step done, and the effect is on cell k
unfoldable pub state_of : State Label → State Label → ℕ → Act → State Label
state_of s t k Blocked = s
state_of s t k (Give r v) = t
state_of s t k (Lower q h) = t
state_of s t k (Store c) = record { cells = set t.cells k (cell_of c); jobs = t.jobs }
state_of s t k (Create r c) = record { cells = t.cells ++ (cell_of c ∷ []); jobs = t.jobs }
state_of s t k (Launch b l h) = record { cells = t.cells; jobs = t.jobs ++ (fresh_job sources b l h ∷ []) }

abbrev pub afterwards : State Label → State Label → ℕ → Act → Outcome Label
afterwards s t k x = record { answer = answer_of x; state = state_of s t k x }

from_landed : (s t : State Label) (k : ℕ) (x : Act) → landed s t (effect_of k x) ≡ afterwards s t k x
unfolding landed effect_of answer_of state_of
from_landed s t k Blocked = refl
from_landed s t k (Give r v) = refl
from_landed s t k (Lower q h) = refl
from_landed s t k (Store c) = refl
from_landed s t k (Create r c) = refl
from_landed s t k (Launch b l h) = refl

-- the state with job i as it now stands
abbrev pub with_job : State Label → ℕ → StoredJob → State Label
with_job s i t = record { cells = s.cells; jobs = set s.jobs i (job_of t) }

-- a step is found inside
found_inside : (b : List ℕ) (o : ℕ) (p : Step) (n : ℕ) → step_found b o ≡ Some (p, n) → o < length b
unfolding step_found both
found_inside b o p n e = go (ltb o (length b)) refl
  where
    go : (t : Bool) → ltb o (length b) ≡ t → o < length b
    go true q = ltb-true _ _ q
    go false q = let x : None ≡ Some (p, n) = simp q at e in impossible cc

-- the steps that are left of a job's block begin where its offset says
module _ (b : List ℕ) (j : StoredJob) (here : Placed b j) where
  none_left : step_found b j.at ≡ None → steps_from b j.at ≡ []
  none_left e = go (ltb j.at (length b)) refl
    where
      go : (t : Bool) → ltb j.at (length b) ≡ t → steps_from b j.at ≡ []
      go true q =
          let h = ltb-true _ _ q in
          steps_none b j.at here.whole h (no b j.at here.whole h None (sym e) refl)
      go false q = steps_end_lem b j.at (ltb-false _ _ q)

  pub no_step : step_found b j.at ≡ None → get_elem? (block_of (parse b) j.block).steps j.position ≡ none
  no_step e =
      left_none (block_of (parse b) j.block).steps j.position (sym here.left ∙ ap (map (step_at b)) (none_left e))

  module _ (p : Step) (n : ℕ) (e : step_found b j.at ≡ Some (p, n)) where
    inside : j.at < length b
    inside = found_inside b j.at p n e

    stood : Stood b j.at p n
    stood = there b j.at here.whole inside (Some (p, n)) (sym e) p n refl

    left_is : drop j.position (block_of (parse b) j.block).steps ≡ p ∷ map (step_at b) (steps_from b n)
    left_is =
        sym here.left ∙ ap (map (step_at b)) (steps_more b j.at here.whole inside stood.kind)
        ∙ rw (stood.is, stood.on) refl

    pub step_some : get_elem? (block_of (parse b) j.block).steps j.position ≡ some p
    step_some = left_some (block_of (parse b) j.block).steps j.position p _ left_is

    -- the offset past a step is an offset of the book
    pub next_inside : n ≤ length b
    next_inside = let w = walk b j.at here.whole inside in rw stood.on w.inside

    -- the job after the step
    pub placed_next : (t : StoredJob) → t.block ≡ j.block → t.position ≡ suc j.position → t.at ≡ n → Placed b t
    placed_next t eb ep ea =
        let w = walk b j.at here.whole inside in
        let q : t.at ≡ next b j.at = ea ∙ stood.on in
        record {
          inside = rw q w.inside;
          whole = rw q w.rest;
          left = rw (ea, eb, ep) (sym (left_more (block_of (parse b) j.block).steps j.position p _ left_is));
          behind = omega (arith, q, ep, w.spanned, here.behind);
        }

-- the arrays hold the state s; c is the cell that is looked up for k
module _ {b : List ℕ} {s : State Label} {cells : List StoredCell} {n : ℕ} {jobs : List StoredJob} {m : ℕ} (h : Holds b s cells n jobs m) where
  pub cells_in_use : length s.cells ≡ n
  cells_in_use = ap length (sym h.cells_are) ∙ front_long cell_of cells n (omega (arith, h.cells_long, h.cells_fit))

  pub jobs_in_use : length s.jobs ≡ m
  jobs_in_use = ap length (sym h.jobs_are) ∙ front_long job_of jobs m (omega (arith, h.jobs_long, h.jobs_fit))

  pub in_table : (k : ℕ) → k < n → clamped k ≡ k
  in_table k r = simp (lt-ltb k 64 (omega (arith, h.cells_fit)))

  reached : (k : ℕ) (d c : StoredCell) → c ≡ get_or cells (clamped k) d → Reached s (record { cell = c; cells = n; jobs = m }) cells_in_use jobs_in_use k
  reached k d c e r =
      sym (ap (λ (l : List (States.Cell Label)). get_elem? l k) h.cells_are)
      ∙ front_get cell_of cells n k d r (omega (arith, h.cells_long, h.cells_fit))
      ∙ ap (λ (c : StoredCell). some (cell_of c)) (ap (λ i. get_or cells i d) (sym (in_table k r)) ∙ sym e)

  pub job_there : (i : ℕ) (d : StoredJob) → i < m → get_elem? s.jobs i ≡ some (job_of (get_or jobs i d))
  job_there i d r =
      sym (ap (λ (l : List (States.Job Label)). get_elem? l i) h.jobs_are)
      ∙ front_get job_of jobs m i d r (omega (arith, h.jobs_long, h.jobs_fit))

  pub step_past : (i : ℕ) → m ≤ i → outcome_of sources table_size (parse b) s (StepOf i) ≡ unchanged no_such s
  unfolding outcome_of on_some
  step_past i r = simp (at_none s.jobs i (omega (arith, jobs_in_use, r)))

  -- the step of job i, which is j
  module _ (i : ℕ) (d : StoredJob) (r : i < m) where
    placed : Placed b (get_or jobs i d)
    placed = h.placed i d r

    pub step_none : step_found b (get_or jobs i d).at ≡ None → outcome_of sources table_size (parse b) s (StepOf i) ≡ unchanged no_step_left s
    unfolding outcome_of on_some
    step_none e = simp (job_there i d r, no_step b (get_or jobs i d) placed e)

    module _ (p : Step) (o : ℕ) (e : step_found b (get_or jobs i d).at ≡ Some (p, o)) (dc c : StoredCell)
        (ec : c ≡ get_or cells (clamped (reached_in p (get_or jobs i d).source (get_or jobs i d).registers)) dc) (x : Act) (f : ℕ)
        (t : Takes f (nearby (record { cell = c; cells = n; jobs = m })) p (get_or jobs i d).label (get_or jobs i d).source (get_or jobs i d).registers x) where
      same : reached_by p (job_of (get_or jobs i d)) ≡ reached_in p (get_or jobs i d).source (get_or jobs i d).registers
      same = reached_same p (get_or jobs i d).source (get_or jobs i d).registers (get_or jobs i d).label (get_or jobs i d).block (get_or jobs i d).position

      seen : Reached s (record { cell = c; cells = n; jobs = m }) cells_in_use jobs_in_use (reached_by p (job_of (get_or jobs i d)))
      seen = rw same (reached _ dc c ec)

      -- g is the job as the code puts it back
      pub step_done : (g : StoredJob) → job_of g ≡ job_after s (job_of (get_or jobs i d)) x
          → outcome_of sources table_size (parse b) s (StepOf i)
          ≡ afterwards s (with_job s i g) (reached_in p (get_or jobs i d).source (get_or jobs i d).registers) x
      unfolding outcome_of on_some turn_landed
      step_done g eg =
          simp (job_there i d r, step_some b (get_or jobs i d) placed p o e)
          (sym (step_lands s (record { cell = c; cells = n; jobs = m }) cells_in_use jobs_in_use p (get_or jobs i d).label (get_or jobs i d).source (get_or jobs i d).registers
          (get_or jobs i d).block (get_or jobs i d).position i x f seen t)
          ∙ ap (λ (g : States.Job Label). landed s (record { cells = s.cells; jobs = set s.jobs i g }) (effect_of (reached_by p (job_of (get_or jobs i d))) x)) (sym eg)
          ∙ ap (λ k. landed s (with_job s i g) (effect_of k x)) same
          ∙ from_landed s (with_job s i g) (reached_in p (get_or jobs i d).source (get_or jobs i d).registers) x)

      pub step_fits : Allowed s (effect_of (reached_in p (get_or jobs i d).source (get_or jobs i d).registers) x)
      step_fits =
          rw (← same)
          (step_allowed s (record { cell = c; cells = n; jobs = m }) cells_in_use jobs_in_use p (get_or jobs i d).label (get_or jobs i d).source (get_or jobs i d).registers
          (get_or jobs i d).block (get_or jobs i d).position x f seen t)

      -- a job that has moved on
      pub step_placed : (g : StoredJob) → g.at ≡ o → (job_of g).block ≡ (get_or jobs i d).block → (job_of g).position ≡ suc (get_or jobs i d).position → Placed b g
      step_placed g ea eb ep = placed_next b (get_or jobs i d) placed p o e g eb ep ea

  -- an outsider's act, which is such
  module _ (e : Event) (dc c : StoredCell) (ec : c ≡ get_or cells (clamped (aimed_at e)) dc) (x : Act)
      (t : effect_of (aimed_at e) x ≡ outside (nearby (record { cell = c; cells = n; jobs = m })) e) where
    act_is : outside s e ≡ effect_of (aimed_at e) x
    act_is =
        outside_nearby s (record { cell = c; cells = n; jobs = m }) cells_in_use jobs_in_use e (reached (aimed_at e) dc c ec) ∙ sym t

    pub act_done : (o : Outcome Label) → o ≡ landed s s (outside s e) → o ≡ afterwards s s (aimed_at e) x
    act_done o q = q ∙ ap (landed s s) act_is ∙ from_landed s s (aimed_at e) x

    pub act_fits : Allowed s (effect_of (aimed_at e) x)
    act_fits = rw (← act_is) (outside_allowed s e)
