-- The jobs that a round steps, turn by turn.
--     has_none, has_inside, has_same            a job with a step left stands in the table, and has it as long as its entry stands
--     next_passes, next_inside, next_none       the next job has a step left; where there is none, no job has
--     next_finds                                it is no further around the ring than any job with a step left
--     chosen_on, chosen_over                    a turn of a round, and its end
--     first_next                                the job of the first turn is the next one
--     chosen_few                                no more turns than it is given
--     Later, later                              a round after its first turns is the round from the state and the place that these leave
-- Assumes nothing.
use mathlib.Core.Path.{◌≡◌, refl, ap, ◌∙◌}
use mathlib.Core.Bool.{true, false}
use mathlib.Core.Option.{some}
use mathlib.Core.List.{List, [], ◌∷◌, map}
use Prim.Native.Nat.{ℕ, zero, suc, ◌+◌, ◌≤◌, ◌<◌}
use native.Mathlib.Omega.{arith}
use lib.ListN.{length, take, drop, get_elem?}
use Rattle.labels.proofs.Impossible.{impossible}
use Rattle.book.specs.Control.{on_some}
use Rattle.book.specs.Book.{Book}
use Rattle.book.proofs.Lists.{at_none}
use Rattle.machine.specs.declared.Event.TheVariants.{StepOf}
use Rattle.machine.specs.Histories.{Histories}
use Rattle.machine.specs.States.{State}
use Rattle.machine.specs.Events.{state_after}
use Rattle.rotation.specs.Found.{JobFound}
use Rattle.std.specs.Prelude.{Some, None}
use Rattle.rotation.specs.Round.{first_place, has_step, next_job, stepped, place_after, chosen_jobs}
use Rattle.rotation.proofs.Ring.{by_order, first_inside, far_inside, Finds, finds, scan_passes, scan_none}
use Rattle.rotation.proofs.Kept.{kept}

module _ {H : Type 0} (K : Book) where
  pub has_none : (s : State H) (i : ℕ) → length s.jobs ≤ i → has_step K s i ≡ false
  unfolding has_step on_some
  has_none s i h = simp (at_none s.jobs i h)

  pub has_inside : (s : State H) (i : ℕ) → has_step K s i ≡ true → i < length s.jobs
  has_inside s i h = by_order i (length s.jobs) (λ l. l) (λ l. let e = has_none s i l in impossible cc)

  pub has_same : (s t : State H) (i : ℕ) → get_elem? t.jobs i ≡ get_elem? s.jobs i → has_step K t i ≡ has_step K s i
  unfolding has_step
  has_same s t i e = rw e

  module _ (s : State H) (from : ℕ) where
    pub next_passes : (j : ℕ) → next_job K s from ≡ Some j → has_step K s j ≡ true
    unfolding next_job
    next_passes j e = scan_passes (has_step K s) _ _ _ j e

    pub next_inside : (j : ℕ) → next_job K s from ≡ Some j → j < length s.jobs
    next_inside j e = has_inside s j (next_passes j e)

    pub next_none : next_job K s from ≡ None → (i : ℕ) → has_step K s i ≡ false
    unfolding next_job
    next_none e i =
        by_order i (length s.jobs)
        (λ l. scan_none (has_step K s) (length s.jobs) _ e (first_inside from (length s.jobs) (omega arith)) i l)
        (λ l. has_none s i l)

  -- the next job of a round in which job i has a step left: it is no further than i
  pub next_finds : (s : State H) (from i : ℕ) → has_step K s i ≡ true
      → Finds (has_step K s) (length s.jobs) (first_place from (length s.jobs)) i (next_job K s from)
  unfolding next_job
  next_finds s from i h =
      let m = length s.jobs in
      let l : i < m = has_inside s i h in
      let b : first_place from m < m = first_inside from m (omega arith) in
      finds (has_step K s) m i h l m (first_place from m) b (far_inside m (first_place from m) i (omega arith) l)

module _ (A : Histories) (size : ℕ) (K : Book) where
  open A use {H}

  module _ (n : ℕ) (s : State H) (from : ℕ) where
    pub chosen_on : (j : ℕ) → next_job K s from ≡ Some j → chosen_jobs A size K (suc n) s from ≡ j ∷ chosen_jobs A size K n (stepped A size K s j) (place_after j)
    unfolding chosen_jobs
    chosen_on j e = simp (chosen_jobs, e)

    pub chosen_over : next_job K s from ≡ None → chosen_jobs A size K (suc n) s from ≡ []
    unfolding chosen_jobs
    chosen_over e = simp (chosen_jobs, e)

  -- the job of a round's first turn is the next one
  pub first_next : (n : ℕ) (s : State H) (from i : ℕ) → get_elem? (chosen_jobs A size K n s from) 0 ≡ some i → next_job K s from ≡ Some i
  unfolding chosen_jobs
  first_next zero s from i e = impossible cc
  first_next (suc n) s from i e = go (next_job K s from) refl
    where
      go : (x : JobFound) → next_job K s from ≡ x → next_job K s from ≡ Some i
      go (Some j) q =
          let c = ap (λ (l : List ℕ). get_elem? l 0) (chosen_on n s from j q) in
          let z : j ≡ i = cc in
          q ∙ ap Some z
      go None q = let c = ap (λ (l : List ℕ). get_elem? l 0) (chosen_over n s from q) in impossible cc

  pub chosen_few : (n : ℕ) (s : State H) (from : ℕ) → length (chosen_jobs A size K n s from) ≤ n
  unfolding chosen_jobs
  chosen_few zero s from = omega arith
  chosen_few (suc n) s from = go (next_job K s from) refl (λ j. chosen_few n (stepped A size K s j) (place_after j))
    where
      go : (x : JobFound) → next_job K s from ≡ x → ((j : ℕ) → length (chosen_jobs A size K n (stepped A size K s j) (place_after j)) ≤ n)
          → length (chosen_jobs A size K (suc n) s from) ≤ suc n
      go (Some j) e next = let r = next j in rw (chosen_on n s from j e) (omega arith)
      go None e next = rw (chosen_over n s from e) (omega arith)

  -- after p turns of a round of n turns from s, whose jobs are js: so many turns are left, from this place on
  pub record Later (n p : ℕ) (s : State H) (js : List ℕ) : Type 0 where
    pub turns : ℕ
    pub place : ℕ
    pub all : turns + p ≡ n
    pub rest : drop p js ≡ chosen_jobs A size K turns (state_after A size K s (map StepOf (take p js))) place
    pub within : place ≤ length (state_after A size K s (map StepOf (take p js))).jobs
    pub fits : length s.jobs ≤ size → length (state_after A size K s (map StepOf (take p js))).jobs ≤ size

  pub later : (p n : ℕ) (s : State H) (from : ℕ) → from ≤ length s.jobs → p ≤ length (chosen_jobs A size K n s from)
      → Later n p s (chosen_jobs A size K n s from)
  unfolding state_after chosen_jobs
  later zero n s from lf h = record { turns = n; place = from; all = omega arith; rest = refl; within = lf; fits = λ ls. ls }
  later (suc p) zero s from lf h = absurd (omega arith)
  later (suc p) (suc n) s from lf h = go (next_job K s from) refl (λ j. later p n (stepped A size K s j) (place_after j))
    where
      go : (x : JobFound) → next_job K s from ≡ x
          → ((j : ℕ) → place_after j ≤ length (stepped A size K s j).jobs → p ≤ length (chosen_jobs A size K n (stepped A size K s j) (place_after j))
          → Later n p (stepped A size K s j) (chosen_jobs A size K n (stepped A size K s j) (place_after j)))
          → Later (suc n) (suc p) s (chosen_jobs A size K (suc n) s from)
      go (Some j) e next =
          let c = chosen_on n s from j e in
          let k = kept A size K s j in
          let m = k.more in
          let i = next_inside K s from j e in
          let g = rw c at h in
          let r = next j (omega arith) (omega arith) in
          let a = r.all in
          rw c (record { turns = r.turns; place = r.place; all = omega arith; rest = r.rest; within = r.within; fits = λ ls. r.fits (k.fits ls) })
      go None e next = let c = chosen_over n s from e in let g = rw c at h in absurd (omega arith)
