-- Which job a turn of a round steps.
--     step_left                      a job has a step left exactly when a step of it is done or blocked
--     first_in_ring, next_in_ring    job 0 is first, and no job with a step left is passed over
-- Assumes nothing.
use mathlib.Core.Path.{◌≡◌, refl, sym, ap, ◌∙◌}
use mathlib.Core.Bool.{Bool, true, false}
use mathlib.Core.Option.{Option, none, some}
use mathlib.Core.List.{List, [], ◌∷◌, map}
use Prim.Native.Nat.{ℕ, zero, suc, ◌+◌, ◌≤◌, ◌<◌}
use native.Mathlib.Omega.{arith}
use lib.Dec.{ltb}
use lib.ListN.{length, take, get_elem?}
use borrow.Author.Tests.{ltb-true, ltb-false}
use Rattle.labels.proofs.Impossible.{impossible}
use Rattle.book.specs.declared.Step.{Step}
use Rattle.book.specs.Control.{on_some}
use Rattle.book.specs.Book.{Book}
use Rattle.book.proofs.Lists.{at_none}
use Rattle.machine.specs.declared.Event.TheVariants.{StepOf}
use Rattle.machine.specs.Histories.{Histories}
use Rattle.machine.specs.States.{Job, State}
use Rattle.machine.specs.Acts.{Effect, blocked, keep, store, create, launch}
use Rattle.machine.specs.Steps.{turn_of}
use Rattle.machine.specs.Events.{fresh_state, Outcome, unchanged, no_step_left, no_such, block_of, landed, turn_landed, outcome_of, state_after}
use Rattle.std.specs.Prelude.{Some}
use Rattle.rotation.specs.Round.{first_place, unfinished, has_step, next_job, stepped, place_after, chosen_jobs, round_of}
use Rattle.rotation.specs.Fairness.{after_turns}
use Rattle.rotation.specs.Order.{StepLeft, FirstInRing, PassedOver, NextInRing}
use Rattle.rotation.proofs.Entries.{entry_drop, entry_inside, entry_there}
use Rattle.rotation.proofs.Ring.{by_order, far, far_on, far_wraps, first_on, first_wraps}
use Rattle.rotation.proofs.Kept.{kept}
use Rattle.rotation.proofs.Rounds.{has_inside, next_inside, next_finds, chosen_on, first_next, Later, later}

-- ---- a step left
module _ {H : Type 0} where
  -- an effect is done or blocked
  landed_answer : (s t : State H) (e : Effect H) → (landed s t e).answer ≤ 1
  unfolding landed
  landed_answer s t blocked = omega arith
  landed_answer s t keep = omega arith
  landed_answer s t (store k c) = omega arith
  landed_answer s t (create c) = omega arith
  landed_answer s t (launch j) = omega arith

  -- of the steps of a block, and a position
  module _ (ps : List Step) (k : ℕ) (s : State H) (f : Step → Outcome H) (g : (p : Step) → (f p).answer ≤ 1) where
    step_there : ltb k (length ps) ≡ true → (on_some (get_elem? ps k) (unchanged no_step_left s) f).answer ≤ 1
    unfolding on_some
    step_there e = go (get_elem? ps k) refl
      where
        go : (o : Option Step) → get_elem? ps k ≡ o → (on_some (get_elem? ps k) (unchanged no_step_left s) f).answer ≤ 1
        go none q = absurd (entry_there ps k (ltb-true _ _ e) q)
        go (some p) q = rw q (g p)

    step_over : ltb k (length ps) ≡ false → 2 ≤ (on_some (get_elem? ps k) (unchanged no_step_left s) f).answer
    unfolding on_some
    step_over e = rw (at_none ps k (ltb-false _ _ e)) (omega arith)

module _ (A : Histories) (size : ℕ) (K : Book) (s : State A.H) (i : ℕ) where
  open A use {H}

  -- by the entry of job i
  abbrev step_outcome : Option (Job H) → Outcome H
  step_outcome o =
      on_some o (unchanged no_such s)
      (λ j. on_some (get_elem? (block_of K j.block).steps j.position) (unchanged no_step_left s)
      (λ p. turn_landed s i (turn_of A size s j p)))

  turn_answer : (j : Job H) (p : Step) → (turn_landed s i (turn_of A size s j p)).answer ≤ 1
  unfolding turn_landed
  turn_answer j p = landed_answer s _ _

  entry_left : (o : Option (Job H)) → on_some o false (unfinished K) ≡ true → (step_outcome o).answer ≤ 1
  unfolding on_some
  entry_left none e = impossible cc
  entry_left (some j) e = step_there (block_of K j.block).steps j.position s _ (turn_answer j) e

  entry_over : (o : Option (Job H)) → on_some o false (unfinished K) ≡ false → 2 ≤ (step_outcome o).answer
  unfolding on_some
  entry_over none e = omega arith
  entry_over (some j) e = step_over (block_of K j.block).steps j.position s _ (turn_answer j) e

pub step_left : StepLeft
unfolding has_step outcome_of
step_left A size K s i = record { left = entry_left A size K s i (get_elem? s.jobs i); over = entry_over A size K s i (get_elem? s.jobs i) }

-- ---- the next job
-- job b is next, from behind job a: no job between them, around the ring, has a step left
module _ {H : Type 0} (K : Book) (s : State H) (a b : ℕ) (la : a < length s.jobs) (e : next_job K s (place_after a) ≡ Some b) where
  abbrev m : ℕ
  m = length s.jobs

  -- a job with a step left is no nearer than b
  near : (i : ℕ) → has_step K s i ≡ true → far m (first_place (suc a) m) b ≤ far m (first_place (suc a) m) i
  near i h =
      let f = next_finds K s (place_after a) i h in
      let q = f.is in
      let z : f.at ≡ b = cc in
      let w = ap (far m (first_place (suc a) m)) z in
      let n = f.near in
      omega arith

  -- so none has, where it is nearer
  none_nearer : (i : ℕ) → (i < m → far m (first_place (suc a) m) i < far m (first_place (suc a) m) b) → has_step K s i ≡ false
  none_nearer i n = go (has_step K s i) refl
    where
      go : (c : Bool) → has_step K s i ≡ c → has_step K s i ≡ false
      go false h = h
      go true h = let x = near i h in let y = n (has_inside K s i h) in absurd (omega arith)

  lb : b < m
  lb = next_inside K s (place_after a) b e

  passed_over : PassedOver K s a b
  passed_over =
      record {
        between = λ l i ai ib. none_nearer i (λ im.
            let t = lb in
            let z : suc a < m = omega arith in
            rw (first_on (suc a) m z) (let x = far_on m (suc a) i (omega arith) in let y = far_on m (suc a) b (omega arith) in omega arith));
        behind = λ l i ai. none_nearer i (λ im.
            let z : suc a < m = omega arith in
            rw (first_on (suc a) m z) (let x = far_on m (suc a) i (omega arith) in let y = far_wraps m (suc a) b (omega arith) in omega arith));
        before = λ l i ib. none_nearer i (λ im. by_order (suc a) m
            (λ z. rw (first_on (suc a) m z) (let x = far_wraps m (suc a) i (omega arith) in let y = far_wraps m (suc a) b (omega arith) in omega arith))
            (λ z. rw (first_wraps (suc a) m z) (let x = far_on m 0 i (omega arith) in let y = far_on m 0 b (omega arith) in omega arith)));
      }

-- ---- turn by turn
module _ (A : Histories) (size : ℕ) (K : Book) where
  open A use {H}

  -- the job of a round's second turn is the next one behind the first's
  second_next : (n : ℕ) (s : State H) (from a b : ℕ) → get_elem? (chosen_jobs A size K n s from) 0 ≡ some a → get_elem? (chosen_jobs A size K n s from) 1 ≡ some b
      → next_job K (stepped A size K s a) (place_after a) ≡ Some b
  unfolding chosen_jobs
  second_next zero s from a b ea eb = impossible cc
  second_next (suc n) s from a b ea eb =
      let q = first_next A size K (suc n) s from a ea in
      first_next A size K n (stepped A size K s a) (place_after a) b (sym (ap (λ (l : List ℕ). get_elem? l 1) (chosen_on A size K n s from a q)) ∙ eb)

  -- one turn more
  state_next : (js : List ℕ) (p : ℕ) (s : State H) (a : ℕ) → get_elem? js p ≡ some a
      → state_after A size K s (map StepOf (take (suc p) js)) ≡ stepped A size K (state_after A size K s (map StepOf (take p js))) a
  unfolding state_after
  state_next [] p s a e = impossible cc
  state_next (j ∷ js) zero s a e = let z : j ≡ a = cc in rw z
  state_next (j ∷ js) (suc p) s a e = state_next js p (stepped A size K s j) a e

pub first_in_ring : FirstInRing
first_in_ring A size K l turns i e =
    let q = first_next A size K turns (fresh_state A K l) 0 i e in
    let h = next_inside K (fresh_state A K l) 0 i q in
    omega arith

pub next_in_ring : NextInRing
next_in_ring A size K l turns p a b ea eb =
    let js = round_of A size K l turns in
    let s = after_turns A size K l turns p in
    let h = entry_inside js p a ea in
    let z : p + 0 ≡ p = omega arith in
    let o : p + 1 ≡ suc p = omega arith in
    let r : Later A size K turns p (fresh_state A K l) js = later A size K p turns (fresh_state A K l) 0 (omega arith) (omega arith) in
    let fa = ap (λ (l : List ℕ). get_elem? l 0) (sym r.rest) ∙ entry_drop js p 0 ∙ ap (get_elem? js) z ∙ ea in
    let fb = ap (λ (l : List ℕ). get_elem? l 1) (sym r.rest) ∙ entry_drop js p 1 ∙ ap (get_elem? js) o ∙ eb in
    let q = second_next A size K r.turns s r.place a b fa fb in
    let i = next_inside K s r.place a (first_next A size K r.turns s r.place a fa) in
    let m = (kept A size K s a).more in
    rw (state_next A size K js p (fresh_state A K l) a ea) (passed_over K (stepped A size K s a) a b (omega arith) q)
