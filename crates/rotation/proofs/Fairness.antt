-- A round is fair.
--     fair, fair_64     a job with a step left waits through fewer turns of others than the tables have entries
--     ends_early        a round ends early only when no job has a step left
--     chosen_can        a job that is chosen has a step left
-- Each other job's turn brings the place at which the next scan begins nearer to the job that waits (`closer`). Assumes nothing.
use mathlib.Core.Path.{◌≡◌, refl, sym, ap, ◌∙◌}
use mathlib.Core.Bool.{Bool, true, false}
use mathlib.Core.Option.{some}
use mathlib.Core.List.{List, []}
use Prim.Native.Nat.{ℕ, zero, suc, ◌+◌, ◌≤◌, ◌<◌}
use native.Mathlib.Omega.{arith}
use lib.Dec.{eqb}
use lib.ListN.{length, get_elem?, length-drop}
use lib.Seq.{drop-length}
use borrow.Author.Tests.{eqb-true, eqb-false}
use Rattle.labels.proofs.Impossible.{impossible}
use Rattle.book.specs.Book.{Book}
use Rattle.machine.specs.Histories.{Histories}
use Rattle.machine.specs.States.{State}
use Rattle.machine.specs.Events.{table_size, fresh_state}
use Rattle.rotation.specs.Found.{JobFound}
use Rattle.std.specs.Prelude.{Some, None}
use Rattle.rotation.specs.Round.{first_place, has_step, next_job, stepped, place_after, chosen_jobs, round_of}
use Rattle.rotation.specs.Fairness.{after_turns, Fair, Fair64, EndsEarly, ChosenCan}
use Rattle.rotation.proofs.Entries.{entry_drop, entry_inside}
use Rattle.rotation.proofs.Ring.{far, far_inside, Finds, closer}
use Rattle.rotation.proofs.Kept.{kept}
use Rattle.rotation.proofs.Rounds.{has_inside, has_same, next_passes, next_none, next_finds, chosen_on, first_next, Later, later}

module _ (A : Histories) (size : ℕ) (K : Book) where
  open A use {H}

  -- from any state: as many turns of others as i is far
  waits : (k n : ℕ) (s : State H) (from i : ℕ) → from ≤ length s.jobs → length s.jobs ≤ size → has_step K s i ≡ true
      → k ≤ length (chosen_jobs A size K n s from) → ((x : ℕ) → x < k → get_elem? (chosen_jobs A size K n s from) x ≡ some i → ⊥) → k ≤ far size from i
  unfolding chosen_jobs
  waits zero n s from i lf ls h few others = omega arith
  waits (suc k) zero s from i lf ls h few others = absurd (omega arith)
  waits (suc k) (suc n) s from i lf ls h few others =
      go (eqb at i) refl (λ a b c d e. waits k n (stepped A size K s at) (place_after at) i a b c d e)
    where
      f : Finds (has_step K s) (length s.jobs) (first_place from (length s.jobs)) i (next_job K s from)
      f = next_finds K s from i h

      at : ℕ
      at = f.at

      go : (b : Bool) → eqb at i ≡ b
          → (place_after at ≤ length (stepped A size K s at).jobs → length (stepped A size K s at).jobs ≤ size → has_step K (stepped A size K s at) i ≡ true
          → k ≤ length (chosen_jobs A size K n (stepped A size K s at) (place_after at))
          → ((x : ℕ) → x < k → get_elem? (chosen_jobs A size K n (stepped A size K s at) (place_after at)) x ≡ some i → ⊥) → k ≤ far size (place_after at) i)
          → suc k ≤ far size from i
      go true e next =
          let c = chosen_on A size K n s from at f.is in
          absurd (others 0 (omega arith) (ap (λ (l : List ℕ). get_elem? l 0) c ∙ ap some (eqb-true at i e)))
      go false e next =
          let ne : (at ≡ i → ⊥) = eqb-false at i e in
          let c = chosen_on A size K n s from at f.is in
          let im : i < length s.jobs = has_inside K s i h in
          let am : at < length s.jobs = f.inside in
          let nearer = closer size (length s.jobs) from at i lf ls am im ne f.near in
          let t = kept A size K s at in
          let m = t.more in
          let lc : length (chosen_jobs A size K (suc n) s from) ≡ suc (length (chosen_jobs A size K n (stepped A size K s at) (place_after at))) = ap length c in
          let r = next (omega arith) (t.fits ls) (has_same K s (stepped A size K s at) i (t.others i ne im) ∙ h) (omega arith)
          (λ x l q. others (suc x) (omega arith) (ap (λ (js : List ℕ). get_elem? js (suc x)) c ∙ q)) in
          omega arith

pub fair : Fair
fair A size z K l turns p k i w =
    let t = w.taken in
    let js = round_of A size K l turns in
    let r : Later A size K turns p (fresh_state A K l) js = later A size K p turns (fresh_state A K l) 0 (omega arith) (omega arith) in
    let s = after_turns A size K l turns p in
    let lp = r.within in
    let ls = r.fits (omega arith) in
    let d = length-drop p js in
    let e = ap length r.rest in
    let im : i < length s.jobs = has_inside K s i w.left in
    let b = far_inside size r.place i (omega arith) (omega arith) in
    let v = waits A size K k r.turns s r.place i lp ls w.left (omega arith)
    (λ x lx q. w.others x lx (sym (entry_drop js p x) ∙ ap (λ (l : List ℕ). get_elem? l x) r.rest ∙ q)) in
    omega arith

module _ (A : Histories) (size : ℕ) where
  -- no turn is left, or no job has a step left
  over : (K : Book) (n : ℕ) (s : State A.H) (from : ℕ) → 0 < n → chosen_jobs A size K n s from ≡ [] → (i : ℕ) → has_step K s i ≡ false
  over K zero s from z e = absurd (omega arith)
  over K (suc n) s from z e = go (next_job K s from) refl
    where
      go : (x : JobFound) → next_job K s from ≡ x → (i : ℕ) → has_step K s i ≡ false
      go (Some j) p = let c = chosen_on A size K n s from j p in impossible cc
      go None p = next_none K s from p

pub ends_early : EndsEarly
ends_early A size K l turns h =
    let js = round_of A size K l turns in
    let r : Later A size K turns (length js) (fresh_state A K l) js = later A size K (length js) turns (fresh_state A K l) 0 (omega arith) (omega arith) in
    let a = r.all in
    over A size K r.turns (after_turns A size K l turns (length js)) r.place (omega arith) (sym r.rest ∙ drop-length js)

pub chosen_can : ChosenCan
chosen_can A size K l turns p i e =
    let js = round_of A size K l turns in
    let b = entry_inside js p i e in
    let z : p + 0 ≡ p = omega arith in
    let r : Later A size K turns p (fresh_state A K l) js = later A size K p turns (fresh_state A K l) 0 (omega arith) (omega arith) in
    next_passes K (after_turns A size K l turns p) r.place i (first_next A size K r.turns (after_turns A size K l turns p) r.place i
    (ap (λ (l : List ℕ). get_elem? l 0) (sym r.rest) ∙ entry_drop js p 0 ∙ ap (get_elem? js) z ∙ e))

pub fair_64 : Fair64
fair_64 A K l turns p k i w = let h = fair A table_size (omega arith) K l turns p k i w in omega arith
