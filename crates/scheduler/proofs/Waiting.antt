-- A job with a step left, as the loop keeps it beside the jobs.
--     past_fits                                    where a step ends is a number of 16 bits
--     has_step_lem                                     what is kept is what the machine says
--     pends_start, pends_moved, pends_launched     at the start, behind a step, and with a job more
-- Assumes nothing.
use mathlib.Core.Path.{◌≡◌, refl, sym, ap, ◌∙◌}
use mathlib.Core.Bool.{Bool, true, false}
use mathlib.Core.Option.{none}
use mathlib.Core.List.{List, [], ◌∷◌}
use Prim.Native.Nat.{ℕ, zero, suc, ◌+◌, ◌-◌, ◌<◌, ◌≤◌}
use native.Mathlib.Omega.{arith}
use borrow.Author.Rules.{Fits-under}
use borrow.Author.Tests.{eqb-true, eqb-false, lt-ltb, le-ltb, ltb-true, ltb-false}
use mir.Val.{Fits}
use mir.Syntax.{w16}
use lib.Dec.{ltb, eqb}
use lib.ListN.{length, get_or, set, get_elem?, replicate, length-set}
use lib.Seq.{get_or-set_same}
use Rattle.labels.proofs.Impossible.{impossible}
use Rattle.labels.specs.declared.Label.{Label}
use Rattle.book.specs.Control.{on_some}
use Rattle.book.specs.Book.{parse, step_at}
use Rattle.book.specs.Stretch.{step_end}
use Rattle.book.proofs.Decoded as Decoded
use Rattle.machine.specs.States.{State}
use Rattle.machine.specs.Events.{block_of}
use Rattle.acts.specs.declared.StoredCell.{StoredCell}
use Rattle.acts.specs.declared.StoredJob.{StoredJob}
use Rattle.interpreter.specs.Loop.{Holds}
use Rattle.interpreter.proofs.Arrays.{other_stays}
use Rattle.interpreter.proofs.Lands.{job_there, no_step, step_some}
use Rattle.rotation.specs.declared.Pending.{Pending}
use Rattle.rotation.specs.Round.{has_step}
use Rattle.rotation.proofs.Entries.{entry_inside}
use Rattle.scheduler.specs.Scheduled.{Pends}

-- the offset past a step is inside the book
end_inside : (b : List ℕ) (o u : ℕ) → u ≡ step_end b o → u ≤ length b
end_inside b o u e = go (eqb u 0) refl
  where
    go : (t : Bool) → eqb u 0 ≡ t → u ≤ length b
    go true q = let z = eqb-true u 0 q in omega arith
    go false q = Decoded.found_inside b o u (step_at b o) _ (Decoded.step_some b o u e (eqb-false u 0 q) (step_at b o) refl) refl

pub past_fits : (b : List ℕ) (o u : ℕ) → length b ≤ 32768 → u ≡ step_end b o → Fits w16 u
past_fits b o u h e = Fits-under w16 u 32769 (let l = end_inside b o u e in omega arith) tt

entry_past : {A : Type 0} (l : List A) (i : ℕ) → get_elem? l i ≡ none → length l ≤ i
entry_past [] i e = omega arith
entry_past (y ∷ ys) zero e = impossible cc
entry_past (y ∷ ys) (suc i) e = let h = entry_past ys i e in omega arith

-- u is where the next step of job i ends
module _ {b : List ℕ} {s : State Label} {cells : List StoredCell} {n : ℕ} {jobs : List StoredJob} {m : ℕ} (h : Holds b s cells n jobs m) (i : ℕ) (d : StoredJob)
    (r : i < m) (u : ℕ) (eu : u ≡ step_end b (get_or jobs i d).at) where
  some_left : (u ≡ 0 → ⊥) → has_step (parse b) s i ≡ true
  unfolding has_step on_some
  some_left z =
      simp (job_there h i d r)
      (lt-ltb (get_or jobs i d).position (length (block_of (parse b) (get_or jobs i d).block).steps)
      (entry_inside (block_of (parse b) (get_or jobs i d).block).steps (get_or jobs i d).position _
      (step_some b (get_or jobs i d) (h.placed i d r) (step_at b (get_or jobs i d).at) u
      (sym (Decoded.step_some b (get_or jobs i d).at u eu z (step_at b (get_or jobs i d).at) refl)))))

  none_left : u ≡ 0 → has_step (parse b) s i ≡ false
  unfolding has_step on_some
  none_left z =
      simp (job_there h i d r)
      (le-ltb (get_or jobs i d).position (length (block_of (parse b) (get_or jobs i d).block).steps)
      (entry_past (block_of (parse b) (get_or jobs i d).block).steps (get_or jobs i d).position
      (no_step b (get_or jobs i d) (h.placed i d r) (sym (Decoded.step_none b (get_or jobs i d).at u eu z)))))

  pub has_step_lem : ltb 0 u ≡ has_step (parse b) s i
  has_step_lem = go (ltb 0 u) refl
    where
      go : (t : Bool) → ltb 0 u ≡ t → t ≡ has_step (parse b) s i
      go true q = sym (some_left (λ z. let l = ltb-true 0 u q in absurd (omega arith)))
      go false q = sym (none_left (let l = ltb-false 0 u q in omega arith))

-- what is no longer the last stands before it
behind : (m k : ℕ) → k < m + 1 → (m ≡ k → ⊥) → k < m
behind m k h n = go (m - k) refl
  where
    go : (i : ℕ) → m - k ≡ i → k < m
    go zero e = absurd (n (omega arith))
    go (suc i) e = omega arith

-- entry i of both is written
pends_set : (b : List ℕ) (jobs : List StoredJob) (m i : ℕ) (pending : List Pending) (g : StoredJob) (y : Pending) → length jobs ≡ 64 → length pending ≡ 64 → i < 64
    → y.past ≡ step_end b g.at
    → ((k : ℕ) (p : Pending) (d : StoredJob) → k < m → (i ≡ k → ⊥) → (get_or pending k p).past ≡ step_end b (get_or jobs k d).at)
    → Pends b (set jobs i g) m (set pending i y)
pends_set b jobs m i pending g y lj lp h e f = record { long = length-set pending i y ∙ lp; each = each }
  where
    each : (k : ℕ) (p : Pending) (d : StoredJob) → k < m → (get_or (set pending i y) k p).past ≡ step_end b (get_or (set jobs i g) k d).at
    each k p d r = go (eqb i k) refl
      where
        go : (t : Bool) → eqb i k ≡ t → (get_or (set pending i y) k p).past ≡ step_end b (get_or (set jobs i g) k d).at
        go true q = rw (← eqb-true i k q, get_or-set_same pending i y p (omega arith), get_or-set_same jobs i g d (omega arith)) e
        go false q = rw (other_stays pending i k y p (eqb-false i k q), other_stays jobs i k g d (eqb-false i k q)) (f k p d r (eqb-false i k q))

pub pends_start : (b : List ℕ) (unused j : StoredJob) (idle y : Pending) (start : ℕ) → j.at ≡ start → y.past ≡ step_end b start
    → Pends b (set (replicate 64 unused) 0 j) 1 (set (replicate 64 idle) 0 y)
pends_start b unused j idle y start ej ey =
    pends_set b (replicate 64 unused) 1 0 (replicate 64 idle) j y refl refl (omega arith) (ey ∙ ap (step_end b) (sym ej)) (λ k p d r n. absurd (n (omega arith)))

module _ {b : List ℕ} {jobs : List StoredJob} {m : ℕ} {pending : List Pending} (w : Pends b jobs m pending) (lj : length jobs ≡ 64) (g : StoredJob) (y : Pending)
    (u : ℕ) (eg : g.at ≡ u) (ey : y.past ≡ step_end b u) where
  pub pends_moved : (i : ℕ) → i < m → m ≤ 64 → Pends b (set jobs i g) m (set pending i y)
  pends_moved i r l = pends_set b jobs m i pending g y lj w.long (omega arith) (ey ∙ ap (step_end b) (sym eg)) (λ k p d r n. w.each k p d r)

  pub pends_launched : m < 64 → Pends b (set jobs m g) (m + 1) (set pending m y)
  pends_launched l =
      pends_set b jobs (m + 1) m pending g y lj w.long l (ey ∙ ap (step_end b) (sym eg)) (λ k p d r n. w.each k p d (behind m k r n))
