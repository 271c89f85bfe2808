-- `next_job` meets its contract: two loops, of the jobs ahead of the place and of those behind it. Assumes nothing.
use mathlib.Core.Path.{◌≡◌, sym, ap, ◌∙◌}
use Prim.Native.Nat.{ℕ, zero, suc, ◌+◌, ◌-◌, ◌<◌, ◌≤◌}
use native.Mathlib.Omega.{arith}
use mathlib.Core.Bool.{Bool, true, false}
use borrow.Author.Tests.{lt-ltb, le-ltb}
use Rattle.rotation.specs.Found.{JobFound}
use Rattle.std.specs.Prelude.{Some, None}
use Rattle.rotation.specs.Round.{first_place, scan}
use Rattle.rotation.specs.Scans.{is_pending}
use Rattle.rotation.proofs.Ring.{scan_hits, all_ahead, hits_ahead, misses_ahead, none_ahead, misses_behind}
use Rattle.rotation.proofs.next_job.Goals as goal

-- a place of the first loop, b of the places behind the first being left, and one of the second
module _ (f : ℕ → Bool) (m : ℕ) (x : JobFound) where
  hit_ahead : (b i : ℕ) → i < m → scan f m (m - i + b) (first_place i m) ≡ x → f i ≡ true → Some i ≡ x
  hit_ahead b i l s e =
      let q : suc (m - (i + 1)) ≡ m - i = omega arith in
      hits_ahead f m (m - (i + 1)) b i e l ∙ ap (λ (k : ℕ). scan f m (k + b) (first_place i m)) q ∙ s

  miss_ahead : (b i : ℕ) → i < m → scan f m (m - i + b) (first_place i m) ≡ x → f i ≡ false → scan f m (m - (i + 1) + b) (first_place (i + 1) m) ≡ x
  miss_ahead b i l s e =
      let q : suc (m - (i + 1)) ≡ m - i = omega arith in
      misses_ahead f m (m - (i + 1)) b i e l ∙ ap (λ (k : ℕ). scan f m (k + b) (first_place i m)) q ∙ s

  past_ahead : (b i : ℕ) → m ≤ i → scan f m (m - i + b) (first_place i m) ≡ x → scan f m (b - 0) 0 ≡ x
  past_ahead b i l s =
      let p : b - 0 ≡ b = omega arith in
      let q : zero ≡ m - i = omega arith in
      ap (λ (k : ℕ). scan f m k 0) p ∙ none_ahead f m b i l ∙ ap (λ (k : ℕ). scan f m (k + b) (first_place i m)) q ∙ s

  hit_behind : (b i : ℕ) → i < b → scan f m (b - i) i ≡ x → f i ≡ true → Some i ≡ x
  hit_behind b i l s e =
      let q : suc (b - (i + 1)) ≡ b - i = omega arith in
      sym (scan_hits f m (b - (i + 1)) i e) ∙ ap (λ (k : ℕ). scan f m k i) q ∙ s

  miss_behind : (b i : ℕ) → i < b → b < m → scan f m (b - i) i ≡ x → f i ≡ false → scan f m (b - (i + 1)) (i + 1) ≡ x
  miss_behind b i l r s e =
      let q : suc (b - (i + 1)) ≡ b - i = omega arith in
      misses_behind f m (b - (i + 1)) i e (omega arith) ∙ ap (λ (k : ℕ). scan f m k i) q ∙ s

  past_behind : (b i : ℕ) → b ≤ i → scan f m (b - i) i ≡ x → None ≡ x
  unfolding scan
  past_behind b i l s = let q : zero ≡ b - i = omega arith in ap (λ (k : ℕ). scan f m k i) q ∙ s

pub loop-at-init : goal.loop-at-init
loop-at-init c = all_ahead _ c.args.count c.args.from c.requires.0

pub returns-then-jobs-at-gt0 : goal.returns-then-jobs-at-gt0
returns-then-jobs-at-gt0 c =
    hit_ahead (is_pending c.args.jobs.now) _ _ c.args.from _ c.loop-at-test.true c.loop-at.invariant (lt-ltb 0 _ c.if-jobs-at-gt0.true)

pub loop-at-preserved : goal.loop-at-preserved
loop-at-preserved c =
    miss_ahead (is_pending c.args.jobs.now) _ _ c.args.from _ c.loop-at-test.true c.loop-at.invariant (le-ltb 0 _ c.if-jobs-at-gt0.false)

pub loop-at-2-init : goal.loop-at-2-init
loop-at-2-init c = past_ahead (is_pending c.args.jobs.now) _ _ c.args.from _ c.loop-at-test.false c.loop-at.invariant

pub returns-then-jobs-at-gt0-2 : goal.returns-then-jobs-at-gt0-2
returns-then-jobs-at-gt0-2 c =
    hit_behind (is_pending c.args.jobs.now) c.args.count _ c.args.from _ c.loop-at-2-test.true c.loop-at-2.invariant (lt-ltb 0 _ c.if-jobs-at-gt0-2.true)

pub loop-at-2-preserved : goal.loop-at-2-preserved
loop-at-2-preserved c =
    miss_behind (is_pending c.args.jobs.now) c.args.count _ c.args.from _ c.loop-at-2-test.true c.requires.0 c.loop-at-2.invariant
    (le-ltb 0 _ c.if-jobs-at-gt0-2.false)

pub returns : goal.returns
returns c = past_behind (is_pending c.args.jobs.now) c.args.count _ c.args.from _ c.loop-at-2-test.false c.loop-at-2.invariant
