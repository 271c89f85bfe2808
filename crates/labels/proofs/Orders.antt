-- The library's `min` of two labels is the lower one.
--     lower_min, capped_min
-- Assumes nothing.
use mathlib.Core.Path.{ap}
use native.Mathlib.Omega.{arith}
use borrow.Author.Tests.{ltb-true, ltb-false}
use Rattle.std.proofs.Common.{◌≡◌, ℕ, Bool, true, false, cond, nat_lt, ◌==◌, min, refl, is_lt, Less, Equal, Greater}
use Rattle.std.specs.Ordering.{ord_min, nat_cmp}
use Rattle.labels.specs.declared.Label.{Label}
use Rattle.labels.specs.declared.Trust.{Trust}
use Rattle.labels.specs.Labels.{label, lower, capped}

pub lower_min : (a b : Label) → ord_min (λ (x y : Label). nat_cmp x.0 y.0) a b ≡ lower a b
unfolding lower
lower_min a b = go (nat_lt b.0 a.0) refl (b.0 == a.0)
  where
    go : (t : Bool) → nat_lt b.0 a.0 ≡ t → (e : Bool) → cond (is_lt (cond t Less (cond e Equal Greater))) b a ≡ label (min a.0 b.0)
    go true p e = let l = ltb-true _ _ p in ap label (omega arith)
    go false p true = let l = ltb-false _ _ p in ap label (omega arith)
    go false p false = let l = ltb-false _ _ p in ap label (omega arith)

pub capped_min : (t : Trust) (l : Label) → ord_min (λ (x y : Label). nat_cmp x.0 y.0) (label t.0) l ≡ capped t l
unfolding lower capped
capped_min t l = lower_min (label t.0) l
