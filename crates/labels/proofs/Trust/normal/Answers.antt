-- A trust above C is its own normal, any other counts as 0.
use Rattle.std.proofs.Common.{rules, ◌≡◌, Bool, true, false}
use Rattle.labels.specs.Labels.{trust, is_high, normal}
use Rattle.labels.specs.declared.Label.{Label}
use Rattle.labels.specs.declared.Trust.{Trust}
use Rattle.labels.proofs.Trust.normal.Goals as goal

module _ (t : Trust) (c : Label) (b : Bool) (e : b ≡ is_high t c) where
  high : b ≡ true → t ≡ normal c t
  unfolding normal
  high h = simp (normal, ← e, h)

  low : b ≡ false → trust 0 ≡ normal c t
  unfolding normal
  low h = simp (normal, ← e, h)

pub returns-then-is_high : goal.returns-then-is_high
returns-then-is_high c = high _ _ _ c.is_high.ensures c.if-is_high.true

pub returns-else-is_high : goal.returns-else-is_high
returns-else-is_high c = low _ _ _ c.is_high.ensures c.if-is_high.false
