-- `write` meets its contract. Assumes nothing.
use mathlib.Core.Path.{◌∙◌}
use native.Mathlib.Omega.{arith}
use Rattle.writing.proofs.Judged.{too_long}
use Rattle.writing.proofs.write.Goals as goal

-- refusal 1
pub returns : goal.returns
returns c = too_long _ _ _ (c.in_default-draft_by.ensures.1 ∙ c.in_default.ensures.1) _ (omega (arith, c.in_default-draft_by.ensures.0)) c.at.ensures
