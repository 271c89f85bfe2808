-- `walk::skip_steps` meets its contract. Assumes nothing.
use mathlib.Core.Path.{ap, ◌∙◌}
use Rattle.records.proofs.Skips.{pass_end, pass_more, pass_stop}
use Rattle.records.proofs.walk.skip_steps.Goals as goal

pub returns-then-group_of-ne-STEPS : goal.returns-then-group_of-ne-STEPS
returns-then-group_of-ne-STEPS c =
    pass_stop _ _ _ _ c.loop-o.invariant.1 _ _ c.in-Some.ensures.steps.1.2 _ c.group_of.ensures c.if-group_of-ne-STEPS.true

pub loop-o-preserved : goal.loop-o-preserved
loop-o-preserved c = (
  ap (λ b. b.now) c.in-Some.ensures.steps.0 ∙ c.loop-o.invariant.0,
  pass_more _ _ _ _ c.loop-o.invariant.1 _ _ c.in-Some.ensures.steps.1.2 _ c.group_of.ensures c.if-group_of-ne-STEPS.false,
)

pub returns : goal.returns
returns c = pass_end _ _ _ _ c.loop-o.invariant.1 c.in-None.ensures.steps.1.0
