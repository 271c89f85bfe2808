-- `stages::order_fault` meets its contract. Assumes nothing.
use mathlib.Core.Path.{refl, ap, ◌∙◌}
use Rattle.book.specs.Refusals.{order_fault}
use Rattle.faults.proofs.Sweeps.{order_hit, order_rest}
use Rattle.faults.proofs.stages.order_fault.Goals as goal

pub loop-o-init : goal.loop-o-init
unfolding order_fault
loop-o-init c = rw (c.into_iter-o-iterator.ensures.into_iter_gives, c.new-o-items.ensures) (refl, refl)

pub loop-o-preserved : goal.loop-o-preserved
loop-o-preserved c = (
  ap (λ b. b.now) c.in-Some.ensures.steps.0 ∙ c.loop-o.invariant.0,
  order_rest _ _ _ _ c.loop-o.invariant.1 _ _ c.in-Some.ensures.steps.1.2 _ _ c.group_of-g.ensures c.in_order.ensures _ c.if-not-in_order.false c.block_group-p.ensures,
)

pub returns-then-not-in_order : goal.returns-then-not-in_order
returns-then-not-in_order c =
    order_hit _ _ _ _ c.loop-o.invariant.1 _ _ c.in-Some.ensures.steps.1.2 _ _ c.group_of-g.ensures c.in_order.ensures c.if-not-in_order.true
