-- `stages::count_fault` meets its contract. Assumes nothing.
use mathlib.Core.Path.{refl, sym, ap, ◌∙◌}
use Rattle.book.specs.Refusals.{count_fault}
use Rattle.book.proofs.Stages.{none_few}
use Rattle.faults.proofs.Sweeps.{count_hit, count_rest}
use Rattle.faults.proofs.stages.count_fault.Goals as goal

pub loop-o-init : goal.loop-o-init
unfolding count_fault
loop-o-init c = rw (c.into_iter-o-iterator.ensures.into_iter_gives, c.new-o-items.ensures) (refl, none_few, refl)

pub loop-o-preserved : goal.loop-o-preserved
loop-o-preserved c = (
  ap (λ b. b.now) c.in-Some.ensures.steps.0 ∙ c.loop-o.invariant.0,
  sym c.too_many-many.ensures ∙ c.if-many.false,
  count_rest _ _ _ _ c.loop-o.invariant.2 _ _ c.in-Some.ensures.steps.1.2 _ _ _ c.group_of.ensures c.count-n.ensures c.too_many-many.ensures c.if-many.false,
)

pub returns-then-many : goal.returns-then-many
returns-then-many c =
    count_hit _ _ _ _ c.loop-o.invariant.2 _ _ c.in-Some.ensures.steps.1.2 _ _ _ c.group_of.ensures c.count-n.ensures c.too_many-many.ensures c.if-many.true
