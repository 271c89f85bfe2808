-- `naming::name_fault` meets its contract. Assumes nothing.
use mathlib.Core.Path.{refl, ap, ◌∙◌}
use native.Mathlib.Omega.{arith}
use lib.ListN.{length}
use Rattle.book.proofs.Bounds.{few_records}
use Rattle.book.proofs.NameFaults.{name_start}
use Rattle.faults.proofs.Sweeps.{name_hit, name_shape, name_other}
use Rattle.faults.proofs.naming.name_fault.Goals as goal

pub loop-o-init : goal.loop-o-init
loop-o-init c =
    rw (c.into_iter-o-iterator.ensures.into_iter_gives, c.new-o-items.ensures)
    (refl, omega (arith, few_records c.args.s.now 0), name_start _ _ c.requires _ _ _ refl refl refl)

pub returns-then-is_dangling : goal.returns-then-is_dangling
returns-then-is_dangling c =
    name_hit _ _ _ _ _ _ _ c.loop-o.invariant.2 _ _ c.in-Some.ensures.steps.1.2 _ c.is_dangling.ensures c.if-is_dangling.true

pub overflow_add-n : goal.overflow_add-n
overflow_add-n c = omega (arith, c.loop-o.invariant.1, ap length c.in-Some.ensures.steps.1.2)

pub loop-o-preserved-then-group_of-eq-SHAPES : goal.loop-o-preserved-then-group_of-eq-SHAPES
loop-o-preserved-then-group_of-eq-SHAPES c = (
  ap (λ b. b.now) c.in-Some.ensures.steps.0 ∙ c.loop-o.invariant.0,
  omega (arith, c.loop-o.invariant.1, ap length c.in-Some.ensures.steps.1.2),
  name_shape _ _ _ _ _ _ _ c.loop-o.invariant.2 _ _ c.in-Some.ensures.steps.1.2 _ c.is_dangling.ensures c.if-is_dangling.false _ c.group_of.ensures c.if-group_of-eq-SHAPES.true,
)

pub loop-o-preserved : goal.loop-o-preserved
loop-o-preserved c = (
  ap (λ b. b.now) c.in-Some.ensures.steps.0 ∙ c.loop-o.invariant.0,
  omega (arith, c.loop-o.invariant.1, ap length c.in-Some.ensures.steps.1.2),
  name_other _ _ _ _ _ _ _ c.loop-o.invariant.2 _ _ c.in-Some.ensures.steps.1.2 _ c.is_dangling.ensures c.if-is_dangling.false _ c.group_of.ensures c.if-group_of-eq-SHAPES.false,
)
