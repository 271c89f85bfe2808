-- `laying::lay_steps` meets its contract. Assumes nothing.
use mathlib.Core.Path.{◌∙◌}
use Prim.Native.Nat.{◌+◌, ◌≤◌}
use native.Mathlib.Omega.{arith}
use lib.ListN.{length}
use Rattle.writing.proofs.Drafts.{steps_none, steps_on, steps_over}
use Rattle.writing.proofs.laying.lay_steps.Goals as goal
use Rattle.writing.proofs.laying.lay_steps.Goals.{then-steps-o-eq-PUT, else-steps-o-eq-PUT}

pub loop-i-init : goal.loop-i-init
loop-i-init c = steps_none _ _ _ _

pub loop-i-preserved : goal.loop-i-preserved
loop-i-preserved c =
    let room : c.loop-i.pen.at + 8 ≤ length c.loop-i.draft = omega arith in
    elim c.if-steps-o-eq-PUT.branch [
      | then-steps-o-eq-PUT w ↦ steps_on _ _ _ _ _ _ _ c.loop-i.invariant c.loop-i.auto.i _ _ _ room w.put_entry.ensures
          (w.draft-is ∙ w.lay-pen.ensures.draft_after) (w.pen-is ∙ w.lay-pen.ensures.value)
      | else-steps-o-eq-PUT w ↦ steps_on _ _ _ _ _ _ _ c.loop-i.invariant c.loop-i.auto.i _ _ _ room w.other_entry.ensures
          (w.draft-is ∙ w.lay-pen-else-steps-o-eq-PUT.ensures.draft_after) (w.pen-is ∙ w.lay-pen-else-steps-o-eq-PUT.ensures.value)
    ]

-- the draft is full
pub returns-then-limit-pen : goal.returns-then-limit-pen
returns-then-limit-pen c = steps_over _ _ _ _ _ _ _ c.loop-i.invariant c.loop-i.auto.i _ (omega arith) (omega arith)
