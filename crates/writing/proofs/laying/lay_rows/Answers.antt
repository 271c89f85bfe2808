-- `laying::lay_rows` meets its contract. Assumes nothing.
use native.Mathlib.Omega.{arith}
use Rattle.writing.proofs.Drafts.{each_none, each_on, each_over}
use Rattle.writing.proofs.laying.lay_rows.Goals as goal

pub loop-i-init : goal.loop-i-init
loop-i-init g c = each_none _ _ _

pub loop-i-preserved : goal.loop-i-preserved
loop-i-preserved g c =
    each_on _ _ _ _ _ _ c.loop-i.invariant _ c.entry.ensures _ _ (omega arith) c.lay-pen.ensures.draft_after c.lay-pen.ensures.value

-- the draft is full
pub returns-then-limit-pen : goal.returns-then-limit-pen
returns-then-limit-pen g c = each_over _ _ _ _ _ _ c.loop-i.invariant _ (omega arith) (omega arith)
