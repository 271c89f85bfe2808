-- `xemdulba_check` meets its contract. Assumes nothing.
use mathlib.Core.Path.{refl, sym, ap}
use Rattle.typing.specs.Verdict.{Refused}
use Rattle.xemdulba.proofs.Answers.{check_refused, check_place, check_accepted, check_shapes, check_cells, check_blocks, check_steps}
use Rattle.xemdulba.proofs.xemdulba_check.Goals as goal

pub overflow_cast-i : goal.overflow_cast-i
overflow_cast-i c = check_shapes _ _ c.in-Ok.ensures _ _ _ _ refl

pub overflow_cast-k : goal.overflow_cast-k
overflow_cast-k c = check_cells _ _ c.in-Ok.ensures _ _ _ _ refl

pub overflow_cast-b : goal.overflow_cast-b
overflow_cast-b c = check_blocks _ _ c.in-Ok.ensures _ _ _ _ refl

pub overflow_cast-p : goal.overflow_cast-p
overflow_cast-p c = check_steps _ _ c.in-Ok.ensures _ _ _ _ refl

pub overflow_cast-result : goal.overflow_cast-result
overflow_cast-result c = check_place _ _ c.in-Err.ensures _ _ refl

pub returns-in-Ok : goal.returns-in-Ok
returns-in-Ok c = check_accepted _ _ c.in-Ok.ensures _ _ _ _ refl

pub returns-in-Err : goal.returns-in-Err
returns-in-Err c = check_refused _ _ c.in-Err.ensures _ _ (ap (λ n. Refused n c.in-Err.e.place) (sym c.number-n.ensures))
