-- `xemdulba_run` meets its contract. Assumes nothing.
use mathlib.Core.Path.{refl, sym, ap}
use Rattle.book.specs.Outcome.{Refused}
use Rattle.xemdulba.proofs.Calling.{call_refused, call_place, call_done}
use Rattle.xemdulba.proofs.xemdulba_run.Goals as goal

pub overflow_cast-result : goal.overflow_cast-result
overflow_cast-result c = call_place _ _ _ c.launch_of-given.ensures _ _ _ _ _ _ _ _ _ _ c.in-Err.ensures.answers_after _ _ refl

pub returns-in-Ok : goal.returns-in-Ok
returns-in-Ok c = call_done _ _ _ c.launch_of-given.ensures _ _ _ _ _ _ _ _ _ _ c.in-Ok.ensures.answers_after refl

pub returns-in-Err : goal.returns-in-Err
returns-in-Err c =
    call_refused _ _ _ c.launch_of-given.ensures _ _ _ _ _ _ _ _ _ _ c.in-Err.ensures.answers_after _ _
    (ap (λ n. Refused n c.in-Err.e.place) (sym c.number-code.ensures))
