-- `xemdulba_write` meets its contract. Assumes nothing.
use mathlib.Core.Path.{refl, sym, ap}
use Rattle.book.specs.Outcome.{Refused}
use Rattle.xemdulba.proofs.Wrote.{call_refused, call_done, write_at, write_size}
use Rattle.xemdulba.proofs.xemdulba_write.Goals as goal

pub overflow_cast-size : goal.overflow_cast-size
overflow_cast-size c = write_size _ _ _ _ _ c.in-Ok.ensures refl

pub overflow_cast-result : goal.overflow_cast-result
overflow_cast-result c = write_at _ _ _ _ _ c.in-Err.ensures _ _ refl

pub returns-in-Ok : goal.returns-in-Ok
returns-in-Ok c = call_done _ _ c.label_of.ensures _ _ _ _ _ _ _ _ c.in-Ok.ensures refl

pub returns-in-Err : goal.returns-in-Err
returns-in-Err c =
    call_refused _ _ c.label_of.ensures _ _ _ _ _ _ _ _ c.in-Err.ensures _ _
    (ap (λ n. Refused n c.in-Err.e.place) (sym c.number-cause.ensures))
