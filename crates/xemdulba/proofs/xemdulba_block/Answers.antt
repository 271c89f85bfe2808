-- `xemdulba_block` meets its contract. Assumes nothing.
use mathlib.Core.Path.{refl, sym, ap}
use Rattle.book.specs.Outcome.{Refused}
use Rattle.xemdulba.proofs.Answers.{found_refused, found_at, found_there, found_start, found_length}
use Rattle.xemdulba.proofs.xemdulba_block.Goals as goal

pub overflow_cast-start : goal.overflow_cast-start
overflow_cast-start c = found_start _ _ _ c.in-Ok.ensures refl

pub overflow_cast-length : goal.overflow_cast-length
overflow_cast-length c = found_length _ _ _ c.in-Ok.ensures refl

pub overflow_cast-result : goal.overflow_cast-result
overflow_cast-result c = found_at _ _ _ c.in-Err.ensures _ _ refl

pub returns-in-Ok : goal.returns-in-Ok
returns-in-Ok c = found_there _ _ _ c.in-Ok.ensures refl

pub returns-in-Err : goal.returns-in-Err
returns-in-Err c = found_refused _ _ _ c.in-Err.ensures _ _ (ap (λ n. Refused n c.in-Err.e.place) (sym c.number-by.ensures))
