-- `check` meets its contract. Assumes nothing.
use Rattle.std.proofs.Common.{Err, rules, ◌≡◌}
use Rattle.checking.proofs.Tables.{answer_passed, answer_outline, answer_typed, answer_err}
use Rattle.checking.proofs.check.Goals as goal

pub returns-in_err-t : goal.returns-in_err-t
returns-in_err-t c =
    let h : c.from_residual.result ≡ Err _ = search rules in
    answer_err _ _ _ h c.in_err-t.ensures

pub type_book-requires : goal.type_book-requires
type_book-requires c = (answer_passed _ _ c.in_ok-t.ensures, answer_outline _ _ c.in_ok-t.ensures)

pub returns : goal.returns
returns c = answer_typed _ _ c.in_ok-t.ensures _ c.type_book.ensures
