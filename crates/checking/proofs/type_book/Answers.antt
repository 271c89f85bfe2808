-- `type_book` meets its contract. Assumes nothing.
use Rattle.std.proofs.Common.{Err, rules, ◌≡◌}
use Rattle.book.proofs.Outcomes.{passed_so}
use Rattle.checking.proofs.Tables.{refuse7, refuse8, accept, typed_err}
use Rattle.checking.proofs.type_book.Goals as goal

pub returns-in_err-refuse : goal.returns-in_err-refuse
returns-in_err-refuse c =
    let h : c.from_residual.result ≡ Err _ = search rules in
    typed_err _ 7 _ _ _ h c.in_err-refuse.ensures (refuse7 _ c.requires.0 _ c.requires.1 _ c.cell_fault.ensures)

pub returns-in_err-refuse-2 : goal.returns-in_err-refuse-2
returns-in_err-refuse-2 c =
    let h : c.from_residual-in_err-refuse-2.result ≡ Err _ = search rules in
    typed_err _ 8 _ _ _ h c.in_err-refuse-2.ensures
    (refuse8 _ c.requires.0 _ c.requires.1 _ c.cell_fault.ensures (passed_so 7 _ c.in_ok-refuse.ensures) _ c.step_fault.ensures)

pub returns : goal.returns
returns c =
    accept _ c.requires.0 _ c.requires.1 _ c.cell_fault.ensures (passed_so 7 _ c.in_ok-refuse.ensures) _ c.step_fault.ensures
    (passed_so 8 _ c.in_ok-refuse-2.ensures)
