-- `read` meets its contract. A book comes to `read_clear` by one of two ways: the one pass cleared it, or none of the four stages refused it. Assumes nothing.
use mathlib.Core.Path.{refl, sym, ap, ◌∙◌}
use Rattle.std.proofs.Common.{Err, rules, ◌≡◌}
use Rattle.book.specs.Asked.{Clear}
use Rattle.book.specs.Outline.{read_by}
use Rattle.book.proofs.Outcomes.{passed_so, read_err}
use Rattle.book.proofs.Readable.{pass_whole, refuse1, refuse2, refuse3, refuse4, refuse5}
use Rattle.reading.proofs.read.Goals.{then-not-clear+in_ok-refuse+in_ok-refuse-2+in_ok-refuse-3+in_ok-refuse-4, else-not-clear}
use Rattle.reading.proofs.read.Goals as goal

pub returns-then-book-gt-LONGEST : goal.returns-then-book-gt-LONGEST
returns-then-book-gt-LONGEST c = ap (λ e. read_by (Err e)) c.at.ensures ∙ refuse1 _ _ c.if-book-gt-LONGEST.true refl

pub returns-in_err-refuse : goal.returns-in_err-refuse
returns-in_err-refuse c =
    let h : c.from_residual.result ≡ Err _ = search rules in
    ap read_by h ∙ read_err _ 2 _ _ _ c.cut_fault.ensures c.in_err-refuse.ensures (refuse2 _ c.if-book-gt-LONGEST.false)

pub order_fault-requires : goal.order_fault-requires
order_fault-requires c = pass_whole _ (sym c.cut_fault.ensures ∙ passed_so 2 _ c.in_ok-refuse.ensures)

pub returns-in_err-refuse-2 : goal.returns-in_err-refuse-2
returns-in_err-refuse-2 c =
    let h : c.from_residual-in_err-refuse-2.result ≡ Err _ = search rules in
    ap read_by h
    ∙ read_err _ 3 _ _ _ c.order_fault.ensures c.in_err-refuse-2.ensures
    (refuse3 _ c.if-book-gt-LONGEST.false (sym c.cut_fault.ensures ∙ passed_so 2 _ c.in_ok-refuse.ensures))

pub count_fault-requires : goal.count_fault-requires
count_fault-requires c = pass_whole _ (sym c.cut_fault.ensures ∙ passed_so 2 _ c.in_ok-refuse.ensures)

pub returns-in_err-refuse-3 : goal.returns-in_err-refuse-3
returns-in_err-refuse-3 c =
    let h : c.from_residual-in_err-refuse-3.result ≡ Err _ = search rules in
    ap read_by h
    ∙ read_err _ 4 _ _ _ c.count_fault.ensures c.in_err-refuse-3.ensures
    (refuse4 _ c.if-book-gt-LONGEST.false (sym c.cut_fault.ensures ∙ passed_so 2 _ c.in_ok-refuse.ensures)
    (sym c.order_fault.ensures ∙ passed_so 3 _ c.in_ok-refuse-2.ensures))

pub range_fault-requires : goal.range_fault-requires
range_fault-requires c = pass_whole _ (sym c.cut_fault.ensures ∙ passed_so 2 _ c.in_ok-refuse.ensures)

pub returns-in_err-refuse-4 : goal.returns-in_err-refuse-4
returns-in_err-refuse-4 c =
    let h : c.from_residual-in_err-refuse-4.result ≡ Err _ = search rules in
    ap read_by h
    ∙ read_err _ 5 _ _ _ c.range_fault.ensures c.in_err-refuse-4.ensures
    (refuse5 _ c.if-book-gt-LONGEST.false (sym c.cut_fault.ensures ∙ passed_so 2 _ c.in_ok-refuse.ensures)
    (sym c.order_fault.ensures ∙ passed_so 3 _ c.in_ok-refuse-2.ensures) (sym c.count_fault.ensures ∙ passed_so 4 _ c.in_ok-refuse-3.ensures))

pub read_clear-requires : goal.read_clear-requires
read_clear-requires c =
    elim c.if-not-clear.branch [
      | then-not-clear+in_ok-refuse+in_ok-refuse-2+in_ok-refuse-3+in_ok-refuse-4 w ↦ (
        c.if-book-gt-LONGEST.false,
        record {
          whole = sym w.cut_fault.ensures ∙ passed_so 2 _ w.in_ok-refuse.ensures;
          ordered = sym w.order_fault.ensures ∙ passed_so 3 _ w.in_ok-refuse-2.ensures;
          few = sym w.count_fault.ensures ∙ passed_so 4 _ w.in_ok-refuse-3.ensures;
          narrow = sym w.range_fault.ensures ∙ passed_so 5 _ w.in_ok-refuse-4.ensures;
        },
      )
      | else-not-clear w ↦ (c.if-book-gt-LONGEST.false, search rules)
    ]
