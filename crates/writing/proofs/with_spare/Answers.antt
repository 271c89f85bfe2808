-- `with_spare` meets its contract. Assumes nothing.
use mathlib.Core.Path.{◌≡◌, sym, ap, ◌∙◌}
use Rattle.book.specs.Outcome.{Refused, ground_number, outcome}
use Rattle.writing.proofs.Judged.{join_none, join_passed, join_before, join_behind, by_five}
use Rattle.writing.proofs.with_spare.Goals as goal

-- no spare field
pub returns-in_default : goal.returns-in_default
returns-in_default c = join_none _ _ c.in_default.is

-- passed
pub returns-in-Ok : goal.returns-in-Ok
returns-in-Ok c = by_five _ _ _ c.at.ensures (join_passed _ _ _ c.in-Some.is (ap outcome c.in-Ok.is))

-- by a number before 5
pub returns-then-number-lt5 : goal.returns-then-number-lt5
returns-then-number-lt5 c =
    let n : Refused (ground_number c.in-Err.e.why) c.in-Err.e.place ≡ Refused c.number-number.result c.in-Err.e.place
    = ap (λ n. Refused n c.in-Err.e.place) (sym c.number-number.ensures) in
    n ∙ join_before _ _ _ c.in-Some.is _ _ (ap outcome c.in-Err.is ∙ n) c.if-number-lt5.true

-- by 5 or a later one
pub returns-else-number-lt5 : goal.returns-else-number-lt5
returns-else-number-lt5 c =
    let h : outcome c.args.read ≡ Refused c.number-number.result c.in-Err.e.place
    = ap outcome c.in-Err.is ∙ ap (λ n. Refused n c.in-Err.e.place) (sym c.number-number.ensures) in
    by_five _ _ _ c.at-in-Err.ensures (join_behind _ _ _ c.in-Some.is _ _ h _ c.if-number-lt5.false c.earlier_of.ensures)
