-- `read_clear` meets its contract. Assumes nothing.
use mathlib.Core.Path.{refl, sym, ap, ◌∙◌}
use Rattle.std.proofs.Common.{Err, rules, ◌≡◌}
use Rattle.book.specs.Outline.{read_by}
use Rattle.book.proofs.Outcomes.{passed_so, read_err}
use Rattle.book.proofs.Readable.{clear_small, clear_outlined, clear_refused, clear_read}
use Rattle.reading.proofs.read_clear.Goals as goal

pub outline-outline-requires : goal.outline-outline-requires
outline-outline-requires c = clear_small _ c.requires.0 c.requires.1

pub name_fault-requires : goal.name_fault-requires
name_fault-requires c = clear_outlined _ c.requires.0 c.requires.1 _ c.outline-outline.ensures

pub returns-in_err-refuse : goal.returns-in_err-refuse
returns-in_err-refuse c =
    let h : c.from_residual.result ≡ Err _ = search rules in
    ap read_by h ∙ read_err _ 6 _ _ _ refl c.in_err-refuse.ensures (clear_refused _ c.requires.0 c.requires.1 _ c.name_fault.ensures)

pub returns : goal.returns
returns c = clear_read _ c.requires.0 c.requires.1 _ c.name_fault.ensures _ (passed_so 6 _ c.in_ok-refuse.ensures) c.outline-outline.ensures
