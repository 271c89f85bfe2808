-- `entries::cell_entry` meets its contract. Assumes nothing.
use Rattle.writing.proofs.Entered.{entered_cell}
use Rattle.writing.proofs.entries.cell_entry.Goals as goal

pub returns : goal.returns
returns c = entered_cell c.args.t.now _ _ (λ i. (c.type_inv.t i).fits) c.known.ensures
