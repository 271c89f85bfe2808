-- `entries::put_entry` meets its contract. Assumes nothing.
use Rattle.writing.proofs.Entered.{entered_put}
use Rattle.writing.proofs.entries.put_entry.Goals as goal

pub returns : goal.returns
returns c = entered_put c.args.t.now _ _ (λ i. (c.type_inv.t i).fits) c.requires.1 _ c.some_nonzero.ensures c.known.ensures
