-- `entries::block_entry` meets its contract. Assumes nothing.
use Rattle.writing.proofs.Entered.{entered_block}
use Rattle.writing.proofs.entries.block_entry.Goals as goal

pub returns : goal.returns
returns c = search entered_block
