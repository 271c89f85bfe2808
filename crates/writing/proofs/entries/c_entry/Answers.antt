-- `entries::c_entry` meets its contract. Assumes nothing.
use Rattle.writing.proofs.Entered.{entered_c}
use Rattle.writing.proofs.entries.c_entry.Goals as goal

pub returns : goal.returns
returns c = search entered_c
