-- `entries::shape_entry` meets its contract. Assumes nothing.
use Rattle.writing.proofs.Entered.{entered_shapes}
use Rattle.writing.proofs.entries.shape_entry.Goals as goal

pub returns-in-18 : goal.returns-in-18
returns-in-18 c = search entered_shapes

pub returns-in-17 : goal.returns-in-17
returns-in-17 c = search entered_shapes

pub returns-in-16 : goal.returns-in-16
returns-in-16 c = search entered_shapes

pub returns-in_default : goal.returns-in_default
returns-in_default c = search entered_shapes
