-- The state of the machine, over any histories: 01, "The machine".
--     Traced, Cell, Job, State      values with a history, cells, jobs, the two tables
-- A table is the list of its entries in use. Assumes nothing.
use Rattle.std.specs.Prelude.{ℕ, List}
use Rattle.labels.specs.declared.Label.{Label}
use Rattle.book.specs.declared.Value.{Value}

-- "A value is plain (32 bits), a cell or a block, with a history"
pub record Traced (H : Type 0) : Type 0 where
  pub value : Value
  pub history : H

-- "A cell has a label, which changes, and a trust, fixed by its shape."
pub record Cell (H : Type 0) : Type 0 where
  pub shape : ℕ
  pub label : Label
  pub content : Traced H

-- "A job has a block, position, label, eight registers and a history." The position is "how many of the block's steps are done".
pub record Job (H : Type 0) : Type 0 where
  pub block : ℕ
  pub position : ℕ
  pub label : Label
  pub registers : List (Traced H)
  pub history : H

pub record State (H : Type 0) : Type 0 where
  pub cells : List (Cell H)
  pub jobs : List (Job H)
