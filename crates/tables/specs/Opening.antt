-- What a run starts from, as the code has it.
--     start_in                 where a block starts
--     opened_by, opened_cells   a declared cell; all of them
-- Assumes nothing.
use Rattle.std.specs.Prelude.{ℕ, List, map, ltb, length, get_or}
use Rattle.labels.specs.Labels.{top_label}
use Rattle.book.specs.declared.Declared.{Declared}
use Rattle.book.specs.Control.{when◌then◌else◌}
use Rattle.book.specs.Book.{declared_at}
use Rattle.machine.specs.Records.{kind_of, number_of}
use Rattle.acts.specs.declared.StoredCell.{StoredCell}

-- by the table of the blocks' starts; a block that does not exist has no steps
abbrev pub start_in : List ℕ → ℕ → ℕ → ℕ
start_in starts x end = when ltb x (length starts) then get_or starts x 0 else end

-- a declared cell, as the run holds it: "Declared values have history 15."
abbrev pub opened_by : Declared → StoredCell
opened_by d = record { number = number_of d.value; kind = kind_of d.value; source = top_label; shape = d.shape; label = d.label }

unfoldable pub opened_cells : List ℕ → List ℕ → List StoredCell
opened_cells b os = map (λ o. opened_by (declared_at b o)) os
