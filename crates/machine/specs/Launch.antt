-- The label that a run is given for job 0: none, or one.
--     Launch
-- Assumes nothing.
use Rattle.std.specs.Prelude.{Option}
use Rattle.labels.specs.declared.Label.{Label}

abbrev pub Launch : Type 0
Launch = Option Label
