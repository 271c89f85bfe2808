-- What a scan finds: the number of a job, or none.
--     JobFound
-- Assumes nothing.
use Rattle.std.specs.Prelude.{ℕ, Option}

abbrev pub JobFound : Type 0
JobFound = Option ℕ
