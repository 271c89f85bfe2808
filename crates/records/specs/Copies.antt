-- A list put into another.
--     put_at      from an index on
-- Assumes nothing.
use Rattle.std.specs.Prelude.{ℕ, ◌+◌, List, ◌++◌, length, take, drop}

abbrev pub put_at : List ℕ → ℕ → List ℕ → List ℕ
put_at d at s = take at d ++ s ++ drop (at + length s) d
