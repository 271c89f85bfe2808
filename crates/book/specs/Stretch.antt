-- A block's stretch of the book, and what stands at an offset.
--     Found, found_block, stretch        "Asked for a block, a call hands back that block's stretch of the lent book, steps only."
--     no_stretch, found_by        what stands for a stretch that was not found; what a call gave
--     step_found, cell_found       the step, the declared cell that stands at an offset, if one does
--     step_end                    the offset past the step that stands at an offset
-- Assumes nothing.
use Rattle.std.specs.Prelude.{ℕ, Bool, not, List, length, get_or, take, drop, ltb}
use Rattle.book.specs.declared.Stretch.{Stretch}
use Rattle.book.specs.Outcome.{Refusal, Passed, Refused, Given, outcome, given_or}
use Rattle.book.specs.Missing.{StepAt}
use Rattle.std.specs.Prelude.{None, Some}
use Rattle.book.specs.Missing.{CellAt}
use Rattle.book.specs.Numbers.{cell_group, step_group}
use Rattle.book.specs.Control.{when◌then◌else◌, both}
use Rattle.book.specs.Records.{next, cut, in_group}
use Rattle.book.specs.Book.{blocks_of, step_at, declared_at}
use Rattle.book.specs.Refusals.{unreadable}
use Rattle.book.specs.Outline.{start_at, length_at}

-- a refusal, or where a block's stretch starts in the book, and its length
pub record Found : Type 0 where
  pub refusal : Refusal
  pub start : ℕ
  pub length : ℕ

abbrev pub no_stretch : Stretch
no_stretch = record { start = 0; length = 0 }

-- a refusal, with an empty stretch
abbrev pub lost : ℕ → ℕ → Found
lost n o = record { refusal = Refused n o; start = 0; length = 0 }

-- "12. The block asked for does not exist." "a block's stretch 1 to 6 and 12 (with an empty stretch ..)"
unfoldable pub found_in : Refusal → List ℕ → ℕ → Found
found_in (Refused n o) s i = lost n o
found_in Passed s i =
    let o = get_or (blocks_of s) i 0 in
    when ltb i (length (blocks_of s)) then record { refusal = Passed; start = start_at o; length = length_at s o } else lost 12 0

abbrev pub found_block : List ℕ → ℕ → Found
found_block s i = found_in (unreadable s) s i

-- what a call gave
abbrev pub found_by : Given Stretch → Found
found_by r = let f = given_or no_stretch r in record { refusal = outcome r; start = f.start; length = f.length }

unfoldable pub stretch : List ℕ → ℕ → List ℕ
stretch s i = take (found_block s i).length (drop (found_block s i).start s)

-- a whole record of group g stands at o
abbrev pub stands : List ℕ → ℕ → ℕ → Bool
stands s g o = both (ltb o (length s)) (both (in_group s g o) (not (cut s o)))

unfoldable pub step_found : List ℕ → ℕ → StepAt
step_found s o = when stands s step_group o then Some (step_at s o, next s o) else None

-- the offset past it, 0 where none stands
unfoldable pub step_end : List ℕ → ℕ → ℕ
step_end s o = when stands s step_group o then next s o else 0

unfoldable pub cell_found : List ℕ → ℕ → CellAt
cell_found s o = when stands s cell_group o then Some (declared_at s o) else None
