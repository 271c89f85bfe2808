-- The verdict on a book: refusals 1 to 8, or acceptance with the counts.
--     cell_fault, step_fault     the first record at fault by refusals 7 and 8
--     Verdict, verdict_by       the answer; what a call gave
--     verdict                  the answer, for every list of bytes
-- Assumes nothing.
use Rattle.std.specs.Prelude.{ℕ, not, List, [], ◌∷◌, length}
use Rattle.labels.specs.Labels.{label}
use Rattle.book.specs.Missing.{Fault}
use Rattle.std.specs.Prelude.{None, Some, Ok, Err}
use Rattle.book.specs.declared.Counts.{Counts}
use Rattle.book.specs.Outcome.{Refusal, Passed, Given, ground_number}
use Rattle.book.specs.Outcome as R
use Rattle.book.specs.Control.{first}
use Rattle.book.specs.Book.{parse, shapes_of, cells_of, blocks_of, steps_from, declared_at, step_at}
use Rattle.book.specs.Refusals.{unreadable}
use Rattle.book.specs.Outline.{bound_at, start_at, step_count}
use Rattle.typing.specs.Shapes.{View, view_of, declared_ok}
use Rattle.typing.specs.Rules.{fresh, fault}

-- the answer of the check
pub data Verdict : Type 0 where
  Accepted : ℕ → ℕ → ℕ → ℕ → Verdict
  Refused : ℕ → ℕ → Verdict

-- what a call gave: "Acceptance reports the shapes, cells, blocks and steps in the book"
abbrev pub verdict_by : Given Counts → Verdict
verdict_by (Ok n) = Accepted n.shapes n.cells n.blocks n.steps
verdict_by (Err e) = Refused (ground_number e.why) e.place

-- 7: "A cell declaration breaks its typing rule."
unfoldable pub cell_fault : View → List ℕ → List ℕ → Fault
cell_fault B s os = first (λ o. not (declared_ok B (declared_at s o))) os

-- the first fault
unfoldable pub or_then : Fault → Fault → Fault
or_then None f = f
or_then (Some o) f = Some o

-- the block at o: "Each block's steps are checked as their own stretch of the book."
unfoldable pub block_fault : View → List ℕ → ℕ → Fault
block_fault B s o = fault B (step_at s) (fresh (label (bound_at s o))) (steps_from s (start_at o))

-- 8: "A step breaks its typing rule."
unfoldable pub step_fault : View → List ℕ → List ℕ → Fault
step_fault B s [] = None
step_fault B s (o ∷ os) = or_then (block_fault B s o) (step_fault B s os)

unfoldable pub or_refused : ℕ → Fault → Verdict → Verdict
or_refused n None v = v
or_refused n (Some o) v = Refused n o

-- a readable book's verdict: "Acceptance reports the shapes, cells, blocks and steps in the book"
unfoldable pub typed : List ℕ → Verdict
typed s =
    let B = view_of (parse s) in
    or_refused 7 (cell_fault B s (cells_of s))
    (or_refused 8 (step_fault B s (blocks_of s))
    (Accepted (length (shapes_of s)) (length (cells_of s)) (length (blocks_of s)) (step_count s (blocks_of s))))

unfoldable pub verdict_of : Refusal → List ℕ → Verdict
verdict_of Passed s = typed s
verdict_of (R.Refused n o) s = Refused n o

abbrev pub verdict : List ℕ → Verdict
verdict s = verdict_of (unreadable s) s
