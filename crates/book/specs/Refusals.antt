-- Refusals 1 to 6: "a stage covers the whole book before the next begins, and the place is the offset of the first record at fault".
--     cut_fault, order_fault, count_fault, range_fault, name_fault     the first record at fault by refusals 2, 3, 4, 5 and 6
--     unreadable                                                  the refusal of a book, if it has one
-- Assumes nothing.
use Rattle.std.specs.Prelude.{ℕ, ◌+◌, min, Bool, true, false, not, List, [], ◌∷◌, length, get_or, leb, ltb, eqb}
use Rattle.labels.specs.Labels.{label, trust}
use Rattle.book.specs.Missing.{Fault}
use Rattle.std.specs.Prelude.{None, Some}
use Rattle.book.specs.Outcome.{Refusal, Passed, Refused}
use Rattle.book.specs.declared.Tally.{Tally}
use Rattle.book.specs.declared.Shape.{Shape}
use Rattle.book.specs.declared.Value.{Value}
use Rattle.book.specs.declared.Value.TheVariants.{Plain, CellName, CodeName}
use Rattle.book.specs.declared.Declared.{Declared}
use Rattle.book.specs.declared.Step.{Step}
use Rattle.book.specs.Numbers.{cell_shape_kind, no_group, c_group, shape_group, cell_group, block_group, step_group, max_shapes, max_cells, max_blocks, max_steps, max_book_bytes}
use Rattle.book.specs.Control.{when◌then◌else◌, both, either, sweep, first}
use Rattle.book.specs.Kinds.{limits, group}
use Rattle.book.specs.Records.{byte_at, records, cut, in_group}
use Rattle.book.specs.Parts.{Reference, to_nothing, to_cell, to_block, to_cell_shape, to_blocks, parts_of}
use Rattle.book.specs.Book.{Book, parse, declared_at, step_at}

-- 2: "A kind is none of the above, or the book ends inside a body."
unfoldable pub cut_fault : List ℕ → Fault
cut_fault s = first (cut s) (records s)

-- 3: A record of group g may stand after one of group p; a step counts as of its block's group there, and p is none before the first record.
-- "First record, once." "Groups stand in this order: C, shapes, cells, blocks. A step before the first block is out of order."
unfoldable pub in_order : ℕ → ℕ → Bool
in_order p g = when eqb p no_group then eqb g c_group else when eqb g step_group then eqb p block_group else both (ltb c_group g) (leb p g)

-- "The first record is missing or not C, a record is out of order, or no block stands (place: the book's length, or 0 if it is empty)."
unfoldable pub misplaced : List ℕ → ℕ → List ℕ → Fault
misplaced s p os =
    sweep (λ p o. not (in_order p (group (byte_at s o)))) (λ p o. min (group (byte_at s o)) block_group) (λ p. when eqb p block_group then None else Some (length s)) p os

unfoldable pub order_fault : List ℕ → Fault
order_fault s = misplaced s no_group (records s)

-- 4: how many shapes, cells and blocks stand so far, and how many steps in the block
abbrev pub no_tally : Tally
no_tally = record { shapes = 0; cells = 0; blocks = 0; steps = 0 }

unfoldable pub counted : Tally → ℕ → Tally
counted n g =
    when eqb g shape_group then record { shapes = n.shapes + 1; cells = n.cells; blocks = n.blocks; steps = n.steps }
    else when eqb g cell_group then record { shapes = n.shapes; cells = n.cells + 1; blocks = n.blocks; steps = n.steps }
    else when eqb g block_group then record { shapes = n.shapes; cells = n.cells; blocks = n.blocks + 1; steps = 0 }
    else when eqb g step_group then record { shapes = n.shapes; cells = n.cells; blocks = n.blocks; steps = n.steps + 1 }
    else n

-- "beyond 32 shapes, 32 cells, 64 blocks or 64 steps in a block"
unfoldable pub too_many : Tally → Bool
too_many n = either (ltb max_shapes n.shapes) (either (ltb max_cells n.cells) (either (ltb max_blocks n.blocks) (ltb max_steps n.steps)))

unfoldable pub beyond : List ℕ → Tally → List ℕ → Fault
beyond s n os =
    sweep (λ n o. too_many (counted n (group (byte_at s o)))) (λ n o. counted n (group (byte_at s o))) (λ n. None) n os

unfoldable pub count_fault : List ℕ → Fault
count_fault s = beyond s no_tally (records s)

-- 5: a field, from the byte at i on, is above its largest value
unfoldable pub above : List ℕ → ℕ → List ℕ → Bool
above s i [] = false
above s i (l ∷ ls) = either (ltb l (byte_at s i)) (above s (i + 1) ls)

unfoldable pub out_of_range : List ℕ → ℕ → Bool
out_of_range s o = above s (o + 1) (limits (byte_at s o))

unfoldable pub range_fault : List ℕ → Fault
range_fault s = first (out_of_range s) (records s)

-- 6, in a book of so many cells and blocks: "a declared cell or block number does not exist"
unfoldable pub value_named : ℕ → ℕ → Value → Bool
value_named cells blocks (Plain n) = true
value_named cells blocks (CellName n) = ltb n cells
value_named cells blocks (CodeName n) = ltb n blocks

-- whose cell shapes are these
module _ (is_cell_shape : ℕ → Bool) (cells blocks : ℕ) where
  -- "a cell or new names no cell shape": a cell
  unfoldable pub cell_named : Declared → Bool
  cell_named d = both (is_cell_shape d.shape) (value_named cells blocks d.value)

  -- the same of new, and "a declared cell or block number does not exist" of a step
  abbrev pub refers : Reference → Bool
  refers to_nothing = true
  refers (to_cell k) = ltb k cells
  refers (to_block b) = ltb b blocks
  refers (to_cell_shape i) = is_cell_shape i
  refers (to_blocks a b) = both (ltb a blocks) (ltb b blocks)

  unfoldable pub step_named : Step → Bool
  step_named p = refers (parts_of p).names

  -- the record at o, before which n shapes stand: "A content shape is not lower-numbered than its cell shape, .."
  unfoldable pub dangling : List ℕ → ℕ → ℕ → Bool
  dangling s n o =
      when eqb (byte_at s o) cell_shape_kind then leb n (byte_at s (o + 1))
      else when in_group s cell_group o then not (cell_named (declared_at s o))
      else when in_group s step_group o then not (step_named (step_at s o))
      else false

  unfoldable pub dangles : List ℕ → ℕ → List ℕ → Fault
  dangles s n os = sweep (dangling s) (λ n o. when in_group s shape_group o then n + 1 else n) (λ n. None) n os

-- past the shapes: no shape
abbrev pub no_shape : Shape
no_shape = record { kind = 0; bound = label 0; content = 0; trust = trust 0 }

abbrev pub has_cell_shape : Book → ℕ → Bool
has_cell_shape K i = eqb (get_or K.shapes i no_shape).kind cell_shape_kind

unfoldable pub name_fault : List ℕ → Fault
name_fault s = let K = parse s in dangles (has_cell_shape K) (length K.cells) (length K.blocks) s 0 (records s)

-- the number of a refusal, where a record is at fault
unfoldable pub or_refuse : ℕ → Fault → Refusal → Refusal
or_refuse n None r = r
or_refuse n (Some o) r = Refused n o

-- 1: "The book is longer than 32,768 bytes." Place 0.
unfoldable pub unreadable : List ℕ → Refusal
unreadable s =
    when ltb max_book_bytes (length s) then Refused 1 0
    else or_refuse 2 (cut_fault s)
    (or_refuse 3 (order_fault s)
    (or_refuse 4 (count_fault s)
    (or_refuse 5 (range_fault s)
    (or_refuse 6 (name_fault s) Passed))))
