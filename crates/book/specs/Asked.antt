-- What functions that serve `read`, `check` and `run` ask of their callers. No call that a user makes asks any of it.
--     Whole             from an offset on, every record is whole
--     limit             the largest value of a field of a kind; 255 where any byte will do
--     Small             a book that refusals 1, 2 and 4 do not hold of
--     Clear             a book that refusals 2 to 5 do not hold of
--     Limited, Fixed    the limits of a kind; its span too
--     Fit               a record that refusals 2 and 5 do not hold of
--     Outlined          the outline of such a book
--     Blank, drawn      an outline's tables: zero; and what they make
--     is_cell_shape_in     by the table of shapes, whether a shape is a cell shape
--     skipped           where the steps from an offset on end, and how many they are
--     Sound             contents are lower-numbered
--     Listed, Laid      offsets of declared cells; where the blocks' stretches are
-- Assumes nothing.
use Rattle.std.specs.Prelude.{◌≡◌, List, map, ℕ, ◌*◌, ◌≤◌, ◌<◌, Bool, false, eqb, length, get_or, replicate}
use Rattle.labels.specs.Labels.{label}
use Rattle.book.specs.declared.Shape.{Shape}
use Rattle.std.specs.Prelude.{Some}
use Rattle.std.specs.Prelude.{None}
use Rattle.book.specs.declared.Counts.{Counts}
use Rattle.book.specs.declared.Outline.{Outline}
use Rattle.book.specs.declared.Skipped.{Skipped}
use Rattle.book.specs.Numbers.{cell_shape_kind, any_byte, max_shapes, max_cells, max_blocks, max_book_bytes}
use Rattle.book.specs.Control.{first}
use Rattle.book.specs.Kinds.{span, limits}
use Rattle.book.specs.Records.{byte_at, cut, records_from}
use Rattle.book.specs.Book.{blocks_of, declared_at, steps_from}
use Rattle.book.specs.Refusals.{cut_fault, order_fault, count_fault, out_of_range, range_fault}
use Rattle.book.specs.Outline.{steps_end, shape_in, bound_at, start_at, length_at, outline_of}
use Rattle.book.specs.Stretch.{cell_found}

abbrev pub Whole : List ℕ → ℕ → Type 0
Whole s o = first (cut s) (records_from s o) ≡ None

abbrev pub limit : ℕ → ℕ → ℕ
limit k i = get_or (limits k) i any_byte

abbrev pub skipped : List ℕ → ℕ → Skipped
skipped s o = record { at = steps_end s o; count = length (steps_from s o) }

-- a book that refusals 1, 2 and 4 do not hold of
pub record Small (s : List ℕ) : Type 0 where
  pub short : length s ≤ max_book_bytes
  pub whole : Whole s 0
  pub few : count_fault s ≡ None

-- a book that refusals 2 to 5 do not hold of
pub record Clear (s : List ℕ) : Type 0 where
  pub whole : cut_fault s ≡ None
  pub ordered : order_fault s ≡ None
  pub few : count_fault s ≡ None
  pub narrow : range_fault s ≡ None

-- a, b and c are the largest values of the first three fields of a kind's records
abbrev pub Limited : ℕ → ℕ → ℕ → ℕ → Type 0
Limited k a b c = (a ≡ limit k 0) × (b ≡ limit k 1) × (c ≡ limit k 2)

-- and they have w bytes
pub record Fixed (k w a b c : ℕ) : Type 0 where
  pub bytes : w ≡ span k
  pub limited : Limited k a b c

-- the record at o has w bytes, and refusals 2 and 5 do not hold of it
pub record Fit (s : List ℕ) (o w : ℕ) : Type 0 where
  pub bytes : w ≡ span (byte_at s o)
  pub uncut : cut s o ≡ false
  pub narrow : out_of_range s o ≡ false

-- by the table of shapes, the shape of a number is a cell shape
abbrev pub is_cell_shape_in : List ℕ → ℕ → Bool
is_cell_shape_in shapes i = eqb (shape_in shapes i).kind cell_shape_kind

-- the outline of such a book
pub record Outlined (s : List ℕ) (t : Outline) : Type 0 where
  pub small : Small s
  pub is : t ≡ outline_of s

-- an outline's tables before any record, and the outline that they make
pub record Blank (shapes offsets shaped bounds starts lengths : List ℕ) : Type 0 where
  pub no_shapes : shapes ≡ replicate (4 * max_shapes) 0
  pub no_offsets : offsets ≡ replicate max_cells 0
  pub no_shaped : shaped ≡ replicate max_cells 0
  pub no_bounds : bounds ≡ replicate max_blocks 0
  pub no_starts : starts ≡ replicate max_blocks 0
  pub no_lengths : lengths ≡ replicate max_blocks 0

abbrev pub drawn : List ℕ → Counts → List ℕ → List ℕ → List ℕ → List ℕ → List ℕ → List ℕ → Outline
drawn s n shapes offsets shaped bounds starts lengths =
    record {
      c = label (byte_at s 1);
      counts = n;
      shapes = shapes;
      offsets = offsets;
      shaped = shaped;
      bounds = bounds;
      starts = starts;
      lengths = lengths;
    }

-- contents are lower-numbered: refusal 6
pub record Sound (shape : ℕ → Shape) : Type 0 where
  pub falls : (i : ℕ) → (shape i).kind ≡ cell_shape_kind → (shape i).content < i

-- at each of these offsets a declared cell stands
pub record Listed (s offsets : List ℕ) : Type 0 where
  pub there : (i : ℕ) → i < length offsets → cell_found s (get_or offsets i 0) ≡ Some (declared_at s (get_or offsets i 0))

-- the bounds, starts and lengths of the blocks of a book that can be read
pub record Laid (s bounds starts lengths : List ℕ) : Type 0 where
  pub short : length s ≤ max_book_bytes
  pub whole : cut_fault s ≡ None
  pub bound : bounds ≡ map (bound_at s) (blocks_of s)
  pub start : starts ≡ map start_at (blocks_of s)
  pub long : lengths ≡ map (length_at s) (blocks_of s)
