-- What reading a book hands back: its refusal, and its outline, by which any shape, cell, block and step is reached with no further scan.
--     pad                                    a list in an array of a fixed size
--     shape_in, shapes_table                   a table of shapes
--     outline_of                              the outline of a book
--     Reading, reading, read_by               refusal and outline; what a call gave
-- Assumes nothing.
use Rattle.std.specs.Prelude.{ℕ, ◌+◌, ◌-◌, ◌*◌, List, [], ◌∷◌, ◌++◌, map, length, replicate}
use Rattle.labels.specs.Labels.{label, trust}
use Rattle.book.specs.declared.Shape.{Shape}
use Rattle.book.specs.declared.Counts.{Counts}
use Rattle.book.specs.declared.Outline.{Outline}
use Rattle.book.specs.Outcome.{Refusal, Passed, Refused, Given, outcome, given_or}
use Rattle.book.specs.Numbers.{max_shapes, max_cells, max_blocks}
use Rattle.book.specs.Records.{byte_at, next}
use Rattle.book.specs.Book.{shapes_of, cells_of, blocks_of, steps_from, shape_at}
use Rattle.book.specs.Refusals.{unreadable}

-- the list, then the default
abbrev pub pad : {A : Type 0} → ℕ → A → List A → List A
pad n d l = l ++ replicate (n - length l) d

-- the offset past the records os, of which the first stands at o
unfoldable pub end_of : List ℕ → ℕ → List ℕ → ℕ
end_of s o [] = o
end_of s o (p ∷ ps) = end_of s (next s p) ps

-- the offset past the steps that stand from o on
unfoldable pub steps_end : List ℕ → ℕ → ℕ
steps_end s o = end_of s o (steps_from s o)

-- a shape in a table of shapes: four bytes
abbrev pub shape_bytes : Shape → List ℕ
shape_bytes x = x.kind ∷ x.bound.0 ∷ x.content ∷ x.trust.0 ∷ []

abbrev pub shape_in : List ℕ → ℕ → Shape
shape_in shapes i =
    record {
      kind = byte_at shapes (4 * i);
      bound = label (byte_at shapes (4 * i + 1));
      content = byte_at shapes (4 * i + 2);
      trust = trust (byte_at shapes (4 * i + 3));
    }

unfoldable pub shapes_table : List Shape → List ℕ
shapes_table [] = []
shapes_table (x ∷ xs) = shape_bytes x ++ shapes_table xs

-- the block at o: its bound, the offset of its first step, the bytes of its steps
abbrev pub bound_at : List ℕ → ℕ → ℕ
bound_at s o = byte_at s (o + 1)

abbrev pub start_at : ℕ → ℕ
start_at o = o + 2

unfoldable pub length_at : List ℕ → ℕ → ℕ
length_at s o = steps_end s (o + 2) - (o + 2)

-- how many steps the blocks at os have
unfoldable pub step_count : List ℕ → List ℕ → ℕ
step_count s [] = 0
step_count s (o ∷ os) = length (steps_from s (o + 2)) + step_count s os

-- "Acceptance reports the shapes, cells, blocks and steps in the book"
unfoldable pub outline_of : List ℕ → Outline
outline_of s =
    record {
      c = label (byte_at s 1);
      counts =
          record { shapes = length (shapes_of s); cells = length (cells_of s); blocks = length (blocks_of s); steps = step_count s (blocks_of s) };
      shapes = pad (4 * max_shapes) 0 (shapes_table (map (shape_at s) (shapes_of s)));
      offsets = pad max_cells 0 (cells_of s);
      shaped = pad max_cells 0 (map (λ o. byte_at s (o + 1)) (cells_of s));
      bounds = pad max_blocks 0 (map (bound_at s) (blocks_of s));
      starts = pad max_blocks 0 (map start_at (blocks_of s));
      lengths = pad max_blocks 0 (map (length_at s) (blocks_of s));
    }

abbrev pub no_counts : Counts
no_counts = record { shapes = 0; cells = 0; blocks = 0; steps = 0 }

-- what a refusal hands back
unfoldable pub no_outline : Outline
no_outline =
    record {
      c = label 0;
      counts = no_counts;
      shapes = replicate (4 * max_shapes) 0;
      offsets = replicate max_cells 0;
      shaped = replicate max_cells 0;
      bounds = replicate max_blocks 0;
      starts = replicate max_blocks 0;
      lengths = replicate max_blocks 0;
    }

-- "Refusals, each with a place", or the outline; after a refusal all of it is 0
pub record Reading : Type 0 where
  pub refusal : Refusal
  pub outline : Outline

abbrev pub refused_reading : ℕ → ℕ → Reading
refused_reading n o = record { refusal = Refused n o; outline = no_outline }

unfoldable pub reading_of : Refusal → List ℕ → Reading
reading_of Passed s = record { refusal = Passed; outline = outline_of s }
reading_of (Refused n o) s = refused_reading n o

abbrev pub reading : List ℕ → Reading
reading s = reading_of (unreadable s) s

-- what a call gave
abbrev pub read_by : Given Outline → Reading
read_by r = record { refusal = outcome r; outline = given_or no_outline r }
