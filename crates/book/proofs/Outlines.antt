-- The tables of a readable book's outline.
--     listed                                 a declared cell's record stands at each offset
--     shape_is, cells_are, .., lengths_are   what each table has
--     drawns                                 for the code: what is asked of the tables
-- Assumes nothing.
use mathlib.Core.Path.{◌≡◌, sym, ap, ◌∙◌}
use mathlib.Core.List.{List, ◌++◌, map}
use Prim.Native.Nat.{ℕ, ◌+◌, ◌-◌, ◌≤◌}
use native.Mathlib.Omega.{arith}
use lib.ListN.{length, get_or, take, drop, length-map, length-append}
use lib.Seq.{take_at}
use borrow.Author.Tests.{lt-ltb, eq-eqb}
use Rattle.book.specs.declared.Shape.{Shape}
use Rattle.book.specs.declared.Outline.{Outline}
use Rattle.book.specs.Outcome.{Passed}
use Rattle.book.specs.Control.{both}
use Rattle.book.specs.Records.{byte_at}
use Rattle.book.specs.Book.{shapes_of, cells_of, blocks_of, shape_at, parse}
use Rattle.book.specs.Refusals.{no_shape, unreadable}
use Rattle.book.specs.Outline.{shape_in, shapes_table, bound_at, start_at, length_at, outline_of}
use Rattle.book.specs.Stretch.{cell_found}
use Rattle.book.specs.Asked.{Sound, Listed, Laid}
use Rattle.book.proofs.ShapeTable.{shape_get}
use Rattle.book.proofs.Records.{walk}
use Rattle.book.proofs.Lower.{content_lower}
use Rattle.book.proofs.Readable.{Readable, readable}
use Rattle.book.proofs.Blocks.{stands}

-- a declared cell's record stands at each offset
pub listed : (s : List ℕ) → Readable s → Listed s (cells_of s)
unfolding cell_found both
listed s r =
    record {
      there =
          λ i h.
          let x = stands s 3 r.whole i h in
          let w = walk s (get_or (cells_of s) i 0) x.whole x.inside in
          simp (lt-ltb _ _ x.inside, eq-eqb _ _ x.kind, w.uncut);
    }

-- a table is at least as long as its list
front : (l r : List ℕ) → length l ≤ length (l ++ r)
front l r = simp length-append (omega arith)

fronts : (f : ℕ → ℕ) (l r : List ℕ) → length l ≤ length (map f l ++ r)
fronts f l r = simp (length-append, length-map) (omega arith)

module _ (s : List ℕ) (e : unreadable s ≡ Passed) (t : Outline) (et : t ≡ outline_of s) where
  r : Readable s
  r = readable s e

  pub shape_is : (i : ℕ) → shape_in t.shapes i ≡ get_or (parse s).shapes i no_shape
  unfolding outline_of parse
  shape_is i =
      ap (λ (t : Outline). shape_in t.shapes i) et
      ∙ shape_get (map (shape_at s) (shapes_of s)) (128 - length (shapes_table (map (shape_at s) (shapes_of s)))) i

  pub drawn_sound : Sound (shape_in t.shapes)
  drawn_sound =
      record {
        falls =
            λ i k.
            let x = shape_is i in
            let l = content_lower s r.named i (sym (ap (λ (x : Shape). x.kind) x) ∙ k) in
            let y = ap (λ (x : Shape). x.content) x in
            omega arith;
      }

  pub cells_are : take (t.counts.cells - 0) (drop 0 t.offsets) ≡ cells_of s
  unfolding outline_of
  cells_are = ap (λ (t : Outline). take (t.counts.cells - 0) (drop 0 t.offsets)) et ∙ take_at (cells_of s) _ (length (cells_of s) - 0) (omega arith)

  pub shaped_are : take (t.counts.cells - 0) (drop 0 t.shaped) ≡ map (λ o. byte_at s (o + 1)) (cells_of s)
  unfolding outline_of
  shaped_are =
      ap (λ (t : Outline). take (t.counts.cells - 0) (drop 0 t.shaped)) et
      ∙ take_at (map (λ o. byte_at s (o + 1)) (cells_of s)) _ (length (cells_of s) - 0) (length-map (cells_of s) (λ o. byte_at s (o + 1)) ∙ omega arith)

  pub bounds_are : take (t.counts.blocks - 0) (drop 0 t.bounds) ≡ map (bound_at s) (blocks_of s)
  unfolding outline_of
  bounds_are =
      ap (λ (t : Outline). take (t.counts.blocks - 0) (drop 0 t.bounds)) et
      ∙ take_at (map (bound_at s) (blocks_of s)) _ (length (blocks_of s) - 0) (length-map (blocks_of s) (bound_at s) ∙ omega arith)

  pub starts_are : take (t.counts.blocks - 0) (drop 0 t.starts) ≡ map start_at (blocks_of s)
  unfolding outline_of
  starts_are =
      ap (λ (t : Outline). take (t.counts.blocks - 0) (drop 0 t.starts)) et
      ∙ take_at (map start_at (blocks_of s)) _ (length (blocks_of s) - 0) (length-map (blocks_of s) start_at ∙ omega arith)

  pub lengths_are : take (t.counts.blocks - 0) (drop 0 t.lengths) ≡ map (length_at s) (blocks_of s)
  unfolding outline_of
  lengths_are =
      ap (λ (t : Outline). take (t.counts.blocks - 0) (drop 0 t.lengths)) et
      ∙ take_at (map (length_at s) (blocks_of s)) _ (length (blocks_of s) - 0) (length-map (blocks_of s) (length_at s) ∙ omega arith)

  pub drawn_cell : t.counts.cells ≤ length t.offsets
  unfolding outline_of
  drawn_cell = rw et (front (cells_of s) _)

  pub drawn_shaped : t.counts.cells ≤ length t.shaped
  unfolding outline_of
  drawn_shaped = rw et (fronts (λ o. byte_at s (o + 1)) (cells_of s) _)

  pub drawn_bound : t.counts.blocks ≤ length t.bounds
  unfolding outline_of
  drawn_bound = rw et (fronts (bound_at s) (blocks_of s) _)

  pub drawn_start : t.counts.blocks ≤ length t.starts
  unfolding outline_of
  drawn_start = rw et (fronts start_at (blocks_of s) _)

  pub drawn_length : t.counts.blocks ≤ length t.lengths
  unfolding outline_of
  drawn_length = rw et (fronts (length_at s) (blocks_of s) _)

  pub drawn_listed : Listed s (take (t.counts.cells - 0) (drop 0 t.offsets))
  drawn_listed = rw cells_are (listed s r)

  pub drawn_laid : Laid s (take (t.counts.blocks - 0) (drop 0 t.bounds)) (take (t.counts.blocks - 0) (drop 0 t.starts)) (take (t.counts.blocks - 0) (drop 0 t.lengths))
  drawn_laid = record { short = r.short; whole = r.whole; bound = bounds_are; start = starts_are; long = lengths_are }

pub ruleset drawns = (drawn_sound, drawn_cell, drawn_shaped, drawn_bound, drawn_start, drawn_length, drawn_listed, drawn_laid)
