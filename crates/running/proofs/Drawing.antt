-- What reading a book gives to whoever plays it.
--     outline_cells, outline_starts, outline_drawn      the parts of the outline that the machine is played from
--     read_is, outline_is, bound_is, label_is           the refusal, the outline, block 0's bound, the label of job 0
-- Assumes nothing.
use mathlib.Core.Path.{◌≡◌, refl, ap, ◌∙◌}
use mathlib.Core.List.{List, [], ◌∷◌, map}
use Prim.Native.Nat.{ℕ, ◌-◌, ◌≤◌}
use lib.ListN.{length, take, drop, get_or}
use Rattle.labels.specs.declared.Label.{Label}
use Rattle.labels.specs.Labels.{label}
use Rattle.book.specs.declared.Outline.{Outline}
use Rattle.book.specs.Outline.{Reading}
use Rattle.book.specs.Outcome.{Refusal, Passed, Refused}
use Rattle.book.specs.Book.{parse, blocks_of, block_at}
use Rattle.book.specs.Refusals.{unreadable}
use Rattle.book.specs.Outline.{outline_of, bound_at, reading_of, reading}
use Rattle.book.proofs.Blocks.{get_pad}
use Rattle.book.proofs.Outlines.{shape_is, cells_are, starts_are, drawn_cell, drawn_start}
use Rattle.machine.specs.Launch.{Launch}
use Rattle.machine.specs.Events.{no_block, first_bound, launched_at, launch_label}
use Rattle.interpreter.specs.Loop.{Drawn}

pub c_is : (b : List ℕ) (t : Outline) → t ≡ outline_of b → t.c ≡ (parse b).c
unfolding outline_of parse
c_is b t e = ap (λ (t : Outline). t.c) e

-- the outline t of a readable book
module _ (b : List ℕ) (t : Outline) (ok : unreadable b ≡ Passed) (e : t ≡ outline_of b) where
  pub outline_cells : t.counts.cells ≤ length t.offsets
  outline_cells = drawn_cell b ok t e

  pub outline_starts : t.counts.blocks ≤ length t.starts
  outline_starts = drawn_start b ok t e

  pub outline_drawn : Drawn b t.shapes (take (t.counts.cells - 0) (drop 0 t.offsets)) (take (t.counts.blocks - 0) (drop 0 t.starts))
  outline_drawn = record { readable = ok; shapes_are = shape_is b ok t e; offsets_are = cells_are b ok t e; starts_are = starts_are b ok t e }

-- block 0's bound, as the outline of a readable book has it
first_bound_lem : (b : List ℕ) (t : Outline) → t ≡ outline_of b → label (get_or t.bounds 0 0) ≡ first_bound (parse b)
unfolding outline_of parse block_at
first_bound_lem b t e =
    ap label
    (ap (λ (t : Outline). get_or t.bounds 0 0) e
    ∙ get_pad 0 (map (bound_at b) (blocks_of b)) (64 - length (map (bound_at b) (blocks_of b))) 0 ∙ go (blocks_of b))
  where
    go : (os : List ℕ) → get_or (map (bound_at b) os) 0 0 ≡ (get_or (map (block_at b) os) 0 no_block).bound.0
    go [] = refl
    go (o ∷ os) = refl

-- r is what reading gave
module _ (b : List ℕ) (r : Reading) (er : r ≡ reading b) where
  pub read_is : r.refusal ≡ unreadable b
  unfolding reading_of
  read_is = ap (λ (r : Reading). r.refusal) er ∙ go (unreadable b)
    where
      go : (x : Refusal) → (reading_of x b).refusal ≡ x
      go Passed = refl
      go (Refused n o) = refl

  pub outline_is : unreadable b ≡ Passed → r.outline ≡ outline_of b
  unfolding reading_of
  outline_is e = ap (λ (r : Reading). r.outline) er ∙ simp e

  pub bound_is : unreadable b ≡ Passed → label (get_or r.outline.bounds 0 0) ≡ first_bound (parse b)
  bound_is e = first_bound_lem b r.outline (outline_is e)

  -- l is the label of job 0
  pub label_is : unreadable b ≡ Passed → (launch : Launch) (l : Label) → l ≡ launched_at r.outline.c (label (get_or r.outline.bounds 0 0)) launch
      → l ≡ launch_label (parse b) launch
  label_is p launch l el =
      el ∙ rw (bound_is p) (ap (λ c. launched_at c (first_bound (parse b)) launch) (c_is b r.outline (outline_is p)))
