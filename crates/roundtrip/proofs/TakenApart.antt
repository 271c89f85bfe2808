-- The rows of a book that passes refusals 1 to 6, packed into lent tables, are its rows: their numbers have 32 bits.
--     taken_apart, lent_again
-- Assumes nothing.
use mathlib.Core.Path.{ap, ◌∙◌}
use mathlib.Core.List.{List, [], ◌∷◌, map}
use Prim.Native.Nat.{ℕ, ◌+◌, ◌<◌}
use native.Mathlib.Omega.{arith}
use lib.Dec.{eqb}
use Rattle.book.specs.declared.Step.{Step}
use Rattle.book.specs.Spans.{Bytes}
use Rattle.book.specs.Records.{byte_at, number_at}
use Rattle.book.specs.Book.{cells_of, blocks_of, steps_from, declared_at, step_at, block_at, parse}
use Rattle.book.proofs.Digits.{number_small}
use Rattle.book.proofs.Decoded.{number_is}
use Rattle.book.proofs.Tests.{if_both}
use Rattle.book.proofs.Every.{All, all_append, mapped, all_said}
use Rattle.book.proofs.Parsed.{SoundBlock, sound}
use Rattle.rows.specs.Rows.{BookTables}
use Rattle.rows.specs.Write.{written}
use Rattle.rows.specs.Parsed.{cell_row_of, step_row_of, block_row_of, step_rows_of, tables_of}
use Rattle.roundtrip.specs.RoundTrip.{TakenApart, LentAgain}
use Rattle.roundtrip.proofs.WrittenAgain.{written_again}
use Rattle.roundtrip.proofs.Repacked.{CellSmall, BlockSmall, StepSmall, Small, same_tables}

module _ (s : List ℕ) (b : Bytes s) where
  cell_small : (o : ℕ) → CellSmall (cell_row_of (declared_at s o))
  unfolding cell_row_of declared_at
  cell_small o = rw (number_is (byte_at s (o + 3)) (number_at s (o + 4))) (number_small s b (o + 4))

  abbrev Fits : Step → Type 0
  Fits p = StepSmall (step_row_of p)

  -- put has a number, and no other step
  step_small : (o : ℕ) → Fits (step_at s o)
  unfolding step_row_of step_at
  step_small o =
      let k = byte_at s o in
      let z : 0 < 4294967296 = omega arith in
      if_both Fits (eqb k 64) (number_small s b (o + 2))
      (if_both Fits (eqb k 65) z
      (if_both Fits (eqb k 66) z
      (if_both Fits (eqb k 67) z
      (if_both Fits (eqb k 68) z
      (if_both Fits (eqb k 69) z
      (if_both Fits (eqb k 70) z
      (if_both Fits (eqb k 71) z
      (if_both Fits (eqb k 72) z
      (if_both Fits (eqb k 73) z
      (if_both Fits (eqb k 74) z z))))))))))

  steps_small : (os : List ℕ) → All StepSmall (step_rows_of (map (block_at s) os))
  unfolding step_rows_of block_at
  steps_small [] = tt
  steps_small (o ∷ os) =
      let qs = steps_from s (o + 2) in
      all_append StepSmall (map step_row_of (map (step_at s) qs)) _
      (mapped Fits StepSmall step_row_of (λ p h. h) (map (step_at s) qs) (all_said Fits (step_at s) step_small qs))
      (steps_small os)

  small : All (SoundBlock (parse s)) (parse s).blocks → Small (tables_of (parse s))
  unfolding tables_of parse
  small h =
      record {
        cells =
            mapped (λ d. CellSmall (cell_row_of d)) CellSmall cell_row_of (λ d h. h) (map (declared_at s) (cells_of s))
            (all_said (λ d. CellSmall (cell_row_of d)) (declared_at s) cell_small (cells_of s));
        blocks = mapped (SoundBlock (parse s)) BlockSmall block_row_of (λ k h. omega (arith, h.few)) (map (block_at s) (blocks_of s)) h;
        steps = steps_small (blocks_of s);
      }

pub taken_apart : TakenApart
taken_apart s b e = same_tables (tables_of (parse s)) (small s b (sound s e).blocks)

pub lent_again : LentAgain
lent_again s b e out h = ap (λ (t : BookTables). written t out) (taken_apart s b e) ∙ written_again s b e out h
