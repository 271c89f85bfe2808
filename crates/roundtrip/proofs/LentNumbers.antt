-- The numbers of lent tables have 32 bits.
--     lent_numbers_hold    LentNumbersHold
-- Assumes nothing.
use Prim.Native.Nat.{ℕ, zero, suc, ◌*◌, ◌/◌, ◌<◌}
use lib.ListN.{length}
use Rattle.book.proofs.Digits.{number_small}
use Rattle.book.proofs.Every.{All, all_in}
use Rattle.rows.specs.Rows.{rows_from, CellRow, StepRow, cell_row_in, step_row_in, cell_rows_in, step_rows_in}
use Rattle.roundtrip.specs.RoundTrip.{LentNumbersHold}

-- a fact of the row at every place is one of all rows
from_all : {A : Type 0} (P : A → Type 0) (row : ℕ → A) → ((i : ℕ) → P (row i)) → (n i : ℕ) → All P (rows_from row n i)
unfolding rows_from
from_all P row f zero i = tt
from_all P row f (suc n) i = (f i, from_all P row f n (suc i))

pub lent_numbers_hold : LentNumbersHold
unfolding cell_row_in step_row_in
lent_numbers_hold c shapes cells blocks steps hc hs =
    record {
      cells =
          λ r m. all_in (λ (r : CellRow). r.number < 4294967296) (cell_rows_in cells) r
          (from_all (λ (r : CellRow). r.number < 4294967296) (λ i. cell_row_in cells (i * 7)) (λ i. number_small cells hc _) (length cells / 7) 0) m;
      steps =
          λ r m. all_in (λ (r : StepRow). r.number < 4294967296) (step_rows_in steps) r
          (from_all (λ (r : StepRow). r.number < 4294967296) (λ i. step_row_in steps (i * 8)) (λ i. number_small steps hs _) (length steps / 8) 0) m;
    }
