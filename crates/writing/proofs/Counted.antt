-- Laws of the blocks' step counts, as a loop goes through them.
--     Counting, counts     the counts from block i on have to make what is left
-- Assumes nothing.
use mathlib.Core.Path.{◌≡◌, refl}
use mathlib.Core.Bool.{false}
use mathlib.Core.List.{List}
use Prim.Native.Nat.{ℕ, suc, ◌+◌, ◌-◌, ◌*◌, ◌/◌, ◌≤◌, ◌<◌}
use native.Mathlib.Omega.{arith}
use lib.Dec.{eqb}
use lib.ListN.{length}
use Rattle.std.proofs.lemmas.Bool.Decides.{nat_tests}
use Rattle.book.specs.Records.{number_at}
use Rattle.rows.specs.Rows.{BlockRow, rows_from, block_row_in, block_rows_in, total}

abbrev from : List ℕ → ℕ → ℕ → List BlockRow
from t n i = rows_from (λ i. block_row_in t (i * 5)) n i

pub record Counting (t : List ℕ) (steps left i : ℕ) : Type 0 where
  pub same : eqb (total (from t (length t / 5 - i) i)) left ≡ eqb (total (block_rows_in t)) steps

pub count_start : (t : List ℕ) (steps : ℕ) → Counting t steps steps 0
count_start t steps = let z : length t / 5 - 0 ≡ length t / 5 = omega arith in record { same = rw z refl }

module _ (t : List ℕ) (steps left i : ℕ) (k : Counting t steps left i) where
  -- the count of block i, and the rest
  taken : i < length t / 5 → total (from t (length t / 5 - i) i) ≡ number_at t (i * 5 + 1) + total (from t (length t / 5 - (i + 1)) (i + 1))
  unfolding rows_from total block_row_in
  taken h =
      let e : length t / 5 - i ≡ suc (length t / 5 - (i + 1)) = omega arith in
      let f : suc i ≡ i + 1 = omega arith in
      rw (e, ← f) refl

  pub count_on : (c : ℕ) → i < length t / 5 → c ≡ number_at t (i * 5 + 1) → c ≤ left → Counting t steps (left - c) (i + 1)
  count_on c h e l = let u = taken h in let w = k.same in record { same = grind (arith, nat_tests) }

  pub count_over : (c : ℕ) → i < length t / 5 → c ≡ number_at t (i * 5 + 1) → left < c → false ≡ eqb (total (block_rows_in t)) steps
  count_over c h e l = let u = taken h in let w = k.same in grind (arith, nat_tests)

  pub count_end : length t / 5 ≤ i → eqb left 0 ≡ eqb (total (block_rows_in t)) steps
  unfolding rows_from total
  count_end h =
      let z : length t / 5 - i ≡ 0 = omega arith in
      let w : eqb 0 left ≡ eqb (total (block_rows_in t)) steps = rw z at k.same in
      grind (arith, nat_tests)

pub ruleset counts = (count_start, count_on, count_over, count_end)
