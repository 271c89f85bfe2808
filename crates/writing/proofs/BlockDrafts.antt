-- Laws of blocks and their steps, laid one after the other into a draft.
--     map_rows                 the rows of a table, mapped
--     Blocking, blockings      a loop over the blocks: those up to i are laid, with the step rows up to j
--     block_lays               a block, and then its steps
-- Assumes nothing.
use mathlib.Core.Path.{◌≡◌, refl, sym, ap, ◌∙◌}
use mathlib.Core.List.{List, [], ◌∷◌, ◌++◌, map}
use Prim.Native.Nat.{ℕ, zero, suc, ◌+◌, ◌-◌, ◌*◌, ◌/◌, ◌≤◌, ◌<◌, min}
use native.Mathlib.Omega.{arith}
use lib.ListN.{length, take, drop}
use Rattle.book.specs.Records.{byte_at, number_at}
use Rattle.records.specs.Copies.{put_at}
use Rattle.writing.specs.declared.entries.Entry.{Entry}
use Rattle.writing.specs.declared.laying.Pen.{Pen}
use Rattle.rows.specs.Rows.{Row, StepRow, row_of, block_row, step_row, block_row_in, step_row_in, rows_from, block_rows}
use Rattle.writing.specs.Asked.{Enters, penned, Lays, steps_laid, blocks_laid}
use Rattle.writing.proofs.Drafts.{lays_none, lays_row, lays_then, lays_over}

-- rows of a table: mapped, the first of them, and those behind
module _ {A : Type 0} (f : ℕ → A) where
  pub map_rows : {B : Type 0} (g : A → B) (n a : ℕ) → map g (rows_from f n a) ≡ rows_from (λ i. g (f i)) n a
  unfolding rows_from
  map_rows g zero a = refl
  map_rows {B} g (suc n) a = ap (λ (l : List B). g (f a) ∷ l) (map_rows g n (suc a))

  take_rows : (c n a : ℕ) → take c (rows_from f n a) ≡ rows_from f (min c n) a
  unfolding rows_from
  take_rows zero n a = let z : min 0 n ≡ 0 = omega arith in rw z refl
  take_rows (suc c) zero a = let z : min (suc c) 0 ≡ 0 = omega arith in rw z refl
  take_rows (suc c) (suc n) a = let z : min (suc c) (suc n) ≡ suc (min c n) = omega arith in rw z (ap (λ (l : List A). f a ∷ l) (take_rows c n (suc a)))

  drop_rows : (c n a : ℕ) → drop c (rows_from f n a) ≡ rows_from f (n - min c n) (a + min c n)
  unfolding rows_from
  drop_rows zero n a =
      let z : n - min 0 n ≡ n = omega arith in
      let y : a + min 0 n ≡ a = omega arith in
      rw (z, y) refl
  drop_rows (suc c) zero a = let z : 0 - min (suc c) 0 ≡ 0 = omega arith in rw z refl
  drop_rows (suc c) (suc n) a =
      let z : suc n - min (suc c) (suc n) ≡ n - min c n = omega arith in
      let y : a + min (suc c) (suc n) ≡ suc a + min c n = omega arith in
      rw (z, y) (drop_rows c n (suc a))

module _ (b t : List ℕ) where
  abbrev row_at : ℕ → Row
  row_at i = block_row (block_row_in b (i * 5))

  none_left : (i m j : ℕ) → blocks_laid b t 0 i m j ≡ steps_laid t m j
  unfolding blocks_laid rows_from block_rows steps_laid
  none_left i m j = map_rows (λ i. step_row_in t (i * 8)) step_row m j

  next_block : (n i m j c : ℕ) → c ≡ min (number_at b (i * 5 + 1)) m
      → blocks_laid b t (suc n) i m j ≡ row_at i ∷ (steps_laid t c j ++ blocks_laid b t n (suc i) (m - c) (j + c))
  unfolding blocks_laid rows_from block_rows steps_laid block_row_in
  next_block n i m j c e =
      let st : ℕ → StepRow = λ i. step_row_in t (i * 8) in
      let x : map step_row (take (number_at b (i * 5 + 1)) (rows_from st m j)) ≡ rows_from (λ i. step_row (step_row_in t (i * 8))) c j
      = ap (map step_row) (take_rows st (number_at b (i * 5 + 1)) m j) ∙ map_rows st step_row (min (number_at b (i * 5 + 1)) m) j
      ∙ ap (λ k. rows_from (λ i. step_row (step_row_in t (i * 8))) k j) (sym e) in
      let y : drop (number_at b (i * 5 + 1)) (rows_from st m j) ≡ rows_from st (m - c) (j + c)
      = drop_rows st (number_at b (i * 5 + 1)) m j ∙ ap (λ k. rows_from st (m - k) (j + k)) (sym e) in
      rw (x, y) refl

  abbrev left : ℕ → ℕ → List Row
  left i j = blocks_laid b t (length b / 5 - i) i (length t / 8 - j) j

  abbrev all_blocks : List Row
  all_blocks = blocks_laid b t (length b / 5) 0 (length t / 8) 0

  -- the blocks up to i and the step rows up to j are laid: with those that are left, all are
  pub record Blocking (d₀ : List ℕ) (p₀ : Pen) (d : List ℕ) (p : Pen) (i j : ℕ) : Type 0 where
    pub taken : j ≤ length t / 8
    pub on : (d' : List ℕ) (q : Pen) → Lays (left i j) d p d' q → Lays all_blocks d₀ p₀ d' q

  module _ (d₀ : List ℕ) (p₀ : Pen) (d : List ℕ) (p : Pen) (i j : ℕ) (k : Blocking d₀ p₀ d p i j) where
    pub blocking_over : length d < p.at + 8 → Lays all_blocks d₀ p₀ d p
    blocking_over h = k.on d p (lays_over (left i j) d p h)

    -- where the steps of block i end
    module _ (c u end : ℕ) (ec : c ≡ number_at b (i * 5 + 1)) (eu : u ≡ min c (length t / 8 - j)) (ee : end ≡ j + u) where
      pub blocking_on : (d' : List ℕ) (q : Pen) → i < length b / 5 → Lays (row_of 4 48 (byte_at b (i * 5) ∷ []) ∷ steps_laid t (end - j) j) d p d' q
          → Blocking d₀ p₀ d' q (i + 1) end
      unfolding block_row_in
      blocking_on d' q h s =
          let x : length b / 5 - i ≡ suc (length b / 5 - (i + 1)) = omega arith in
          let r : u ≡ min (number_at b (i * 5 + 1)) (length t / 8 - j) = eu ∙ ap (λ z. min z (length t / 8 - j)) ec in
          let w : end - j ≡ u = omega arith in
          let y : (length t / 8 - j) - u ≡ length t / 8 - end = omega arith in
          let v : j + u ≡ end = sym ee in
          let f : suc i ≡ i + 1 = omega arith in
          let next : left i j ≡ row_at i ∷ (steps_laid t u j ++ left (i + 1) end)
          = ap (λ z. blocks_laid b t z i (length t / 8 - j) j) x ∙ next_block (length b / 5 - (i + 1)) i (length t / 8 - j) j u r ∙ rw (y, v, f) refl in
          let both : Lays (row_at i ∷ steps_laid t u j) d p d' q = rw w at s in
          record {
            taken = omega (arith, k.taken);
            on = λ d'' z l. k.on d'' z (rw next (lays_then (row_at i ∷ steps_laid t u j) (left (i + 1) end) d p d' q d'' z both l));
          }

    pub blocking_end : (d' : List ℕ) (q : Pen) → length b / 5 ≤ i → Lays (steps_laid t (length t / 8 - j) j) d p d' q → Lays all_blocks d₀ p₀ d' q
    blocking_end d' q h s =
        let x : length b / 5 - i ≡ 0 = omega arith in
        let e : left i j ≡ steps_laid t (length t / 8 - j) j = ap (λ z. blocks_laid b t z i (length t / 8 - j) j) x ∙ none_left i (length t / 8 - j) j in
        k.on d' q (rw e s)

    pub blocking_done : length b / 5 ≤ i → j ≡ length t / 8 → Lays all_blocks d₀ p₀ d p
    unfolding steps_laid rows_from
    blocking_done h e = let z : length t / 8 - j ≡ 0 = omega arith in blocking_end d p h (rw z (lays_none d p))

-- a block, and then its steps
pub block_lays : (bound : ℕ) (ss : List Row) (d : List ℕ) (p : Pen) (e : Entry) (d₁ : List ℕ) (p₁ : Pen) (d₂ : List ℕ) (p₂ : Pen)
    → Enters e (row_of 4 48 (bound ∷ [])) → p.at + 8 ≤ length d → d₁ ≡ put_at d p.at e.bytes → p₁ ≡ penned p e → Lays ss d₁ p₁ d₂ p₂
    → Lays (row_of 4 48 (bound ∷ []) ∷ ss) d p d₂ p₂
block_lays bound ss d p e d₁ p₁ d₂ p₂ en room ed ep h =
    lays_then (row_of 4 48 (bound ∷ []) ∷ []) ss d p d₁ p₁ d₂ p₂ (lays_row (row_of 4 48 (bound ∷ [])) d p e en room d₁ p₁ ed ep) h

pub ruleset blockings = (blocking_on, blocking_end, blocking_done)
