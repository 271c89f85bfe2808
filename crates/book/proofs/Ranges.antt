-- Laws of refusal 5: no kind has a limited field after its third, so three tests do.
--     first_above, second_above, third_above     what the tests say
-- Assumes nothing.
use mathlib.Core.Path.{◌≡◌, refl}
use mathlib.Core.Bool.{Bool, true, false}
use mathlib.Core.List.{List, [], ◌∷◌}
use Prim.Native.Nat.{ℕ, ◌+◌, ◌≤◌, ◌<◌}
use native.Mathlib.Omega.{arith}
use lib.Dec.{leb, ltb, T}
use lib.ListN.{get_or}
use borrow.Author.Tests.{lt-ltb, le-ltb, leb-true}
use Rattle.book.specs.Control.{both, either}
use Rattle.book.specs.Kinds.{limits}
use Rattle.book.specs.Records.{byte_at}
use Rattle.book.specs.Refusals.{above, out_of_range}
use Rattle.book.specs.Asked.{limit}
use Rattle.book.proofs.Computed.{at}
use Rattle.book.proofs.Tests.{both_left, both_right, either_false}

-- every limit is at least 255
free : List ℕ → Bool
free [] = true
free (l ∷ ls) = both (leb 255 l) (free ls)

-- after the third field every limit is
loose : List ℕ → Bool
loose [] = true
loose (a ∷ []) = true
loose (a ∷ b ∷ []) = true
loose (a ∷ b ∷ c ∷ ls) = free ls

holds : (b : Bool) → T b → b ≡ true
holds true t = refl
holds false t = absurd t

all_loose : (k : ℕ) → k < 256 → loose (limits k) ≡ true
unfolding loose free both limits
all_loose k h = holds (loose (limits k)) (at (λ k. loose (limits k)) 256 tt k h)

module _ (s : List ℕ) (bytes : (i : ℕ) → byte_at s i < 256) where
  never : (l i : ℕ) → 255 ≤ l → ltb l (byte_at s i) ≡ false
  never l i h = le-ltb l (byte_at s i) (let b = bytes i in omega arith)

  free_none : (ls : List ℕ) (i : ℕ) → free ls ≡ true → above s i ls ≡ false
  unfolding free above either
  free_none [] i e = refl
  free_none (l ∷ ls) i e =
      simp (never l i (leb-true 255 l (both_left _ _ e)), above) (free_none ls (i + 1) (both_right (leb 255 l) (free ls) e))

  three : (ls : List ℕ) (i : ℕ) → loose ls ≡ true
      → above s i ls ≡ either (ltb (get_or ls 0 255) (byte_at s i)) (either (ltb (get_or ls 1 255) (byte_at s (i + 1))) (ltb (get_or ls 2 255) (byte_at s (i + 2))))
  unfolding loose above either
  three [] i e = simp (never 255 i (omega arith), never 255 (i + 1) (omega arith), never 255 (i + 2) (omega arith))
  three (a ∷ []) i e = simp (never 255 (i + 1) (omega arith), never 255 (i + 2) (omega arith))
  three (a ∷ b ∷ []) i e = simp (never 255 (i + 2) (omega arith))
  three (a ∷ b ∷ c ∷ ls) i e =
      let h : i + 1 + 1 ≡ i + 2 = omega arith in
      let n : above s (i + 2 + 1) ls ≡ false = free_none ls (i + 2 + 1) e in
      simp (h, n, either_false)

  -- the limits of every kind are loose
  module _ (o : ℕ) where
    limited : out_of_range s o
        ≡ either (ltb (limit (byte_at s o) 0) (byte_at s (o + 1)))
        (either (ltb (limit (byte_at s o) 1) (byte_at s (o + 2))) (ltb (limit (byte_at s o) 2) (byte_at s (o + 3))))
    unfolding out_of_range
    limited =
        let h : o + 1 + 1 ≡ o + 2 = omega arith in
        let k : o + 1 + 2 ≡ o + 3 = omega arith in
        simp (h, k) at (three (limits (byte_at s o)) (o + 1) (all_loose (byte_at s o) (bytes o)))

    -- a, b, c are the limits, x, y, z the fields
    module _ (a x : ℕ) (ea : a ≡ limit (byte_at s o) 0) (ex : x ≡ byte_at s (o + 1)) where
      pub first_above : a < x → true ≡ out_of_range s o
      unfolding either
      first_above h = simp (limited, ← ea, ← ex, lt-ltb _ _ h)

      module _ (b y : ℕ) (eb : b ≡ limit (byte_at s o) 1) (ey : y ≡ byte_at s (o + 2)) (n : x ≤ a) where
        pub second_above : b < y → true ≡ out_of_range s o
        unfolding either
        second_above h = simp (limited, ← ea, ← ex, ← eb, ← ey, le-ltb _ _ n, lt-ltb _ _ h)

        pub third_above : (c z : ℕ) → c ≡ limit (byte_at s o) 2 → z ≡ byte_at s (o + 3) → y ≤ b → ltb c z ≡ out_of_range s o
        unfolding either
        third_above c z ec ez h = simp (limited, ← ea, ← ex, ← eb, ← ey, ← ec, ← ez, le-ltb _ _ n, le-ltb _ _ h)
