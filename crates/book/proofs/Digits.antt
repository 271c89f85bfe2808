-- Laws of the four bytes of a number: what is read from bytes is written as these bytes.
--     number_of_bytes               the number that four bytes make
--     digit0, .., digit3          its digits are the bytes
--     digits, number_small        a number that stands in a book
-- Assumes nothing.
use mathlib.Core.Path.{◌≡◌}
use mathlib.Core.List.{List, [], ◌∷◌}
use Prim.Native.Nat.{ℕ, ◌+◌, ◌*◌, ◌/◌, ◌%◌, ◌<◌}
use native.Mathlib.Omega.{arith}
use Rattle.book.specs.Spans.{Bytes}
use Rattle.book.specs.Records.{byte_at, number_at, number_bytes}

-- the number that four bytes make, the least first
abbrev pub number_of_bytes : ℕ → ℕ → ℕ → ℕ → ℕ
number_of_bytes a b c d = a + 256 * b + 65536 * c + 16777216 * d

module _ (a b c d : ℕ) where
  small : a < 256 → b < 256 → c < 256 → d < 256 → number_of_bytes a b c d < 4294967296
  small ha hb hc hd = omega arith

  pub digit0 : a < 256 → number_of_bytes a b c d % 256 ≡ a
  digit0 h = omega arith

  pub digit1 : a < 256 → b < 256 → number_of_bytes a b c d / 256 % 256 ≡ b
  digit1 ha hb = omega arith

  pub digit2 : a < 256 → b < 256 → c < 256 → number_of_bytes a b c d / 65536 % 256 ≡ c
  digit2 ha hb hc = omega arith

  pub digit3 : a < 256 → b < 256 → c < 256 → d < 256 → number_of_bytes a b c d / 16777216 % 256 ≡ d
  digit3 ha hb hc hd = omega arith

module _ (s : List ℕ) (bytes : Bytes s) (o : ℕ) where
  pub digits : number_bytes (number_at s o) ≡ byte_at s o ∷ byte_at s (o + 1) ∷ byte_at s (o + 2) ∷ byte_at s (o + 3) ∷ []
  unfolding number_at
  digits =
      simp (
        digit0 (byte_at s o) (byte_at s (o + 1)) (byte_at s (o + 2)) (byte_at s (o + 3)) (bytes o),
        digit1 (byte_at s o) (byte_at s (o + 1)) (byte_at s (o + 2)) (byte_at s (o + 3)) (bytes o) (bytes (o + 1)),
        digit2 (byte_at s o) (byte_at s (o + 1)) (byte_at s (o + 2)) (byte_at s (o + 3)) (bytes o) (bytes (o + 1)) (bytes (o + 2)),
        digit3 (byte_at s o) (byte_at s (o + 1)) (byte_at s (o + 2)) (byte_at s (o + 3)) (bytes o) (bytes (o + 1)) (bytes (o + 2)) (bytes (o + 3)),
      )

  pub number_small : number_at s o < 4294967296
  unfolding number_at
  number_small = small (byte_at s o) (byte_at s (o + 1)) (byte_at s (o + 2)) (byte_at s (o + 3)) (bytes o) (bytes (o + 1)) (bytes (o + 2)) (bytes (o + 3))
