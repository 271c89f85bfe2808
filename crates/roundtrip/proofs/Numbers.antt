-- Laws of a number's four bytes.
--     four_bytes        they make the number, where it has 32 bits
--     number_there      so it is read where they stand
-- Assumes nothing.
use mathlib.Core.Path.{◌≡◌}
use mathlib.Core.List.{List}
use Prim.Native.Nat.{ℕ, ◌+◌, ◌*◌, ◌/◌, ◌%◌, ◌<◌}
use native.Mathlib.Nat.{div-div-eq-div-mul}
use native.Mathlib.Omega.{arith}
use Rattle.book.specs.Records.{byte_at, number_at}

small : (x : ℕ) → x < 256 → x % 256 ≡ x
small x h = omega arith

low : (x : ℕ) → x % 256 + 256 * (x / 256) ≡ x
low x = omega arith

pub four_bytes : (n : ℕ) → n < 4294967296 → n % 256 + 256 * (n / 256 % 256) + 65536 * (n / 65536 % 256) + 16777216 * (n / 16777216 % 256) ≡ n
four_bytes n h =
    let a : n / 256 / 256 ≡ n / 65536 = div-div-eq-div-mul n 256 256 in
    let b : n / 65536 / 256 ≡ n / 16777216 = div-div-eq-div-mul n 65536 256 in
    let c : n / 16777216 % 256 ≡ n / 16777216 = small (n / 16777216) (omega arith) in
    let p = low n in
    let q = rw a at (low (n / 256)) in
    let r = rw b at (low (n / 65536)) in
    go (n % 256) (n / 256) (n / 256 % 256) (n / 65536) (n / 65536 % 256) (n / 16777216) (n / 16777216 % 256) p q r c
  where
    go : (x0 n1 x1 n2 x2 n3 x3 : ℕ) → x0 + 256 * n1 ≡ n → x1 + 256 * n2 ≡ n1 → x2 + 256 * n3 ≡ n2 → x3 ≡ n3 → x0 + 256 * x1 + 65536 * x2 + 16777216 * x3 ≡ n
    go x0 n1 x1 n2 x2 n3 x3 p q r c = omega arith

-- where they stand
pub number_there : (s : List ℕ) (o n : ℕ) → n < 4294967296 → byte_at s o ≡ n % 256 → byte_at s (o + 1) ≡ n / 256 % 256
    → byte_at s (o + 2) ≡ n / 65536 % 256 → byte_at s (o + 3) ≡ n / 16777216 % 256 → number_at s o ≡ n
unfolding number_at
number_there s o n h a b c d = rw (a, b, c, d) (four_bytes n h)
