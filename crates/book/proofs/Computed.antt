-- A rule of all numbers below a bound, proved by one test that antt computes.
--     and_left, and_right    both tests pass
--     all_below               a test passes at each number below a bound
--     at                     what it says of one of them
--     between                a function of bytes has one value from a number to another
-- Assumes nothing.
use mathlib.Core.Path.{◌≡◌, refl, subst, sym}
use mathlib.Core.Bool.{Bool, true, false, ◌&&◌, ◌||◌}
use Prim.Native.Nat.{ℕ, zero, suc, ◌≤◌, ◌<◌}
use native.Mathlib.Nat.{not-suc-le-zero}
use native.Mathlib.Omega.{arith}
use lib.Dec.{T, eqb, ltb, eqb→eq}
use borrow.Author.Tests.{le-ltb, eqb-true, eqb-false}

abbrev pub all_below : (ℕ → Bool) → ℕ → Bool
all_below f zero = true
all_below f (suc n) = f n && all_below f n

pub and_left : (a b : Bool) → T (a && b) → T a
and_left true b t = tt
and_left false b t = t

pub and_right : (a b : Bool) → T (a && b) → T b
and_right true b t = t
and_right false b t = absurd t

pub at : (f : ℕ → Bool) (n : ℕ) → T (all_below f n) → (k : ℕ) → k < n → T (f k)
at f zero t k h = absurd (not-suc-le-zero h)
at f (suc n) t k h = go (at f n (and_right (f n) (all_below f n) t) k) (eqb k n) refl
  where
    go : (k < n → T (f k)) → (b : Bool) → eqb k n ≡ b → T (f k)
    go below true e = subst (λ (m : ℕ). T (f m)) (sym (eqb-true k n e)) (and_left (f n) (all_below f n) t)
    go below false e = below (let d = eqb-false k n e in omega arith)

-- from a to b it is v
abbrev pub ranged : (ℕ → ℕ) → ℕ → ℕ → ℕ → ℕ → Bool
ranged f a b v k = ltb k a || (ltb b k || eqb v (f k))

pub between : (f : ℕ → ℕ) (a b v : ℕ) → T (all_below (ranged f a b v) 256) → (k : ℕ) → k < 256 → a ≤ k → k ≤ b → v ≡ f k
between f a b v t k h p q = eqb→eq v (f k) (rw (le-ltb k a p, le-ltb b k q) at (at (ranged f a b v) 256 t k h))
