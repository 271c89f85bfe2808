-- In a book that refusal 6 does not hold of, contents are lower-numbered.
-- Assumes nothing.
use mathlib.Core.Path.{◌≡◌, refl}
use mathlib.Core.Bool.{Bool, true, false}
use mathlib.Core.List.{List, [], ◌∷◌, map}
use Prim.Native.Nat.{ℕ, zero, suc, ◌+◌, ◌<◌}
use native.Mathlib.Omega.{arith}
use lib.Dec.{eqb}
use lib.ListN.{get_or}
use borrow.Author.Tests.{leb-false}
use Rattle.labels.proofs.Impossible.{impossible}
use Rattle.std.specs.Prelude.{None, Some}
use Rattle.book.specs.Control.{sweep, those}
use Rattle.book.specs.Records.{byte_at, records, in_group}
use Rattle.book.specs.Book.{group_of, shape_at, parse}
use Rattle.book.specs.Refusals.{dangling, dangles, no_shape, name_fault}

module _ (f : ℕ → Bool) (cells blocks : ℕ) (s : List ℕ) where
  one : (n o : ℕ) → dangling f cells blocks s n o ≡ false → (shape_at s o).kind ≡ 18 → (shape_at s o).content < n
  unfolding dangling shape_at
  one n o e k = go (eqb (byte_at s o) 17) refl (eqb (byte_at s o) 18) refl
    where
      go : (a : Bool) → eqb (byte_at s o) 17 ≡ a → (b : Bool) → eqb (byte_at s o) 18 ≡ b → (shape_at s o).content < n
      go true p b q = let z : ◌≡◌ {A = ℕ} 17 18 = simp p at k in absurd (omega arith)
      go false p true q = simp (p, q) (leb-false _ _ (simp q at e))
      go false p false q = let z : ◌≡◌ {A = ℕ} 16 18 = simp (p, q) at k in absurd (omega arith)

  below : (os : List ℕ) (n : ℕ) → dangles f cells blocks s n os ≡ None → (i : ℕ)
      → (get_or (map (shape_at s) (those (in_group s 2) os)) i no_shape).kind ≡ 18 → (get_or (map (shape_at s) (those (in_group s 2) os)) i no_shape).content < n + i
  unfolding dangles sweep those
  below [] n e i k = let z : ◌≡◌ {A = ℕ} 0 18 = k in absurd (omega arith)
  below (o ∷ os) n e i k = go (dangling f cells blocks s n o) refl (in_group s 2 o) refl i k (below os)
    where
      go : (a : Bool) → dangling f cells blocks s n o ≡ a → (b : Bool) → in_group s 2 o ≡ b → (i : ℕ)
          → (get_or (map (shape_at s) (those (in_group s 2) (o ∷ os))) i no_shape).kind ≡ 18
          → ((n : ℕ) → dangles f cells blocks s n os ≡ None → (i : ℕ) → (get_or (map (shape_at s) (those (in_group s 2) os)) i no_shape).kind ≡ 18
          → (get_or (map (shape_at s) (those (in_group s 2) os)) i no_shape).content < n + i)
          → (get_or (map (shape_at s) (those (in_group s 2) (o ∷ os))) i no_shape).content < n + i
      go true p b q i k r =
          let x : Some o ≡ None = simp (sweep, p) at e in
          impossible cc
      go false p true q zero k r = simp (those, q) (let l = one n o p (simp (those, q) at k) in omega arith)
      go false p true q (suc i) k r = simp (those, q) (let l = r (n + 1) (simp (sweep, p, q) at e) i (simp (those, q) at k) in omega arith)
      go false p false q i k r = simp (those, q) (r n (simp (sweep, p, q) at e) i (simp (those, q) at k))

pub content_lower : (s : List ℕ) → name_fault s ≡ None → (i : ℕ) → (get_or (parse s).shapes i no_shape).kind ≡ 18 → (get_or (parse s).shapes i no_shape).content < i
unfolding name_fault parse group_of
content_lower s e i k = let h = below _ _ _ s (records s) 0 e i k in omega arith
