-- Entries of a list, looked up by their numbers.
--     entry_set, entry_append, entry_drop     after a store elsewhere, before what is appended, behind what is dropped
--     entry_inside, entry_there               a number that has an entry is inside, and one that is inside has an entry
-- Assumes nothing.
use mathlib.Core.Path.{◌≡◌, refl, ap}
use mathlib.Core.Option.{none, some}
use mathlib.Core.List.{List, [], ◌∷◌, ◌++◌}
use Prim.Native.Nat.{ℕ, zero, suc, ◌+◌, ◌<◌}
use native.Mathlib.Omega.{arith}
use lib.ListN.{length, drop, set, get_elem?}
use Rattle.labels.proofs.Impossible.{impossible}

module _ {A : Type 0} where
  pub entry_set : (l : List A) (i k : ℕ) (a : A) → (i ≡ k → ⊥) → get_elem? (set l i a) k ≡ get_elem? l k
  entry_set [] i k a d = refl
  entry_set (x ∷ xs) zero zero a d = absurd (d refl)
  entry_set (x ∷ xs) zero (suc k) a d = refl
  entry_set (x ∷ xs) (suc i) zero a d = refl
  entry_set (x ∷ xs) (suc i) (suc k) a d = entry_set xs i k a (λ e. d (ap suc e))

  pub entry_append : (l m : List A) (k : ℕ) → k < length l → get_elem? (l ++ m) k ≡ get_elem? l k
  entry_append [] m k h = absurd (omega arith)
  entry_append (x ∷ xs) m zero h = refl
  entry_append (x ∷ xs) m (suc k) h = entry_append xs m k (omega arith)

  pub entry_drop : (l : List A) (p k : ℕ) → get_elem? (drop p l) k ≡ get_elem? l (p + k)
  entry_drop l zero k = let e : 0 + k ≡ k = omega arith in rw e
  entry_drop [] (suc p) k = refl
  entry_drop (x ∷ xs) (suc p) k = let e : suc p + k ≡ suc (p + k) = omega arith in rw e (entry_drop xs p k)

  pub entry_inside : (l : List A) (k : ℕ) (a : A) → get_elem? l k ≡ some a → k < length l
  entry_inside [] k a e = impossible cc
  entry_inside (x ∷ xs) zero a e = omega arith
  entry_inside (x ∷ xs) (suc k) a e = let h = entry_inside xs k a e in omega arith

  pub entry_there : (l : List A) (k : ℕ) → k < length l → get_elem? l k ≡ none → ⊥
  entry_there [] k h e = omega arith
  entry_there (x ∷ xs) zero h e = impossible cc
  entry_there (x ∷ xs) (suc k) h e = entry_there xs k (omega arith) e
