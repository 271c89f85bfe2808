-- The entries in use at the front of an array, as the machine's table; and what is left of a list.
--     front_get, front_set, front_push      an entry read, written, added
--     left_some, left_none, left_more       the entry at which what is left of a list begins
-- Assumes nothing.
use mathlib.Core.Path.{◌≡◌, refl, ap}
use mathlib.Core.Option.{none, some}
use mathlib.Core.List.{List, [], ◌∷◌, ◌++◌, map}
use Prim.Native.Nat.{ℕ, zero, suc, ◌<◌, ◌≤◌}
use native.Mathlib.Omega.{arith}
use lib.ListN.{length, take, drop, get_or, set, get_elem?}
use Rattle.labels.proofs.Impossible.{impossible}

module _ {A B : Type 0} (f : A → B) where
  pub front_get : (l : List A) (n i : ℕ) (d : A) → i < n → n ≤ length l → get_elem? (map f (take n l)) i ≡ some (f (get_or l i d))
  front_get [] zero i d h k = absurd (omega arith)
  front_get [] (suc n) i d h k = absurd (omega arith)
  front_get (x ∷ xs) zero i d h k = absurd (omega arith)
  front_get (x ∷ xs) (suc n) zero d h k = refl
  front_get (x ∷ xs) (suc n) (suc i) d h k = front_get xs n i d (omega arith) (omega arith)

  pub front_set : (l : List A) (n i : ℕ) (x : A) → map f (take n (set l i x)) ≡ set (map f (take n l)) i (f x)
  front_set [] zero i x = refl
  front_set [] (suc n) i x = refl
  front_set (y ∷ ys) zero zero x = refl
  front_set (y ∷ ys) zero (suc i) x = refl
  front_set (y ∷ ys) (suc n) zero x = refl
  front_set (y ∷ ys) (suc n) (suc i) x = ap (λ (l : List B). f y ∷ l) (front_set ys n i x)

  pub front_push : (l : List A) (n : ℕ) (x : A) → n < length l → map f (take (suc n) (set l n x)) ≡ map f (take n l) ++ (f x ∷ [])
  front_push [] n x h = absurd (omega arith)
  front_push (y ∷ ys) zero x h = refl
  front_push (y ∷ ys) (suc n) x h = ap (λ (l : List B). f y ∷ l) (front_push ys n x (omega arith))

  pub front_long : (l : List A) (n : ℕ) → n ≤ length l → length (map f (take n l)) ≡ n
  front_long [] zero h = refl
  front_long [] (suc n) h = absurd (omega arith)
  front_long (x ∷ xs) zero h = refl
  front_long (x ∷ xs) (suc n) h = ap suc (front_long xs n (omega arith))

-- another entry stays
pub other_stays : {A : Type 0} (l : List A) (i k : ℕ) (x d : A) → (i ≡ k → ⊥) → get_or (set l i x) k d ≡ get_or l k d
other_stays [] i k x d n = refl
other_stays (y ∷ ys) zero zero x d n = absurd (n refl)
other_stays (y ∷ ys) zero (suc k) x d n = refl
other_stays (y ∷ ys) (suc i) zero x d n = refl
other_stays (y ∷ ys) (suc i) (suc k) x d n = other_stays ys i k x d (λ e. n (ap suc e))

module _ {A : Type 0} where
  pub left_some : (l : List A) (p : ℕ) (x : A) (r : List A) → drop p l ≡ x ∷ r → get_elem? l p ≡ some x
  left_some [] zero x r e = impossible cc
  left_some [] (suc p) x r e = impossible cc
  left_some (y ∷ ys) zero x r e = ap some cc
  left_some (y ∷ ys) (suc p) x r e = left_some ys p x r e

  pub left_none : (l : List A) (p : ℕ) → drop p l ≡ [] → get_elem? l p ≡ none
  left_none [] zero e = refl
  left_none [] (suc p) e = refl
  left_none (y ∷ ys) zero e = impossible cc
  left_none (y ∷ ys) (suc p) e = left_none ys p e

  pub left_more : (l : List A) (p : ℕ) (x : A) (r : List A) → drop p l ≡ x ∷ r → drop (suc p) l ≡ r
  left_more [] zero x r e = impossible cc
  left_more [] (suc p) x r e = impossible cc
  left_more (y ∷ ys) zero x r e = cc
  left_more (y ∷ ys) (suc p) x r e = left_more ys p x r e
