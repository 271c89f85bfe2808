-- A relation between the entries of two tables: look-ups, stores, new entries.
--     All2, all2_set, .., all2_map       a relation
--     drop_at                            what is left from an entry on
-- Assumes nothing.
use mathlib.Core.Path.{◌≡◌}
use mathlib.Core.Option.{some}
use mathlib.Core.List.{List, [], ◌∷◌}
use Prim.Native.Nat.{ℕ, zero, suc}
use lib.ListN.{get_or, set, replicate, get_elem?, drop}

module _ {A B : Type 0} (R : A → B → Type 0) where
  abbrev pub All2 : List A → List B → Type 0
  All2 [] [] = Unit {0}
  All2 [] (y ∷ ys) = ⊥
  All2 (x ∷ xs) [] = ⊥
  All2 (x ∷ xs) (y ∷ ys) = R x y × All2 xs ys

  pub all2_set : (l : List A) (m : List B) (i : ℕ) (a : A) (b : B) → All2 l m → R a b → All2 (set l i a) (set m i b)
  all2_set [] [] i a b h p = h
  all2_set [] (y ∷ ys) i a b h p = absurd h
  all2_set (x ∷ xs) [] i a b h p = absurd h
  all2_set (x ∷ xs) (y ∷ ys) zero a b h p = (p, h.1)
  all2_set (x ∷ xs) (y ∷ ys) (suc i) a b h p = (h.0, all2_set xs ys i a b h.1 p)

  pub all2_get : (l : List A) (m : List B) (i : ℕ) (a : A) (b : B) → All2 l m → R a b → R (get_or l i a) (get_or m i b)
  all2_get [] [] i a b h p = p
  all2_get [] (y ∷ ys) i a b h p = absurd h
  all2_get (x ∷ xs) [] i a b h p = absurd h
  all2_get (x ∷ xs) (y ∷ ys) zero a b h p = h.0
  all2_get (x ∷ xs) (y ∷ ys) (suc i) a b h p = all2_get xs ys i a b h.1 p

  pub all2_replicate : (n : ℕ) (a : A) (b : B) → R a b → All2 (replicate n a) (replicate n b)
  all2_replicate zero a b p = tt
  all2_replicate (suc n) a b p = (p, all2_replicate n a b p)

pub all2_map : {A B : Type 0} {R S : A → B → Type 0} → ((a : A) (b : B) → R a b → S a b) → (l : List A) (m : List B) → All2 R l m → All2 S l m
all2_map f [] [] h = h
all2_map f [] (y ∷ ys) h = absurd h
all2_map f (x ∷ xs) [] h = absurd h
all2_map f (x ∷ xs) (y ∷ ys) h = (f x y h.0, all2_map f xs ys h.1)

pub drop_at : {A : Type 0} (l : List A) (i : ℕ) (a : A) → get_elem? l i ≡ some a → drop i l ≡ a ∷ drop (suc i) l
drop_at [] i a e = cc
drop_at (x ∷ xs) zero a e = cc
drop_at (x ∷ xs) (suc i) a e = drop_at xs i a e
