-- A predicate at each entry of a list: look-ups, stores, new entries, and what a test picks.
--     All, all_each, .., all_map    a predicate
--     map_all, .., all_said         entries of a mapped list
--     those_all, while_all          the members that pass a test; those before the first that does not
-- Assumes nothing.
use mathlib.Core.Path.{◌≡◌, refl}
use mathlib.Core.Bool.{Bool, true, false}
use mathlib.Core.Option.{some}
use mathlib.Core.List.Memᴰ
use mathlib.Core.List.{List, [], ◌∷◌, ◌++◌, map, Memᴰ}
use Prim.Native.Nat.{ℕ, zero, suc}
use lib.ListN.{get_or, set, replicate, get_elem?}
use Rattle.labels.proofs.Impossible.{impossible}
use Rattle.book.specs.Control.{those, while}

module _ {A : Type 0} (P : A → Type 0) where
  abbrev pub All : List A → Type 0
  All [] = Unit {0}
  All (x ∷ xs) = P x × All xs

  pub all_each : ((a : A) → P a) → (l : List A) → All l
  all_each f [] = tt
  all_each f (x ∷ xs) = (f x, all_each f xs)

  pub all_set : (l : List A) (i : ℕ) (a : A) → All l → P a → All (set l i a)
  all_set [] i a h p = h
  all_set (x ∷ xs) zero a h p = (p, h.1)
  all_set (x ∷ xs) (suc i) a h p = (h.0, all_set xs i a h.1 p)

  pub all_push : (l : List A) (a : A) → All l → P a → All (l ++ (a ∷ []))
  all_push [] a h p = (p, tt)
  all_push (x ∷ xs) a h p = (h.0, all_push xs a h.1 p)

  pub all_append : (l m : List A) → All l → All m → All (l ++ m)
  all_append [] m h k = k
  all_append (x ∷ xs) m h k = (h.0, all_append xs m h.1 k)

  pub all_at : (l : List A) (i : ℕ) (a : A) → All l → get_elem? l i ≡ some a → P a
  all_at [] i a h e = impossible cc
  all_at (x ∷ xs) zero a h e = let z : x ≡ a = cc in rw z at h.0
  all_at (x ∷ xs) (suc i) a h e = all_at xs i a h.1 e

  pub all_get : (l : List A) (i : ℕ) (d : A) → All l → P d → P (get_or l i d)
  all_get [] i d h p = p
  all_get (x ∷ xs) zero d h p = h.0
  all_get (x ∷ xs) (suc i) d h p = all_get xs i d h.1 p

  pub all_replicate : (n : ℕ) (a : A) → P a → All (replicate n a)
  all_replicate zero a p = tt
  all_replicate (suc n) a p = (p, all_replicate n a p)

  pub all_in : (l : List A) (a : A) → All l → Memᴰ a l → P a
  all_in [] a h m = absurd (Memᴰ.not-nil m)
  all_in (x ∷ xs) a h (Memᴰ.head e) = rw e h.0
  all_in (x ∷ xs) a h (Memᴰ.tail m) = all_in xs a h.1 m

-- an entry of a list, where its image is one of the mapped list; and back
pub map_all : {A B : Type 0} (f : A → B) (P : B → Type 0) (l : List A) (a : A) → All P (map f l) → Memᴰ a l → P (f a)
map_all f P [] a h m = absurd (Memᴰ.not-nil m)
map_all f P (x ∷ xs) a h (Memᴰ.head e) = rw e h.0
map_all f P (x ∷ xs) a h (Memᴰ.tail m) = map_all f P xs a h.1 m

pub map_from : {A B : Type 0} (f : A → B) (P : B → Type 0) → (l : List A) → ((a : A) → Memᴰ a l → P (f a)) → (b : B) → Memᴰ b (map f l) → P b
map_from f P [] g b m = absurd (Memᴰ.not-nil m)
map_from f P (x ∷ xs) g b (Memᴰ.head e) = rw e (g x (Memᴰ.head refl))
map_from f P (x ∷ xs) g b (Memᴰ.tail m) = map_from f P xs (λ a i. g a (Memᴰ.tail i)) b m

pub all_map : {A : Type 0} {P Q : A → Type 0} → ((a : A) → P a → Q a) → (l : List A) → All P l → All Q l
all_map f [] h = h
all_map f (x ∷ xs) h = (f x h.0, all_map f xs h.1)

pub all_both : {A : Type 0} (P Q R : A → Type 0) → ((a : A) → P a → Q a → R a) → (l : List A) → All P l → All Q l → All R l
all_both P Q R f [] h k = tt
all_both P Q R f (x ∷ xs) h k = (f x h.0 k.0, all_both P Q R f xs h.1 k.1)

pub mapped : {A B : Type 0} (P : A → Type 0) (Q : B → Type 0) (f : A → B) → ((a : A) → P a → Q (f a)) → (l : List A) → All P l → All Q (map f l)
mapped P Q f g [] h = tt
mapped P Q f g (x ∷ xs) h = (g x h.0, mapped P Q f g xs h.1)

-- what holds of every image
pub all_said : {A B : Type 0} (Q : B → Type 0) (f : A → B) → ((a : A) → Q (f a)) → (l : List A) → All Q (map f l)
all_said Q f g l = mapped (λ a. Q (f a)) Q f (λ a h. h) l (all_each _ g l)

-- a member that passes, with what is known of it
pub record Passing (P : ℕ → Type 0) (f : ℕ → Bool) (o : ℕ) : Type 0 where
  pub known : P o
  pub passes : f o ≡ true

module _ (P : ℕ → Type 0) (f : ℕ → Bool) where
  pub those_all : (os : List ℕ) → All P os → All (Passing P f) (those f os)
  unfolding those
  those_all [] h = tt
  those_all (o ∷ os) h = go (f o) refl (those_all os h.1)
    where
      go : (b : Bool) → f o ≡ b → All (Passing P f) (those f os) → All (Passing P f) (those f (o ∷ os))
      go true p r = simp (those, p) (record { known = h.0; passes = p }, r)
      go false p r = simp (those, p) r

  pub while_all : (os : List ℕ) → All P os → All (Passing P f) (while f os)
  unfolding while
  while_all [] h = tt
  while_all (o ∷ os) h = go (f o) refl (while_all os h.1)
    where
      go : (b : Bool) → f o ≡ b → All (Passing P f) (while f os) → All (Passing P f) (while f (o ∷ os))
      go true p r = simp (while, p) (record { known = h.0; passes = p }, r)
      go false p r = simp (while, p) tt
