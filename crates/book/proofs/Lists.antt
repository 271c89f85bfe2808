-- Laws of lists that the library lacks.
--     past                        past the end stands the default
--     at_some, at_none            an entry that there is, and one that there is not
-- Assumes nothing.
use mathlib.Core.Path.{◌≡◌, refl, sym}
use mathlib.Core.List.{List, [], ◌∷◌}
use mathlib.Core.Option.{none, some}
use Prim.Native.Nat.{ℕ, zero, suc, ◌≤◌, ◌<◌}
use native.Mathlib.Omega.{arith}
use lib.ListN.{length, get_or, get_elem?, get_or-eq_default}

pub past : {A : Type 0} (l : List A) (d : A) (i : ℕ) → length l ≤ i → d ≡ get_or l i d
past l d i h = sym (get_or-eq_default l d h)

pub at_some : (l : List ℕ) (i : ℕ) → i < length l → get_elem? l i ≡ some (get_or l i 0)
at_some [] i h = absurd (omega arith)
at_some (x ∷ xs) zero h = refl
at_some (x ∷ xs) (suc i) h = at_some xs i (omega arith)

pub at_none : {A : Type 0} (l : List A) (i : ℕ) → length l ≤ i → get_elem? l i ≡ none
at_none [] i h = refl
at_none (x ∷ xs) zero h = absurd (omega arith)
at_none (x ∷ xs) (suc i) h = at_none xs i (omega arith)
