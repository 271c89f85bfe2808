-- Laws of the tests: what a pair of tests says, cases that cannot be, and what holds of both branches.
-- Assumes nothing.
use mathlib.Core.Path.{◌≡◌, refl}
use mathlib.Core.Bool.{Bool, true, false}
use Rattle.labels.proofs.Impossible.{impossible}
use Rattle.book.specs.Control.{when◌then◌else◌, both, either}

pub clash : {X : Type 0} {b : Bool} → b ≡ true → b ≡ false → X
clash p q = impossible cc

pub both_left : (a b : Bool) → both a b ≡ true → a ≡ true
unfolding both
both_left true b e = refl
both_left false b e = e

pub both_right : (a b : Bool) → both a b ≡ true → b ≡ true
unfolding both
both_right true b e = e
both_right false b e = clash e refl

pub either_left : (a b : Bool) → either a b ≡ false → a ≡ false
unfolding either
either_left true b e = e
either_left false b e = refl

pub either_right : (a b : Bool) → either a b ≡ false → b ≡ false
unfolding either
either_right true b e = clash refl e
either_right false b e = e

pub either_true : (a : Bool) → either a true ≡ true
unfolding either
either_true true = refl
either_true false = refl

pub either_false : (a : Bool) → either a false ≡ a
unfolding either
either_false true = refl
either_false false = refl

pub if_both : {A : Type 0} (P : A → Type 0) (b : Bool) {x y : A} → P x → P y → P (when b then x else y)
if_both P true p q = p
if_both P false p q = q
