-- Tests that hold.
-- Assumes nothing.
use mathlib.Core.Path.{◌≡◌, refl}
use mathlib.Core.Bool.{Bool, true, false, not}
use Rattle.book.specs.Control.{both, either}
use Rattle.book.proofs.Tests.{clash}

pub both_true : (a b : Bool) → a ≡ true → b ≡ true → both a b ≡ true
unfolding both
both_true a b p q = simp p q

-- one of two holds, and the first does not
pub either_second : (a b : Bool) → either a b ≡ true → a ≡ false → b ≡ true
unfolding either
either_second true b e f = clash refl f
either_second false b e f = e

pub not-false : (b : Bool) → b ≡ true → not b ≡ false
not-false true e = refl
not-false false e = clash e refl
