-- What is said of a run, whatever it was refused by.
--     refusal_is     its refusal
-- Assumes nothing.
use mathlib.Core.Path.{◌≡◌, refl}
use mathlib.Core.List.{List}
use Prim.Native.Nat.{ℕ}
use Rattle.labels.specs.declared.Label.{Label}
use Rattle.book.specs.Outcome.{Refusal, Passed, Refused}
use Rattle.interpreter.specs.Run.{played, ran_of}

pub refusal_is : (r : Refusal) (book : List ℕ) (l : Label) (list cells jobs room : List ℕ) → (ran_of r book l list cells jobs room).refusal ≡ r
unfolding ran_of played
refusal_is Passed book l list cells jobs room = refl
refusal_is (Refused n o) book l list cells jobs room = refl
