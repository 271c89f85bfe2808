-- Tests, and what tests pick from a list.
--     when◌then◌else◌, both, either     cases on tests
--     on_some                          on what may be missing
--     those, while                    the members that pass; those before the first that does not
--     sweep, first                    the first member at fault
-- Assumes nothing.
use Rattle.std.specs.Prelude.{ℕ, Bool, true, false, List, [], ◌∷◌}
use Rattle.std.proofs.Math.Option.{Option, none, some}
use Rattle.book.specs.Missing.{Fault}
use Rattle.std.specs.Prelude.{None, Some}

infixr 10 when◌then◌else◌
abbrev pub when◌then◌else◌ {ℓ} : {A : Type ℓ} → Bool → A → A → A
when true then a else b = a
when false then a else b = b

-- `◌&&◌` and `◌||◌` of the library are abbreviations, open everywhere. These are opened by name, so that a law can be about them.
unfoldable pub both : Bool → Bool → Bool
both true b = b
both false b = false

unfoldable pub either : Bool → Bool → Bool
either true b = true
either false b = b

unfoldable pub on_some : {A X : Type 0} → Option A → X → (A → X) → X
on_some none x f = x
on_some (some a) x f = f a

unfoldable pub those : (ℕ → Bool) → List ℕ → List ℕ
those f [] = []
those f (x ∷ xs) = elim (f x) [ true ↦ x ∷ those f xs | false ↦ those f xs ]

unfoldable pub while : (ℕ → Bool) → List ℕ → List ℕ
while f [] = []
while f (x ∷ xs) = elim (f x) [ true ↦ x ∷ while f xs | false ↦ [] ]

-- A stage of refusals: from the state t each record is bad or gives the next state; the end may be at fault too.
module _ {S : Type 0} (bad : S → ℕ → Bool) (on : S → ℕ → S) (end : S → Fault) where
  unfoldable pub sweep : S → List ℕ → Fault
  sweep t [] = end t
  sweep t (o ∷ os) = elim (bad t o) [ true ↦ Some o | false ↦ sweep (on t o) os ]

-- the first member that is bad
abbrev pub first : (ℕ → Bool) → List ℕ → Fault
first f os = sweep {S = Unit {0}} (λ t o. f o) (λ t o. t) (λ t. None) tt os
