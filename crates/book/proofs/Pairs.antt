-- A step that was found, and the offset past it: two that are the same have the same step and the same offset.
--     same_found, none_found
-- Assumes nothing.
use mathlib.Core.Path.{◌≡◌, ap}
use Prim.Native.Nat.{ℕ}
use Rattle.std.specs.Prelude.{None, Some}
use Rattle.labels.proofs.Impossible.{impossible}
use Rattle.book.specs.declared.Step.{Step}
use Rattle.book.specs.Missing.{StepAt}

abbrev found_or : Step × ℕ → StepAt → Step × ℕ
found_or d None = d
found_or d (Some q) = q

pub same_found : {a c : Step} {b d : ℕ} → ◌≡◌ {A = StepAt} (Some (a, b)) (Some (c, d)) → (a ≡ c) × (b ≡ d)
same_found {a} {c} {b} {d} e = (ap (λ x. (found_or (a, b) x).0) e, ap (λ x. (found_or (a, b) x).1) e)

pub none_found : {X : Type 0} {q : Step × ℕ} → ◌≡◌ {A = StepAt} None (Some q) → X
none_found e = impossible cc
