-- The machine that keeps sources is the image of the machine that keeps histories.
--     lowest_append        the source of joined histories
--     source_law           the law
-- Assumes nothing.
use mathlib.Core.Path.{◌≡◌, refl, ap, ◌∙◌}
use mathlib.Core.List.{List, [], ◌∷◌, ◌++◌}
use Prim.Native.Nat.{ℕ, min}
use native.Mathlib.Omega.{arith}
use Rattle.labels.specs.declared.Label.{Label}
use Rattle.labels.specs.Labels.{label, lower}
use Rattle.machine.specs.Histories.{lists, lowest, source, sources}
use Rattle.machine.specs.Images.{Image, SourceLaw}
use Rattle.machine.proofs.Images.{images}

min_assoc : (a b c : ℕ) → min a (min b c) ≡ min (min a b) c
min_assoc a b c = omega arith

pub lower_assoc : (a b c : Label) → lower a (lower b c) ≡ lower (lower a b) c
unfolding lower
lower_assoc a b c = ap label (min_assoc a.0 b.0 c.0)

pub lowest_append : (l m : Label) (ls ms : List Label) → lowest l (ls ++ (m ∷ ms)) ≡ lower (lowest l ls) (lowest m ms)
lowest_append l m [] ms = refl
lowest_append l m (x ∷ xs) ms = ap (lower l) (lowest_append x m xs ms) ∙ lower_assoc l (lowest x xs) (lowest m ms)

pub source_image : Image lists sources
source_image =
    record { of = source; of_one = λ l. refl; of_join = λ g h. lowest_append g.first h.first g.rest h.rest }

pub source_law : SourceLaw
unfolding source_image
source_law size K = images lists sources source_image size K
