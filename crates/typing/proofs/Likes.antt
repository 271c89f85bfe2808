-- Likeness, for the code: it goes by the content of both, which is lower-numbered.
--     enough              any depth above i will do
--     content_falls       the content of a cell shape is lower-numbered
--     contents_alike      so the depth that is left is enough for the contents
-- Assumes nothing.
use mathlib.Core.Path.{◌≡◌, refl, ap}
use mathlib.Core.Bool.{Bool, true, false}
use mathlib.Core.List.{List}
use Prim.Native.Nat.{ℕ, zero, suc, ◌<◌}
use native.Mathlib.Omega.{arith}
use lib.Dec.{eqb}
use borrow.Author.Tests.{eqb-true}
use Rattle.labels.specs.declared.Label.{Label}
use Rattle.book.specs.declared.Shape.{Shape}
use Rattle.book.specs.Control.{both, either}
use Rattle.book.specs.Outline.{shape_in}
use Rattle.book.specs.Asked.{Sound}
use Rattle.typing.specs.Shapes.{is_plain_shape, is_code_shape, is_cell_shape, bound_of, content_of, counted_trust, alike_in, alike}

-- any depth above i will do
module _ (c : Label) (shape : ℕ → Shape) (ok : Sound shape) where
  enough : (f g i j : ℕ) → i < f → i < g → alike_in c shape f i j ≡ alike_in c shape g i j
  unfolding alike_in both
  enough zero g i j p q = absurd (omega arith)
  enough (suc f) zero i j p q = absurd (omega arith)
  enough (suc f) (suc g) i j p q = go (is_cell_shape c shape i) refl (λ h k. enough f g (content_of c shape i) (content_of c shape j) h k)
    where
      rest : Bool → Bool → Bool
      rest b r =
          either (both (is_plain_shape c shape i) (is_plain_shape c shape j))
          (either (both (is_code_shape c shape i) (both (is_code_shape c shape j) (eqb (bound_of c shape i).0 (bound_of c shape j).0)))
          (both b (both (is_cell_shape c shape j) (both (eqb (counted_trust c shape i).0 (counted_trust c shape j).0) r))))

      go : (b : Bool) → is_cell_shape c shape i ≡ b
          → (content_of c shape i < f → content_of c shape i < g
          → alike_in c shape f (content_of c shape i) (content_of c shape j) ≡ alike_in c shape g (content_of c shape i) (content_of c shape j))
          → alike_in c shape (suc f) i j ≡ alike_in c shape (suc g) i j
      go true e r = let d = ok.falls i (eqb-true _ _ e) in ap (rest (is_cell_shape c shape i)) (r (omega arith) (omega arith))
      go false e r = simp e

-- the content of a cell shape is lower-numbered
pub content_falls : (shapes : List ℕ) (i : ℕ) → Sound (shape_in shapes) → (shape_in shapes i).kind ≡ 18 → (shape_in shapes i).content < i
content_falls shapes i ok e = ok.falls i e

-- so the depth that is left is enough for the contents
pub contents_alike : (c : Label) (shapes : List ℕ) (i j : ℕ) → Sound (shape_in shapes) → (shape_in shapes i).kind ≡ 18
    → alike_in c (shape_in shapes) i (shape_in shapes i).content j ≡ alike c (shape_in shapes) (shape_in shapes i).content j
unfolding alike
contents_alike c shapes i j ok e =
    let d = ok.falls i e in
    enough c (shape_in shapes) ok i (suc (shape_in shapes i).content) (shape_in shapes i).content j (omega arith) (omega arith)

pub ruleset likes = (content_falls, contents_alike)
