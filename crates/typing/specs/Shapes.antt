-- Shapes: 01, "Typing a block". What typing asks of a book, likeness, fitting, and the rule for a declared cell.
--     View, view_of                what typing asks of a book
--     alike, fits                 shapes against shapes, registers against contents
--     declared_ok                  a declared cell's rule
-- Assumes nothing.
use Rattle.std.specs.Prelude.{ℕ, zero, suc, Bool, true, false, not, map, eqb, get_or}
use Rattle.std.proofs.Math.Option.{Option}
use Rattle.std.proofs.Math.ListN.{get_elem?}
use Rattle.labels.specs.declared.Label.{Label}
use Rattle.labels.specs.declared.Trust.{Trust}
use Rattle.labels.specs.Labels.{reaches, is_met, is_high, normal}
use Rattle.book.specs.declared.Shape.{Shape}
use Rattle.book.specs.declared.Value.{Value}
use Rattle.book.specs.declared.Value.TheVariants.{CellName, CodeName}
use Rattle.book.specs.declared.Value.TheVariants as Values
use Rattle.book.specs.declared.Declared.{Declared}
use Rattle.book.specs.Numbers.{code_shape_kind, cell_shape_kind}
use Rattle.book.specs.Control.{when◌then◌else◌, both, either, on_some}
use Rattle.book.specs.Book.{Book, Block}
use Rattle.book.specs.Refusals.{no_shape}
use Rattle.typing.specs.declared.Known.{Known}
use Rattle.typing.specs.declared.Known.TheVariants.{Unknown, Plain, Code, CellOf}

-- C, the shape of a number, the shape of a declared cell, the bound of a block
pub record View : Type 0 where
  pub c : Label
  pub shape : ℕ → Shape
  pub cell : ℕ → Option ℕ
  pub bound : ℕ → Option Label

unfoldable pub view_of : Book → View
view_of K =
    record {
      c = K.c;
      shape = λ i. get_or K.shapes i no_shape;
      cell = λ k. get_elem? (map (λ (d : Declared). d.shape) K.cells) k;
      bound = λ b. get_elem? (map (λ (b : Block). b.bound) K.blocks) b;
    }

-- over C and the shapes by their numbers
module _ (c : Label) (shape : ℕ → Shape) where
  abbrev pub is_code_shape : ℕ → Bool
  is_code_shape i = eqb (shape i).kind code_shape_kind

  abbrev pub is_cell_shape : ℕ → Bool
  is_cell_shape i = eqb (shape i).kind cell_shape_kind

  abbrev pub is_plain_shape : ℕ → Bool
  is_plain_shape i = both (not (is_code_shape i)) (not (is_cell_shape i))

  abbrev pub bound_of : ℕ → Label
  bound_of i = (shape i).bound

  abbrev pub content_of : ℕ → ℕ
  content_of i = (shape i).content

  -- "In typing, a trust .. at or below C counts as 0"
  abbrev pub counted_trust : ℕ → Trust
  counted_trust i = normal c (shape i).trust

  -- "Two shapes are alike when both are plain, both code with one bound, or both cells with equal trust and alike contents."
  -- Contents are lower-numbered, so a depth of i + 1 is enough.
  unfoldable pub alike_in : ℕ → ℕ → ℕ → Bool
  alike_in zero i j = true
  alike_in (suc n) i j =
      either (both (is_plain_shape i) (is_plain_shape j))
      (either (both (is_code_shape i) (both (is_code_shape j) (eqb (bound_of i).0 (bound_of j).0)))
      (both (is_cell_shape i) (both (is_cell_shape j) (both (eqb (counted_trust i).0 (counted_trust j).0) (alike_in n (content_of i) (content_of j))))))

  unfoldable pub alike : ℕ → ℕ → Bool
  alike i j = alike_in (suc i) i j

  -- what is known of a value that has shape i
  unfoldable pub known_of : ℕ → Known
  known_of i = when is_code_shape i then Code (bound_of i) else when is_cell_shape i then CellOf i else Plain

  -- "A code register of bound B fits a code content of bound at most B; others fit when alike."
  unfoldable pub fits : Known → ℕ → Bool
  fits Unknown i = false
  fits Plain i = is_plain_shape i
  fits (Code b) i = both (is_code_shape i) (reaches b (bound_of i))
  fits (CellOf j) i = alike j i

  -- "trust above C"
  abbrev pub is_high_trust : ℕ → Bool
  is_high_trust i = is_high (counted_trust i) c

-- what is known of a declared value, by the declared cells' shapes and the blocks' bounds
unfoldable pub known_value : (ℕ → Option ℕ) → (ℕ → Option Label) → Value → Known
known_value cell bound (Values.Plain n) = Plain
known_value cell bound (CellName n) = on_some (cell n) Unknown CellOf
known_value cell bound (CodeName n) = on_some (bound n) Unknown Code

-- "A declared cell of trust above C needs label at least trust and a fitting value. Others need nothing."
unfoldable pub declared_ok : View → Declared → Bool
declared_ok B d =
    when is_high_trust B.c B.shape d.shape
    then both (is_met (counted_trust B.c B.shape d.shape) d.label)
    (fits B.c B.shape (known_value B.cell B.bound d.value) (content_of B.c B.shape d.shape))
    else true
