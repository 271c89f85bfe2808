-- What typing asks of a book, from an outline's tables, and how the code hands a rule's answer back.
--     is_plain, as_label     a plain shape; a label that may be missing
--     table_view, viewed     what typing asks of a book, from the tables
--     known_in               what is known of a declared value
--     told, cell_on          a rule's answer; a known shape that is a cell
-- Assumes nothing.
use Rattle.std.specs.Prelude.{Bool, not, List, ℕ, eqb, Option as Maybe, None, Some}
use Rattle.std.proofs.Math.Option.{Option, none, some}
use Rattle.std.proofs.Math.ListN.{get_elem?}
use Rattle.labels.specs.declared.Label.{Label}
use Rattle.labels.specs.Labels.{label}
use Rattle.book.specs.declared.Shape.{Shape}
use Rattle.book.specs.declared.Value.{Value}
use Rattle.book.specs.Numbers.{code_shape_kind, cell_shape_kind}
use Rattle.book.specs.Control.{both}
use Rattle.book.specs.Outline.{shape_in}
use Rattle.typing.specs.declared.Known.{Known}
use Rattle.typing.specs.declared.Known.TheVariants.{Unknown, Plain, Code, CellOf}
use Rattle.typing.specs.declared.Tables.{Tables}
use Rattle.typing.specs.declared.State.{State}
use Rattle.typing.specs.declared.Stepped.{Stepped}
use Rattle.typing.specs.declared.Stepped.TheVariants.{Passes, Gives, Lowers, Stuck, Breaks}
use Rattle.typing.specs.Shapes.{View, known_value}
use Rattle.typing.specs.Rules.{Typed, passes, stuck, breaks, gives, lowers_to}

abbrev pub is_plain : Shape → Bool
is_plain x = both (not (eqb x.kind code_shape_kind)) (not (eqb x.kind cell_shape_kind))

abbrev pub as_label : Option ℕ → Option Label
as_label none = none
as_label (some n) = some (label n)

-- from the table of shapes, the cells' shapes and the blocks' bounds
abbrev pub table_view : Label → List ℕ → List ℕ → List ℕ → View
table_view c shapes shaped bounds =
    record { c = c; shape = shape_in shapes; cell = get_elem? shaped; bound = λ b. as_label (get_elem? bounds b) }

-- by the tables as the code holds them
abbrev pub viewed : Tables → View
viewed t = table_view t.c t.shapes.now t.shaped.now t.bounds.now

-- what is known of a declared value, from the tables
abbrev pub known_in : List ℕ → List ℕ → Value → Known
known_in shaped bounds v = known_value (get_elem? shaped) (λ b. as_label (get_elem? bounds b)) v

-- what the code hands back, as a rule's answer in the state s
abbrev pub told : State → Stepped → Typed
told s Passes = passes s
told s (Gives r x) = gives s r x.known x.effect
told s (Lowers q) = lowers_to s q
told s Stuck = stuck
told s Breaks = breaks

-- what is known is a cell, and of which shape
abbrev pub cell_on : Known → Maybe ℕ
cell_on Unknown = None
cell_on Plain = None
cell_on (Code b) = None
cell_on (CellOf i) = Some i
