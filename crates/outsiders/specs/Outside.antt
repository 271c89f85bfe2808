-- An outsider's event, as the code takes it: is it such that it is answered by more than 3, which cell does it reach, what does it do.
--     low_cell_shape, such_value, such     what answer 3 looks at
--     aimed_at                           the cell that it reaches
--     outside                           what it does
-- Assumes nothing.
use Rattle.std.specs.Prelude.{ℕ, Bool, true, not, leb, ltb, eqb}
use Rattle.labels.specs.declared.Label.{Label}
use Rattle.labels.specs.Labels.{reaches, is_high}
use Rattle.book.specs.declared.Shape.{Shape}
use Rattle.book.specs.Numbers.{cell_shape_kind, max_value_kind}
use Rattle.book.specs.Control.{both}
use Rattle.book.specs.Book.{value_of}
use Rattle.book.specs.Refusals.{value_named}
use Rattle.machine.specs.declared.Event.{Event}
use Rattle.machine.specs.declared.Event.TheVariants.{StepOf, WriteBy, RelabelBy, NewBy, ExecBy, StartBy}
use Rattle.machine.specs.Histories.{sources}
use Rattle.machine.specs.States.{State}
use Rattle.machine.specs.Acts.{Effect, blocked, write_act, relabel_act, new_act, start_act, exec_act}
use Rattle.machine.specs.Events.{table_size, is_label, brought}

-- "a shape that is no cell shape or has trust above C"
unfoldable pub low_cell_shape : Label → Shape → Bool
low_cell_shape c x = both (eqb x.kind cell_shape_kind) (not (is_high x.trust c))

-- with so many cells and blocks: "also one that the event's value names", "a value kind above 2"
unfoldable pub such_value : ℕ → ℕ → ℕ → ℕ → Bool
such_value cells blocks k n = both (leb k max_value_kind) (value_named cells blocks (value_of k n))

-- each kind of event, by an outsider of label q, where C is c
abbrev pub such_write : Label → ℕ → ℕ → Label → ℕ → ℕ → ℕ → Bool
such_write c blocks cells q k v n = both (reaches c q) (both (ltb k cells) (such_value cells blocks v n))

abbrev pub such_relabel : Label → ℕ → Label → ℕ → Label → Bool
such_relabel c cells q k o = both (reaches c q) (both (ltb k cells) (is_label o))

abbrev pub such_new : Label → (ℕ → Shape) → ℕ → ℕ → Label → ℕ → ℕ → ℕ → Bool
such_new c shape blocks cells q i v n = both (reaches c q) (both (low_cell_shape c (shape i)) (such_value cells blocks v n))

abbrev pub such_number : Label → ℕ → Label → ℕ → Bool
such_number c count q k = both (reaches c q) (ltb k count)

-- of a book of this C, these shapes and so many blocks, in a run of so many cells
unfoldable pub such : Label → (ℕ → Shape) → ℕ → ℕ → Event → Bool
such c shape blocks cells (StepOf i) = true
such c shape blocks cells (WriteBy q k v n) = such_write c blocks cells q k v n
such c shape blocks cells (RelabelBy q k o) = such_relabel c cells q k o
such c shape blocks cells (NewBy q i v n) = such_new c shape blocks cells q i v n
such c shape blocks cells (ExecBy q k) = such_number c cells q k
such c shape blocks cells (StartBy q b) = such_number c blocks q b

unfoldable pub aimed_at : Event → ℕ
aimed_at (StepOf i) = 0
aimed_at (WriteBy q k v n) = k
aimed_at (RelabelBy q k o) = k
aimed_at (NewBy q i v n) = 0
aimed_at (ExecBy q k) = k
aimed_at (StartBy q b) = 0

-- a step is not an outsider's
unfoldable pub outside : State Label → Event → Effect Label
outside s (StepOf i) = blocked
outside s (WriteBy q k v n) = write_act sources s q q k (brought sources q v n)
outside s (RelabelBy q k o) = relabel_act sources s q q k o
outside s (NewBy q i v n) = new_act sources table_size s q q i (brought sources q v n)
outside s (ExecBy q k) = exec_act sources table_size s q q k
outside s (StartBy q b) = start_act sources table_size s q q b
