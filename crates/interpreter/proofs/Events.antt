-- The outcome of an outsider's event, by what the loop knows of the book; an event of the list by its kind.
--     act_none, act_some      an event that is not such, one that is
--     step_here, act_here     for the code: the kind of the event at an offset
-- Assumes nothing.
use mathlib.Core.Path.{◌≡◌, refl, ap, ◌∙◌}
use mathlib.Core.Bool.{Bool, true, false}
use mathlib.Core.List.{List}
use Prim.Native.Nat.{ℕ, ◌+◌}
use lib.Dec.{eqb}
use lib.ListN.{length, get_or}
use borrow.Author.Tests.{ne_eqb}
use Rattle.labels.specs.declared.Label.{Label}
use Rattle.book.specs.declared.Shape.{Shape}
use Rattle.book.specs.Book.{parse}
use Rattle.book.specs.Refusals.{no_shape}
use Rattle.book.specs.Spans.{byte_at}
use Rattle.machine.specs.Control.{given}
use Rattle.machine.specs.declared.Event.{Event}
use Rattle.machine.specs.declared.Event.TheVariants.{StepOf, WriteBy, RelabelBy, NewBy, ExecBy, StartBy}
use Rattle.machine.specs.Histories.{sources}
use Rattle.machine.specs.States.{State}
use Rattle.machine.specs.Events.{table_size, no_such, unchanged, landed, outcome_of}
use Rattle.outsiders.specs.Outside.{low_cell_shape, such_value, such, outside}
use Rattle.events.specs.Bytes.{event_at}

-- no step
pub data Outsider : Event → Type 0 where
  writes : {q : Label} {k v n : ℕ} → Outsider (WriteBy q k v n)
  relabels : {q : Label} {k : ℕ} {l : Label} → Outsider (RelabelBy q k l)
  makes : {q : Label} {i v n : ℕ} → Outsider (NewBy q i v n)
  execs : {q : Label} {k : ℕ} → Outsider (ExecBy q k)
  starts : {q : Label} {k : ℕ} → Outsider (StartBy q k)

pub step_here : (list : List ℕ) (o : ℕ) → byte_at list o ≡ 80 → StepOf (byte_at list (o + 1)) ≡ event_at list o
unfolding event_at
step_here list o e = simp e

pub act_here : (list : List ℕ) (o : ℕ) (e : Event) → (byte_at list o ≡ 80 → ⊥) → e ≡ event_at list o → Outsider e
unfolding event_at
act_here list o e n q = rw q (go (eqb (byte_at list o) 81) (eqb (byte_at list o) 82) (eqb (byte_at list o) 83) (eqb (byte_at list o) 84) refl refl refl refl)
  where
    go : (a b c d : Bool) → eqb (byte_at list o) 81 ≡ a → eqb (byte_at list o) 82 ≡ b → eqb (byte_at list o) 83 ≡ c → eqb (byte_at list o) 84 ≡ d
        → Outsider (event_at list o)
    go true b c d ea eb ec ed = rw (ne_eqb _ _ n, ea) writes
    go false true c d ea eb ec ed = rw (ne_eqb _ _ n, ea, eb) relabels
    go false false true d ea eb ec ed = rw (ne_eqb _ _ n, ea, eb, ec) makes
    go false false false true ea eb ec ed = rw (ne_eqb _ _ n, ea, eb, ec, ed) execs
    go false false false false ea eb ec ed = rw (ne_eqb _ _ n, ea, eb, ec, ed) starts

-- the shapes and the number of blocks of the book b, as the loop knows them
module _ (b : List ℕ) (shape : ℕ → Shape) (shapes_are : (i : ℕ) → shape i ≡ get_or (parse b).shapes i no_shape) (blocks : ℕ)
    (blocks_are : blocks ≡ length (parse b).blocks) (s : State Label) where
  pub act_is : (e : Event) → Outsider e
      → outcome_of sources table_size (parse b) s e
      ≡ given (such (parse b).c shape blocks (length s.cells) e) (landed s s (outside s e)) (unchanged no_such s)
  unfolding outcome_of such such_value low_cell_shape outside
  act_is (StepOf i) x = elim x [ ]
  act_is (WriteBy q k v n) writes = rw blocks_are refl
  act_is (RelabelBy q k l) relabels = refl
  act_is (NewBy q i v n) makes = rw (blocks_are, shapes_are i) refl
  act_is (ExecBy q k) execs = refl
  act_is (StartBy q k) starts = rw blocks_are refl

  module _ (e : Event) (w : Outsider e) (n : ℕ) (en : length s.cells ≡ n) (t : Bool) (et : t ≡ such (parse b).c shape blocks n e) where
    count : such (parse b).c shape blocks (length s.cells) e ≡ such (parse b).c shape blocks n e
    count = ap (λ n. such (parse b).c shape blocks n e) en

    pub act_none : t ≡ false → outcome_of sources table_size (parse b) s e ≡ unchanged no_such s
    unfolding given
    act_none f = act_is e w ∙ simp (count, ← et, f)

    pub act_some : t ≡ true → outcome_of sources table_size (parse b) s e ≡ landed s s (outside s e)
    unfolding given
    act_some f = act_is e w ∙ simp (count, ← et, f)
