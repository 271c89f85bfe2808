-- The typing rules of the steps: 01, "Typing a block".
--     Typed          what a step's rule says
--     known, used    a register's shape and effect, as a rule may use them
--     step_rule       the rule of a step
--     fault          the walk of the rest of a block from any state
-- Assumes nothing.
use Rattle.std.specs.Prelude.{ℕ, Bool, true, false, not, List, [], ◌∷◌, get_or, set, replicate}
use Rattle.std.proofs.Math.Option.{Option, none, some}
use Rattle.labels.specs.declared.Label.{Label}
use Rattle.labels.specs.Labels.{label, lower, reaches, is_met, covers, capped}
use Rattle.book.specs.Missing.{Fault}
use Rattle.std.specs.Prelude.{None, Some}
use Rattle.book.specs.declared.Shape.{Shape}
use Rattle.book.specs.declared.Step.{Step}
use Rattle.book.specs.declared.Step.TheVariants.{Put, Name, Add, New, Read, Write, Relabel, Lower, Start, Exec, Choose}
use Rattle.book.specs.declared.Step.TheVariants as S
use Rattle.book.specs.Parts.{Reference, to_nothing, to_cell, to_block, to_cell_shape, to_blocks, parts_of}
use Rattle.book.specs.Control.{when◌then◌else◌, both, either, on_some}
use Rattle.typing.specs.declared.Known.{Known}
use Rattle.typing.specs.declared.Known.TheVariants.{Unknown, Plain, Code, CellOf}
use Rattle.typing.specs.declared.Register.{Register}
use Rattle.typing.specs.declared.State.{State}
use Rattle.typing.specs.Shapes.{View, is_cell_shape, content_of, counted_trust, is_high_trust, known_of, fits}

-- the state after the step; stuck; or the rule is broken
pub data Typed : Type 0 where
  passes : State → Typed
  stuck breaks : Typed

-- what a rule needs: else it is broken
unfoldable pub breaks_unless : Bool → Typed → Typed
breaks_unless true t = t
breaks_unless false t = breaks

-- what a step waits for: else it is stuck
unfoldable pub stuck_unless : Bool → Typed → Typed
stuck_unless true t = t
stuck_unless false t = stuck

unfoldable pub on_known_cell : Known → (ℕ → Typed) → Typed
on_known_cell Unknown f = breaks
on_known_cell Plain f = breaks
on_known_cell (Code b) f = breaks
on_known_cell (CellOf i) f = f i

unfoldable pub on_known_code : Known → (Label → Typed) → Typed
on_known_code Unknown f = breaks
on_known_code Plain f = breaks
on_known_code (Code b) f = f b
on_known_code (CellOf i) f = breaks

unfoldable pub is_plainly : Known → Bool
is_plainly Unknown = false
is_plainly Plain = true
is_plainly (Code b) = false
is_plainly (CellOf i) = false

-- past the registers: low
abbrev pub low_register : Register
low_register = record { known = Unknown; effect = label 0 }

abbrev pub register_type : State → ℕ → Register
register_type t r = get_or t.registers r low_register

-- register r gets this known shape and effect
abbrev pub gives : State → ℕ → Known → Label → Typed
gives t r k e =
    passes (record { p = t.p; lowered = t.lowered; registers = set t.registers r (record { known = k; effect = e }) })

-- a low result
abbrev pub gives_low : State → ℕ → Typed
gives_low t r = gives t r Unknown (label 0)

-- "P begins as the bound. Each register has a known shape and an effect; at the start plain and P."
unfoldable pub fresh : Label → State
fresh b = record { p = b; lowered = false; registers = replicate 8 (record { known = Plain; effect = b }) }

-- "A used effect is the smaller of effect and P."
abbrev pub used : State → ℕ → Label
used t r = lower (register_type t r).effect t.p

-- an effect "at or below C .. (\"low\")"
abbrev pub is_low : Label → Label → Bool
is_low c e = reaches c e

-- "Low effect means unknown shape."
unfoldable pub known : Label → State → ℕ → Known
known c t r = when is_low c (register_type t r).effect then Unknown else (register_type t r).known

-- "lower Q, at every P: stuck if Q is above both P and C; else P is Q."
abbrev pub lowers_to : State → Label → Typed
lowers_to t q = passes (record { p = q; lowered = true; registers = t.registers })

unfoldable pub lower_rule : Label → State → Label → Typed
lower_rule c t q = stuck_unless (either (reaches t.p q) (is_low c q)) (lowers_to t q)

-- "operands of effect above C must be plain"; 02, Four: "r must be plain unless its effect is low"
unfoldable pub plain_or_low : Label → State → ℕ → Bool
plain_or_low c t a = either (is_low c (register_type t a).effect) (is_plainly (register_type t a).known)

-- "add: operands of effect above C must be plain; least effect."
abbrev pub add_rule : Label → State → ℕ → ℕ → ℕ → Typed
add_rule c t r a b = breaks_unless (both (plain_or_low c t a) (plain_or_low c t b)) (gives t r Plain (lower (used t a) (used t b)))

-- over C and the shapes by their numbers
module _ (c : Label) (shape : ℕ → Shape) where
  -- "the content fits, and trust is at most its used effect"; "a fits and S is at most its used effect"
  unfoldable pub holds : State → ℕ → ℕ → Bool
  holds t a i = both (fits c shape (known c t a) (content_of c shape i)) (is_met (counted_trust c shape i) (used t a))

  -- "results are low"
  abbrev pub low_result : State → Option ℕ → Typed
  low_result t none = passes t
  low_result t (some r) = gives_low t r

  -- "except new with trust above C": new is the step that names a cell shape
  abbrev pub except_high : Reference → Typed → Typed
  except_high to_nothing x = x
  except_high (to_cell k) x = x
  except_high (to_block b) x = x
  except_high (to_cell_shape i) x = breaks_unless (not (is_high_trust c shape i)) x
  except_high (to_blocks a b) x = x

  -- "With P at or below C every step passes, except new with trust above C; results are low." "lower Q, at every P"
  unfoldable pub low_rule : State → Step → Typed
  low_rule t p =
      elim (parts_of p).lowers [ some q ↦ lower_rule c t q | none ↦ except_high (parts_of p).names (low_result t (parts_of p).gives) ]

  -- P above C.
  -- "put, name, code: effect P." A number that the book does not have breaks the rule; refusal 6 has seen to it that none stands.
  abbrev pub name_rule : State → ℕ → Option ℕ → Typed
  name_rule t r cell = on_some cell breaks (λ i. breaks_unless (is_cell_shape c shape i) (gives t r (CellOf i) t.p))

  -- "new: low trust passes; otherwise an earlier lower must stand in the block, the content fits, and trust is at most its used
  -- effect. Result effect P."
  abbrev pub new_rule : State → ℕ → ℕ → ℕ → Typed
  new_rule t r i a =
      breaks_unless (both (is_cell_shape c shape i) (either (not (is_high_trust c shape i)) (both t.lowered (holds t a i)))) (gives t r (CellOf i) t.p)

  -- "read: w of low effect gives low; else w is a cell, and the result has its content shape and the smaller of S and P."
  abbrev pub read_from : State → ℕ → ℕ → Typed
  read_from t r i = gives t r (known_of c shape (content_of c shape i)) (capped (counted_trust c shape i) t.p)

  abbrev pub read_rule : State → ℕ → ℕ → Typed
  read_rule t r w = when is_low c (register_type t w).effect then gives_low t r else on_known_cell (known c t w) (read_from t r)

  -- "write, relabel, exec need w a cell with used effect above C." P is above C, so that is w's effect above C.
  -- "write: stuck if P is below S; low S passes; else a fits and S is at most its used effect."
  abbrev pub write_rule : State → ℕ → ℕ → Typed
  write_rule t w a =
      on_known_cell (known c t w)
      (λ i. stuck_unless (is_met (counted_trust c shape i) t.p) (breaks_unless (either (not (is_high_trust c shape i)) (holds t a i)) (passes t)))

  -- "relabel to O: stuck if P is below S or O; else S is at most O."
  abbrev pub relabel_rule : State → ℕ → Label → Typed
  relabel_rule t w o =
      on_known_cell (known c t w)
      (λ i. stuck_unless (both (is_met (counted_trust c shape i) t.p) (reaches t.p o)) (breaks_unless (is_met (counted_trust c shape i) o) (passes t)))

  -- "exec: the content is code with bound at least P, and S at least P."
  abbrev pub exec_rule : State → ℕ → Typed
  exec_rule t w =
      on_known_cell (known c t w)
      (λ i. on_known_code (known_of c shape (content_of c shape i))
      (λ k. breaks_unless (both (reaches k t.p) (covers (counted_trust c shape i) t.p)) (passes t)))

-- "put, name, code: effect P."
abbrev pub code_rule : State → ℕ → Option Label → Typed
code_rule t r bound = on_some bound breaks (λ k. gives t r (Code k) t.p)

-- "the block's bound is at least P"; a block that the book does not have cannot be started
unfoldable pub startable : Label → Option Label → Bool
startable p none = false
startable p (some k) = reaches k p

-- "start: the block's bound is at least P."
abbrev pub start_rule : State → Option Label → Typed
start_rule t bound = breaks_unless (startable t.p bound) (passes t)

-- 02, Four: "With P above C, both bounds must be at least P, and r must be plain unless its effect is low."
abbrev pub choose_rule : Label → State → ℕ → Option Label → Option Label → Typed
choose_rule c t r first second = breaks_unless (both (both (startable t.p first) (startable t.p second)) (plain_or_low c t r)) (passes t)

module _ (B : View) where
  unfoldable pub high_rule : State → Step → Typed
  high_rule t (Put r n) = gives t r Plain t.p
  high_rule t (Name r k) = name_rule B.c B.shape t r (B.cell k)
  high_rule t (S.Code r b) = code_rule t r (B.bound b)
  high_rule t (Add r a b) = add_rule B.c t r a b
  high_rule t (New r i a) = new_rule B.c B.shape t r i a
  high_rule t (Read r w) = read_rule B.c B.shape t r w
  high_rule t (Write w a) = write_rule B.c B.shape t w a
  high_rule t (Relabel w o) = relabel_rule B.c B.shape t w o
  high_rule t (Lower q) = lower_rule B.c t q
  high_rule t (Start b) = start_rule t (B.bound b)
  high_rule t (Exec w) = exec_rule B.c B.shape t w
  high_rule t (Choose r a b) = choose_rule B.c t r (B.bound a) (B.bound b)

  unfoldable pub step_rule : State → Step → Typed
  step_rule t p = when is_low B.c t.p then low_rule B.c B.shape t p else high_rule t p

  -- The first of the steps at os that breaks its rule, from the state t on: "After a stuck step the rest of the block passes."
  module _ (at : ℕ → Step) where
    unfoldable pub fault : State → List ℕ → Fault
    fault t [] = None
    fault t (o ∷ os) = elim (step_rule t (at o)) [ passes u ↦ fault u os | stuck ↦ None | breaks ↦ Some o ]
