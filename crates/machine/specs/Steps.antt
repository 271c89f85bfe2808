-- A step of a job: 01, "The machine", with add as 02, Two, and choose as 02, Four, has it. Each kind of step is one definition.
--     Turn                   the job after its step, and what the step does to the tables
--     register, gets         a register of a job; a job whose step gave a register
--     summable               which sums add makes
--     chosen                 which block choose starts
--     add_step, .., turn_of    each kind of step; a step
-- Assumes nothing.
use Rattle.std.specs.Prelude.{ℕ, suc, ◌+◌, Bool, ltb, eqb, length, get_or, set}
use Rattle.std.proofs.Math.ListN.{get_elem?}
use Rattle.labels.specs.declared.Label.{Label}
use Rattle.labels.specs.Labels.{reaches}
use Rattle.book.specs.declared.Value.{Value}
use Rattle.book.specs.declared.Value.TheVariants.{Plain, CellName, CodeName}
use Rattle.book.specs.declared.Step.{Step}
use Rattle.book.specs.declared.Step.TheVariants.{Put, Name, Code, Add, New, Read, Write, Relabel, Lower, Start, Exec, Choose}
use Rattle.book.specs.Control.{on_some}
use Rattle.machine.specs.Control.{given, on_plain, on_cell}
use Rattle.machine.specs.Histories.{Histories}
use Rattle.machine.specs.States.{Traced, Job, State}
use Rattle.machine.specs.Acts.{Effect, blocked, keep, acted, zero_with, write_act, relabel_act, new_act, start_act, exec_act}

-- Where the effect is blocked, the job is left as it was: "\"Blocked\" changes nothing; the job may be stepped again later."
pub record Turn (H : Type 0) : Type 0 where
  pub job : Job H
  pub effect : Effect H

-- the exact sum is not "4,294,967,296 or more"
unfoldable pub summable : ℕ → ℕ → Bool
summable x y = ltb (x + y) 4294967296

-- 02, Four: "it starts the first block if r is plain and not 0, the second if r is plain 0"
unfoldable pub chosen : ℕ → ℕ → ℕ → ℕ
chosen n first second = given (eqb n 0) second first

-- over any histories
module _ (A : Histories) where
  open A use {H, one, join}

  abbrev pub register : Job H → ℕ → Traced H
  register j r = get_or j.registers r (zero_with A j.history)

  abbrev pub turn : Job H → Effect H → Turn H
  turn j e = record { job = j; effect = e }

  abbrev pub stay : Job H → Turn H
  stay j = turn j blocked

  -- the step is done
  abbrev pub moved : Job H → Job H
  moved j = record { block = j.block; position = suc j.position; label = j.label; registers = j.registers; history = j.history }

  -- the step is done, and register r has this value
  abbrev pub gets : Job H → ℕ → Value → H → Job H
  gets j r v h =
      record {
        block = j.block;
        position = suc j.position;
        label = j.label;
        registers = set j.registers r (record { value = v; history = h });
        history = j.history;
      }

  -- "put, name, code: a value with the job's history."
  abbrev pub giving : Job H → ℕ → Value → Turn H
  giving j r v = turn (gets j r v j.history) keep

  -- 01: "add: blocked unless both are plain; the sum modulo 4,294,967,296; both histories, then the act." 02, Two: "From now on add is
  -- blocked when the exact sum is 4,294,967,296 or more."
  unfoldable pub add_step : Job H → ℕ → Traced H → Traced H → Turn H
  add_step j r a b =
      on_plain a.value (stay j)
      (λ x. on_plain b.value (stay j)
      (λ y. given (summable x y)
      (turn (gets j r (Plain (x + y)) (join (join a.history b.history) j.history)) keep)
      (stay j)))

  -- "read: blocked unless w is a cell; r gets the content (an act)."
  unfoldable pub read_step : State H → Job H → ℕ → ℕ → Turn H
  read_step s j r w =
      on_cell (register j w).value (stay j)
      (λ k. on_some (get_elem? s.cells k) (stay j)
      (λ c. turn (gets j r c.content.value (acted A j.history c.content).history) keep))

  -- "lower Q: blocked if Q is above the job's label; else the label is Q, appended to the job's history."
  unfoldable pub lower_step : Job H → Label → Turn H
  lower_step j q =
      given (reaches j.label q)
      (turn
      (record { block = j.block; position = suc j.position; label = q; registers = j.registers; history = join j.history (one q) })
      keep)
      (stay j)

  -- an act on the cell that register w names: "blocked unless w is a cell"
  abbrev pub through : Job H → ℕ → (ℕ → Effect H) → Turn H
  through j w act = on_cell (register j w).value (stay j) (λ k. turn (moved j) (act k))

  -- A step of job j, in tables of this size.
  module _ (size : ℕ) (s : State H) (j : Job H) where
    unfoldable pub turn_of : Step → Turn H
    turn_of (Put r n) = giving j r (Plain n)
    turn_of (Name r k) = giving j r (CellName k)
    turn_of (Code r b) = giving j r (CodeName b)
    turn_of (Add r a b) = add_step j r (register j a) (register j b)
    -- "r gets its name with the job's history"
    turn_of (New r i a) =
        turn (gets j r (CellName (length s.cells)) j.history) (new_act A size s j.label j.history i (register j a))
    turn_of (Read r w) = read_step s j r w
    turn_of (Write w a) = through j w (λ k. write_act A s j.label j.history k (register j a))
    turn_of (Relabel w o) = through j w (λ k. relabel_act A s j.label j.history k o)
    turn_of (Lower q) = lower_step j q
    turn_of (Start b) = turn (moved j) (start_act A size s j.label j.history b)
    turn_of (Exec w) = through j w (exec_act A size s j.label j.history)
    -- 02, Four: "and is blocked otherwise or when no job fits"; "The started job has the chooser's label, and its history is the chooser's alone"
    turn_of (Choose r a b) =
        on_plain (register j r).value (stay j) (λ n. turn (moved j) (start_act A size s j.label j.history (chosen n a b)))
