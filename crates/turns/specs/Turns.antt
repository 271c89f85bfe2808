-- A step, as the code takes it: the cell that it reaches, and what it does.
--     number_in                             the number in a register
--     target_through, target_by, reached_by   the register that names the cell which a step reaches; that cell
--     target_in, reached_in                  the same, by what they depend on
--     Takes                                contract: what a step does
--     Gives, Changes, Launches             kinds of steps, by what they do
-- Assumes nothing.
use Rattle.std.specs.Prelude.{ℕ, ◌<◌, ◌≤◌, ◌≡◌, List}
use Rattle.std.proofs.Math.Option.{Option, none, some}
use Rattle.labels.specs.declared.Label.{Label}
use Rattle.labels.specs.Labels.{label}
use Rattle.book.specs.declared.Step.{Step}
use Rattle.book.specs.Parts.{parts_of}
use Rattle.machine.specs.Histories.{sources}
use Rattle.machine.specs.States.{Traced, State}
use Rattle.machine.specs.States as States
use Rattle.machine.specs.Acts.{zero_with}
use Rattle.machine.specs.Steps.{register, turn_of}
use Rattle.machine.specs.Records.{number_of}
use Rattle.machine.specs.Events.{table_size}
use Rattle.acts.specs.declared.Stored.{Stored}
use Rattle.acts.specs.declared.Act.{Act}
use Rattle.acts.specs.Views.{actor, turn_taken, settled, Only}
use Rattle.book.specs.Numbers.{put_kind, new_kind, write_kind, lower_kind, start_kind}

-- the number in register w
abbrev pub number_in : States.Job Label → ℕ → ℕ
number_in j w = number_of (register sources j w).value

-- the register that names the cell which a step reaches; a plain 0 where it reaches none
abbrev pub target_through : Option ℕ → States.Job Label → Traced Label
target_through none j = zero_with sources j.history
target_through (some w) j = register sources j w

unfoldable pub target_by : Step → States.Job Label → Traced Label
target_by p j = target_through (parts_of p).through j

-- the cell that a step reaches
abbrev pub reached_by : Step → States.Job Label → ℕ
reached_by p j = number_of (target_by p j).value

-- neither depends on the job's label, block and position
abbrev pub target_in : Step → Label → List Stored → Traced Label
target_in p h rs = target_by p (actor (label 0) h rs 0 0)

abbrev pub reached_in : Step → Label → List Stored → ℕ
reached_in p h rs = number_of (target_in p h rs).value

-- x is what step p does in the state s, at the label l, with the history h and these registers, whatever the job's block b and position i; it is
-- blocked or of sort n
pub record Takes (n : ℕ) (s : State Label) (p : Step) (l h : Label) (rs : List Stored) (x : Act) : Type 0 where
  pub takes : (b i : ℕ)
      → turn_taken s (actor l h rs b i) (reached_by p (actor l h rs b i)) x
      ≡ settled (actor l h rs b i) (turn_of sources table_size s (actor l h rs b i) p)
  pub only : Only n x

-- kinds of steps: put, name, code, add and read; write and relabel; start, exec and choose
pub record Gives (k : ℕ) : Type 0 where
  pub from : put_kind ≤ k
  pub to : k < write_kind
  pub no_new : k ≡ new_kind → ⊥

pub record Changes (k : ℕ) : Type 0 where
  pub from : write_kind ≤ k
  pub to : k < lower_kind

pub record Launches (k : ℕ) : Type 0 where
  pub from : start_kind ≤ k
