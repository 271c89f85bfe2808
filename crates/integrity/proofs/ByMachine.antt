-- Where no place is weakened, the machine with marks is the machine.
--     turn_by_lem, outcome_by_lem, state_by_lem     a step, an event, a list of events
--     same_machine                      the whole
-- Assumes nothing.
use mathlib.Core.Path.{◌≡◌, refl, ap, ◌∙◌}
use mathlib.Core.List.{List, [], ◌∷◌}
use lib.ListN.{get_elem?}
use Rattle.book.specs.declared.Step.{Step}
use Rattle.book.specs.declared.Step.TheVariants.{Put, Name, Code, Add, New, Read, Write, Relabel, Lower, Start, Exec, Choose}
use Rattle.book.specs.Control.{on_some}
use Rattle.book.specs.Book.{Book}
use Rattle.machine.specs.declared.Event.{Event}
use Rattle.machine.specs.declared.Event.TheVariants.{StepOf, WriteBy, RelabelBy, NewBy, ExecBy, StartBy}
use Rattle.machine.specs.Histories.{History, lists}
use Rattle.machine.specs.States.{Job, State}
use Rattle.machine.specs.Acts.{write_act, relabel_act, exec_act}
use Rattle.machine.specs.Steps.{lower_step, turn_of}
use Rattle.machine.specs.Events.{Outcome, table_size, no_step_left, no_such, block_of, unchanged, turn_landed, outcome_of, state_after}
use Rattle.integrity.specs.Loosened.{write_act_by, relabel_act_by, exec_act_by, lower_step_by, turn_by, outcome_by, state_by, SameMachine}

pub turn_by_lem : (s : State History) (j : Job History) (p : Step) → turn_by "" s j p ≡ turn_of lists table_size s j p
unfolding turn_by write_act_by relabel_act_by exec_act_by lower_step_by turn_of write_act relabel_act exec_act lower_step
turn_by_lem s j (Put r n) = refl
turn_by_lem s j (Name r k) = refl
turn_by_lem s j (Code r b) = refl
turn_by_lem s j (Add r a b) = refl
turn_by_lem s j (New r i a) = refl
turn_by_lem s j (Read r w) = refl
turn_by_lem s j (Write w a) = refl
turn_by_lem s j (Relabel w o) = refl
turn_by_lem s j (Lower q) = refl
turn_by_lem s j (Start b) = refl
turn_by_lem s j (Exec w) = refl
turn_by_lem s j (Choose r a b) = refl

module _ (K : Book) where
  pub outcome_by_lem : (s : State History) (e : Event) → outcome_by "" K s e ≡ outcome_of lists table_size K s e
  unfolding outcome_by write_act_by relabel_act_by exec_act_by outcome_of write_act relabel_act exec_act
  outcome_by_lem s (StepOf i) =
      λ z. on_some (get_elem? s.jobs i) (unchanged no_such s)
      (λ j. on_some (get_elem? (block_of K j.block).steps j.position) (unchanged no_step_left s) (λ p. turn_landed s i (turn_by_lem s j p z)))
  outcome_by_lem s (WriteBy q k v n) = refl
  outcome_by_lem s (RelabelBy q k o) = refl
  outcome_by_lem s (NewBy q i v n) = refl
  outcome_by_lem s (ExecBy q k) = refl
  outcome_by_lem s (StartBy q b) = refl

  pub state_by_lem : (s : State History) (es : List Event) → state_by "" K s es ≡ state_after lists table_size K s es
  unfolding state_by state_after
  state_by_lem s [] = refl
  state_by_lem s (e ∷ es) =
      state_by_lem (outcome_by "" K s e).state es ∙ ap (λ (o : Outcome History). state_after lists table_size K o.state es) (outcome_by_lem s e)

pub same_machine : SameMachine
same_machine = record { outcome_alike = outcome_by_lem; state_alike = state_by_lem }
