-- The places of the rules and of the machine that the theorem needs, one by one, each by the name of its mark in Weakened or Loosened.
-- proofs/EachNeeded.antt has the books and the events.
--     ShapesNeeded, StepsNeeded     the typing rules: shapes and declared cells; steps
--     MachineNeeded                 the machine
--     EachNeeded                    all of them
--     LaunchNeeded                  that the launch label is at most the bound
-- Assumes nothing.
use Rattle.std.specs.Prelude.{ℕ, ◌+◌, ◌≡◌, List}
use Rattle.labels.specs.Labels.{label}
use Rattle.book.specs.Book.{parse}
use Rattle.typing.specs.Verdict.{Accepted}
use Rattle.typing.specs.Verdict.{verdict}
use Rattle.machine.specs.declared.Event.{Event}
use Rattle.machine.specs.Histories.{lists}
use Rattle.machine.specs.Events.{table_size, first_bound, fresh_state, state_after}
use Rattle.integrity.specs.Integrity.{Sentences}
use Rattle.integrity.specs.Weakened.{Needed}
use Rattle.integrity.specs.Loosened.{NeededThere}

pub record ShapesNeeded : Type 0 where
  pub declared_high : Needed "declared: trust above C"
  pub declared_label : Needed "declared: label at least trust"
  pub declared_fits : Needed "declared: a fitting value"
  pub code_bound : Needed "fits: bound at most B"
  pub cell_alike : Needed "fits: others when alike"
  pub alike_first_plain : Needed "alike: the first is plain"
  pub alike_second_plain : Needed "alike: the second is plain"
  pub alike_first_code : Needed "alike: the first is code"
  pub alike_second_code : Needed "alike: the second is code"
  pub alike_larger_bound : Needed "alike: the first bound is no larger"
  pub alike_smaller_bound : Needed "alike: the first bound is no smaller"
  pub alike_first_cell : Needed "alike: the first is a cell"
  pub alike_second_cell : Needed "alike: the second is a cell"
  pub alike_higher_trust : Needed "alike: the first trust is no higher"
  pub alike_lower_trust : Needed "alike: the first trust is no lower"
  pub alike_high : Needed "alike: trust above C"
  pub alike_contents : Needed "alike: alike contents"
  pub alike_depth : Needed "alike: contents of contents"

pub record StepsNeeded : Type 0 where
  pub p_bound : Needed "P begins as the bound"
  pub p_low : Needed "P at or below C"
  pub new_low : Needed "new at low P"
  pub new_low_high : Needed "new at low P: trust above C"
  pub add_first : Needed "add: the first's effect"
  pub add_second : Needed "add: the second's effect"
  pub lower_p : Needed "lower: Q is above P"
  pub lower_c : Needed "lower: Q is above C"
  pub lower_both : Needed "lower: both P and C"
  pub lower_q : Needed "lower: P is Q"
  pub new_high : Needed "new: trust above C"
  pub new_lowered : Needed "new: an earlier lower"
  pub new_fits : Needed "new: the content fits"
  pub new_p : Needed "new: trust is at most P"
  pub new_effect : Needed "new: trust is at most its effect"
  pub read_effect : Needed "read: w of low effect"
  pub read_trust : Needed "read: the smaller of S and P"
  pub write_w : Needed "write: w of used effect above C"
  pub write_p : Needed "write: P is below S"
  pub write_high : Needed "write: S above C"
  pub write_fits : Needed "write: a fits"
  pub write_effect : Needed "write: S is at most its used effect"
  pub relabel_w : Needed "relabel: w of used effect above C"
  pub relabel_s : Needed "relabel: P is below S"
  pub relabel_o : Needed "relabel: P is below O"
  pub relabel_label : Needed "relabel: S is at most O"
  pub relabel_high : Needed "relabel: S above C"
  pub exec_w : Needed "exec: w of used effect above C"
  pub exec_bound : Needed "exec: bound at least P"
  pub exec_trust : Needed "exec: S at least P"
  pub start_bound : Needed "start: bound at least P"
  pub choose_first : Needed "choose: the first bound at least P"
  pub choose_second : Needed "choose: the second bound at least P"

pub record MachineNeeded : Type 0 where
  pub write_q : NeededThere "81: Q above C"
  pub relabel_q : NeededThere "82: Q above C"
  pub new_trust : NeededThere "83: trust above C"
  pub exec_q : NeededThere "84: Q above C"
  pub start_q : NeededThere "85: Q above C"
  pub write_label : NeededThere "write: label at most the job's"
  pub relabel_old : NeededThere "relabel: old label at most the job's"
  pub relabel_new : NeededThere "relabel: new label at most the job's"
  pub new_label : NeededThere "new: with the job's label"
  pub lower_to : NeededThere "lower: the label is Q"
  pub start_label : NeededThere "start: at this label"
  pub lower_label : NeededThere "lower: Q is above the job's label"
  pub exec_lower : NeededThere "exec: the lower of the two labels"
  pub choose_label : NeededThere "choose: the chooser's label"
  pub choose_history : NeededThere "choose: the chooser's history alone"

pub record EachNeeded : Type 0 where
  pub shapes : ShapesNeeded
  pub steps : StepsNeeded
  pub machine : MachineNeeded

-- 02, Three: "every launch label up to the bound", and not the next. An accepted book, launched at one above its block 0's bound, and events after
-- which a sentence is broken.
pub record LaunchNeeded : Type 0 where
  pub bytes : List ℕ
  pub events : List Event
  pub shapes : ℕ
  pub cells : ℕ
  pub blocks : ℕ
  pub steps : ℕ
  pub accepted : verdict bytes ≡ Accepted shapes cells blocks steps
  pub broken :
      Sentences (parse bytes)
      (state_after lists table_size (parse bytes) (fresh_state lists (parse bytes) (label ((first_bound (parse bytes)).0 + 1))) events) → ⊥
