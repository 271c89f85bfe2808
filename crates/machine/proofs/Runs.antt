-- The sample runs, by computing them.
-- Assumes nothing.
use mathlib.Core.Path.{refl}
use Rattle.labels.specs.Labels.{lower}
use Rattle.book.specs.Control.{both, those, while, on_some}
use Rattle.book.specs.Kinds.{span, limits, group}
use Rattle.book.specs.Spans.{cut_by, offsets_in, offsets_by}
use Rattle.book.specs.Records.{number_at}
use Rattle.book.specs.Control.{either}
use Rattle.book.specs.Book.{group_of, steps_from, shape_at, value_of, declared_at, step_at, block_at, parse}
use Rattle.book.specs.Refusals.{value_named}
use Rattle.machine.specs.Control.{given, on_plain, on_cell, on_code}
use Rattle.machine.specs.Acts.{exec_label, write_act, relabel_act, new_act, start_act, exec_act}
use Rattle.machine.specs.Steps.{summable, chosen, add_step, read_step, lower_step, turn_of}
use Rattle.machine.specs.Events.{launched_at, landed, turn_landed, outcome_of, state_after, answers}
use Rattle.machine.specs.Samples.{SampleRuns, HistoryRun, TopSums, LaunchRuns, ChooseRuns}

pub sample_runs : SampleRuns
unfolding lower both either those while span limits group number_at cut_by offsets_in offsets_by group_of steps_from shape_at value_of declared_at step_at block_at parse value_named
    on_some given on_plain on_cell on_code exec_label write_act relabel_act new_act start_act exec_act summable add_step read_step lower_step
    turn_of launched_at landed turn_landed outcome_of state_after answers
sample_runs =
    record {
      high_answers = refl;
      high_cells = refl;
      stuck_answers = refl;
      stuck_cells = refl;
      outsider_blocked = refl;
      outsider_refused = refl;
    }

pub history_run : HistoryRun
unfolding lower both either those while span limits group number_at cut_by offsets_in offsets_by group_of steps_from shape_at value_of declared_at step_at block_at parse value_named
    on_some given on_plain on_cell on_code exec_label write_act relabel_act new_act start_act exec_act summable add_step read_step lower_step
    turn_of launched_at landed turn_landed outcome_of state_after answers
history_run = record { cells = refl; jobs = refl }

pub top_sums : TopSums
unfolding on_some given on_plain summable add_step
    turn_of launched_at landed turn_landed outcome_of state_after answers
top_sums =
    record {
      top_and_one = record { answered = refl; state = refl };
      two_halves = record { answered = refl; state = refl };
      two_tops = record { answered = refl; state = refl };
      top_and_none = record { answered = refl; value = refl };
      nearly_halves = record { answered = refl; value = refl };
    }

pub launch_runs : LaunchRuns
unfolding lower both either those while span limits group number_at cut_by offsets_in offsets_by group_of steps_from shape_at value_of declared_at step_at block_at parse value_named
    on_some given on_plain on_cell on_code exec_label write_act relabel_act new_act start_act exec_act summable add_step read_step lower_step
    turn_of launched_at landed turn_landed outcome_of state_after answers
launch_runs = record { low_answers = refl; low_job = refl; given_answers = refl; given_job = refl; bounds = refl; defaults = refl }

pub choose_runs : ChooseRuns
unfolding lower both either those while span limits group number_at cut_by offsets_in offsets_by group_of steps_from shape_at value_of declared_at step_at block_at parse value_named
    on_some given on_plain on_cell on_code exec_label write_act relabel_act new_act start_act exec_act summable chosen add_step read_step lower_step
    turn_of launched_at landed turn_landed outcome_of state_after answers
choose_runs =
    record {
      one = record { answered = refl; jobs = refl };
      second_byte = record { answered = refl; jobs = refl };
      third_byte = record { answered = refl; jobs = refl };
      fourth_byte = record { answered = refl; jobs = refl };
      largest = record { answered = refl; jobs = refl };
      zero = record { answered = refl; jobs = refl };
      chooser_registers = refl;
      started_registers = refl;
      cell_name = record { answered = refl; state = refl };
      code = record { answered = refl; state = refl };
      full = refl;
      full_state = refl;
      lowered = refl;
    }
