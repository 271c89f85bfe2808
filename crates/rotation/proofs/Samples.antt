-- The sample rounds, by computing them.
-- Assumes nothing.
use mathlib.Core.Path.{refl}
use Rattle.book.specs.Control.{on_some}
use Rattle.machine.specs.Control.{given, on_cell}
use Rattle.machine.specs.Acts.{start_act}
use Rattle.machine.specs.Steps.{read_step, lower_step, turn_of}
use Rattle.machine.specs.Events.{landed, turn_landed, outcome_of, answers}
use Rattle.rotation.specs.Round.{first_place, scan, has_step, next_job, chosen_jobs}
use Rattle.rotation.specs.Samples.{SampleRound, LaunchedRound, SmallRounds}

pub sample_round_lem : SampleRound
unfolding on_some given on_cell start_act read_step turn_of landed turn_landed outcome_of answers first_place scan has_step next_job chosen_jobs
sample_round_lem =
    record {
      stuck = refl;
      stuck_answers = refl;
      finishing = refl;
      finishing_used = refl;
      finishing_answers = refl;
      handing = refl;
      swapped = refl;
      swapped_answers = refl;
      growing = refl;
      growing_answers = refl;
      cut = refl;
      no_turn = refl;
      no_step = refl;
    }

pub launched_round : LaunchedRound
unfolding on_some given lower_step turn_of landed turn_landed outcome_of answers first_place scan has_step next_job chosen_jobs
launched_round = record { low = refl; low_answers = refl; high = refl; high_answers = refl }

pub small_rounds : SmallRounds
unfolding on_some given on_cell start_act read_step turn_of landed turn_landed outcome_of answers first_place scan has_step next_job chosen_jobs
small_rounds = record { one = refl; one_answers = refl; two = refl; two_answers = refl }
