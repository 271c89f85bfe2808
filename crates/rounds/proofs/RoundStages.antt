-- Which rounds are refused, and sample rounds of book A by computing them.
--     round_stages, round_calls
-- Assumes nothing.
use mathlib.Core.Path.{◌≡◌, refl}
use mathlib.Core.List.{List}
use Prim.Native.Nat.{ℕ, ◌<◌, ◌≤◌}
use mathlib.Core.Bool.{Bool, true, false}
use lib.Dec.{eqb}
use lib.ListN.{length}
use borrow.Author.Tests.{eq-eqb, ne_eqb, lt-ltb, le-ltb}
use Rattle.labels.specs.Labels.{lower}
use Rattle.book.specs.Outcome.{Refusal, Passed, Refused}
use Rattle.book.specs.Control.{both, either, those, while, sweep, on_some}
use Rattle.book.specs.Kinds.{span, limits, group}
use Rattle.book.specs.Spans.{cut_by, offsets_in, offsets_by}
use Rattle.book.specs.Records.{number_at}
use Rattle.book.specs.Book.{group_of, steps_from, shape_at, value_of, declared_at, step_at, block_at, parse}
use Rattle.book.specs.Refusals.{cut_fault, in_order, misplaced, order_fault, counted, too_many, beyond, count_fault, above, out_of_range, range_fault, value_named}
use Rattle.book.specs.Refusals.{cell_named, step_named, dangling, dangles, name_fault, or_refuse, unreadable}
use Rattle.machine.specs.Launch.{Launch}
use Rattle.machine.specs.Control.{given, on_plain, on_cell}
use Rattle.machine.specs.Acts.{write_act, start_act}
use Rattle.machine.specs.Steps.{turn_of}
use Rattle.machine.specs.Events.{first_bound, launched_at, landed, turn_landed, outcome_of, state_after, answers}
use Rattle.tables.specs.Bytes.{cell_table, job_table}
use Rattle.interpreter.specs.Run.{or_next, untabled, unanswered, unlaunched, refusal_by, played}
use Rattle.rotation.specs.Round.{first_place, scan, has_step, next_job, chosen_jobs}
use Rattle.scheduler.specs.Rounds.{overlong, round_refusal, unroundable, rounded_of}
use Rattle.rounds.specs.RoundStages.{Tabled, RoundStages, RoundCalls}

module _ (book : List ℕ) (launch : Launch) (cells jobs room : List ℕ) (turns : ℕ) where
  abbrev refusal : Refusal
  refusal = unroundable book launch (length cells) (length jobs) (length room) turns

  by_book : (n o : ℕ) → unreadable book ≡ Refused n o → refusal ≡ Refused n o
  unfolding round_refusal refusal_by or_next
  by_book n o e = simp e

  by_cells : unreadable book ≡ Passed → (length cells ≡ 576 → ⊥) → refusal ≡ Refused 10 0
  unfolding round_refusal refusal_by or_next untabled both
  by_cells e n = simp (e, ne_eqb _ _ n)

  by_jobs : unreadable book ≡ Passed → (length jobs ≡ 3328 → ⊥) → refusal ≡ Refused 10 0
  unfolding round_refusal refusal_by or_next untabled both
  by_jobs e n = go (eqb (length cells) 576) refl
    where
      go : (t : Bool) → eqb (length cells) 576 ≡ t → refusal ≡ Refused 10 0
      go true q = simp (e, q, ne_eqb _ _ n)
      go false q = simp (e, q)

  module _ (w : Tabled book cells jobs) where
    by_room : length room < turns → refusal ≡ Refused 11 0
    unfolding round_refusal refusal_by or_next untabled both unanswered
    by_room h = simp (w.readable, eq-eqb _ _ w.cells_sized, eq-eqb _ _ w.jobs_sized, lt-ltb _ _ h)

    module _ (h : turns ≤ length room) where
      by_launch : (n o : ℕ) → unlaunched (first_bound (parse book)) launch ≡ Refused n o → refusal ≡ Refused n o
      unfolding round_refusal refusal_by or_next untabled both unanswered
      by_launch n o e = simp (w.readable, eq-eqb _ _ w.cells_sized, eq-eqb _ _ w.jobs_sized, le-ltb _ _ h, e)

      module _ (e : unlaunched (first_bound (parse book)) launch ≡ Passed) where
        by_turns : 4096 < turns → refusal ≡ Refused 15 0
        unfolding round_refusal refusal_by or_next untabled both unanswered overlong
        by_turns l = simp (w.readable, eq-eqb _ _ w.cells_sized, eq-eqb _ _ w.jobs_sized, le-ltb _ _ h, e, lt-ltb _ _ l)

        by_none : turns ≤ 4096 → refusal ≡ Passed
        unfolding round_refusal refusal_by or_next untabled both unanswered overlong
        by_none l = simp (w.readable, eq-eqb _ _ w.cells_sized, eq-eqb _ _ w.jobs_sized, le-ltb _ _ h, e, le-ltb _ _ l)

pub round_stages : RoundStages
unfolding rounded_of
round_stages =
    record {
      book = λ book launch cells jobs room turns n o e. simp (by_book book launch cells jobs room turns n o e);
      cells = λ book launch cells jobs room turns e n. simp (by_cells book launch cells jobs room turns e n);
      jobs = λ book launch cells jobs room turns e n. simp (by_jobs book launch cells jobs room turns e n);
      room = λ book launch cells jobs room turns w h. simp (by_room book launch cells jobs room turns w h);
      launch = λ book launch cells jobs room turns n o w h e. simp (by_launch book launch cells jobs room turns w h n o e);
      turns = λ book launch cells jobs room turns w h e l. simp (by_turns book launch cells jobs room turns w h e l);
      passes = λ book launch cells jobs room turns w h e l. simp (by_none book launch cells jobs room turns w h e l);
    }

pub round_calls : RoundCalls
unfolding lower both either those while sweep span limits group number_at cut_by offsets_in offsets_by group_of steps_from shape_at value_of declared_at step_at block_at parse cut_fault
    in_order misplaced order_fault counted too_many beyond count_fault above out_of_range range_fault value_named cell_named step_named dangling dangles name_fault or_refuse unreadable
    on_some given on_plain on_cell write_act start_act turn_of launched_at landed turn_landed outcome_of state_after answers cell_table job_table or_next untabled unanswered unlaunched refusal_by
    played first_place scan has_step next_job chosen_jobs overlong round_refusal rounded_of
round_calls =
    record {
      bound_turns = refl;
      bound_cells = refl;
      bound_jobs = refl;
      bound_answers = refl;
      bound_cell = refl;
      bound_job = refl;
      low_turns = refl;
      low_answers = refl;
      low_cell = refl;
      low_job = refl;
      starting_cells = refl;
      starting_jobs = refl;
      starting_turns = refl;
      starting_answers = refl;
      no_turn = refl;
      short_room = refl;
      high_launch = refl;
    }
