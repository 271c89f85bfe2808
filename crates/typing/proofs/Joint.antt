-- The verdicts on the sample books, by computing them.
--     samples     "A1 to A15 are settled together from the typing rules as a joint lemma"
--     choices     books that choose
-- Assumes nothing.
use mathlib.Core.Path.{refl}
use Rattle.labels.specs.Labels.{lower, normal, capped}
use Rattle.book.specs.Control.{both, either, those, while, sweep, on_some}
use Rattle.book.specs.Kinds.{span, limits, group}
use Rattle.book.specs.Spans.{cut_by, offsets_in, offsets_by}
use Rattle.book.specs.Records.{number_at}
use Rattle.book.specs.Book.{group_of, steps_from, shape_at, value_of, declared_at, step_at, block_at, parse}
use Rattle.book.specs.Refusals.{cut_fault, in_order, misplaced, order_fault, counted, too_many, beyond, count_fault, above, out_of_range, range_fault, value_named, cell_named}
use Rattle.book.specs.Refusals.{step_named, dangling, dangles, name_fault, or_refuse, unreadable}
use Rattle.book.specs.Outline.{step_count}
use Rattle.typing.specs.Shapes.{view_of, alike_in, alike, known_of, fits, known_value, declared_ok}
use Rattle.typing.specs.Rules.{breaks_unless, stuck_unless, on_known_cell, on_known_code, is_plainly, fresh, known, lower_rule, startable, plain_or_low, holds, low_rule, high_rule, step_rule, fault}
use Rattle.typing.specs.Verdict.{cell_fault, or_then, block_fault, step_fault, or_refused, typed, verdict_of}
use Rattle.typing.specs.Samples.{Samples, Choices}

pub samples : Samples
unfolding lower normal capped both either those while sweep span limits group number_at cut_by offsets_in offsets_by group_of steps_from shape_at value_of declared_at step_at
    block_at parse cut_fault in_order misplaced order_fault counted too_many beyond count_fault above out_of_range range_fault value_named cell_named step_named dangling dangles
    name_fault or_refuse unreadable step_count view_of on_some alike_in alike known_of fits known_value declared_ok breaks_unless stuck_unless on_known_cell on_known_code is_plainly
    fresh known lower_rule startable plain_or_low holds low_rule high_rule step_rule fault cell_fault or_then block_fault step_fault or_refused typed verdict_of
samples =
    record {
      a1 = refl;
      a2 = refl;
      a3 = refl;
      a4 = refl;
      a5 = refl;
      a6 = refl;
      a7 = refl;
      a8 = refl;
      a9 = refl;
      a10 = refl;
      a11 = refl;
      a12 = refl;
      a13 = refl;
      a14 = refl;
      a15 = refl;
    }

pub choices : Choices
unfolding lower normal capped both either those while sweep span limits group number_at cut_by offsets_in offsets_by group_of steps_from shape_at value_of declared_at step_at
    block_at parse cut_fault in_order misplaced order_fault counted too_many beyond count_fault above out_of_range range_fault value_named cell_named step_named dangling dangles
    name_fault or_refuse unreadable step_count view_of on_some alike_in alike known_of fits known_value declared_ok breaks_unless stuck_unless on_known_cell on_known_code is_plainly
    fresh known lower_rule startable plain_or_low holds low_rule high_rule step_rule fault cell_fault or_then block_fault step_fault or_refused typed verdict_of
choices =
    record {
      bounds_at_p = refl;
      bounds_above_p = refl;
      first_bound_below = refl;
      second_bound_below = refl;
      plain_register = refl;
      cell_register = refl;
      high_code = refl;
      low_code = refl;
      low_p = refl;
      before_write = refl;
      before_new = refl;
      before_relabel = refl;
      after_stuck = refl;
      register_7 = refl;
      register_8 = refl;
      no_first = refl;
      no_second = refl;
      far_first = refl;
      far_second = refl;
      cut = refl;
      next_kind = refl;
    }
