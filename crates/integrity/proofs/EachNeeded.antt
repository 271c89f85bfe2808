-- Each place of the rules and of the machine is needed. C is 3. An outsider, at 3 where nothing else is said, or the book's own job breaks a
-- sentence: of a cell of trust 4, 9 or 12, or of a job.
--     each_needed
-- Assumes nothing.
use Prim.Native.Nat.{ℕ}
use Prim.Native.String.{String}
use mathlib.Core.Path.{◌≡◌, refl, ap}
use mathlib.Core.Bool.{Bool, true, false}
use mathlib.Core.List.{List, [], ◌∷◌}
use Rattle.labels.specs.Labels.{label, lower, normal, capped}
use Rattle.book.specs.Numbers.{plain_value, cell_value, code_value}
use Rattle.book.specs.Control.{both, either, those, while, sweep, on_some}
use Rattle.book.specs.Kinds.{span, limits, group}
use Rattle.book.specs.Spans.{cut_by, offsets_in, offsets_by}
use Rattle.book.specs.Records.{number_at}
use Rattle.book.specs.Book.{group_of, steps_from, shape_at, value_of, declared_at, step_at, block_at, parse}
use Rattle.book.specs.Refusals.{cut_fault, in_order, misplaced, order_fault, counted, too_many, beyond, count_fault, above, out_of_range, range_fault, value_named, cell_named}
use Rattle.book.specs.Refusals.{step_named, dangling, dangles, name_fault, or_refuse, unreadable}
use Rattle.book.specs.Outline.{step_count}
use Rattle.book.specs.Outcome.{Refusal, Passed}
use Rattle.typing.specs.Verdict.{Verdict}
use Rattle.typing.specs.Verdict.{Accepted, Refused}
use Rattle.typing.specs.Shapes.{view_of, alike_in, alike, known_of, fits, known_value, declared_ok}
use Rattle.typing.specs.Rules.{breaks_unless, stuck_unless, is_plainly, fresh, known, plain_or_low, holds, low_rule, high_rule, step_rule, fault}
use Rattle.typing.specs.Rules as R
use Rattle.typing.specs.Verdict.{cell_fault, or_then, block_fault, step_fault, or_refused, typed, verdict_of, verdict}
use Rattle.machine.specs.declared.Event.{Event}
use Rattle.machine.specs.declared.Event.TheVariants.{WriteBy, RelabelBy, NewBy, ExecBy, StartBy}
use Rattle.machine.specs.Control.{given, on_plain, on_cell, on_code}
use Rattle.machine.specs.Acts.{exec_label, write_act, relabel_act, new_act, start_act, exec_act}
use Rattle.machine.specs.Steps.{summable, chosen, add_step, read_step, lower_step, turn_of}
use Rattle.machine.specs.Histories.{lists}
use Rattle.machine.specs.Events.{table_size, first_bound, fresh_state, landed, turn_landed, outcome_of, state_after}
use Rattle.integrity.specs.Weakened.{alike_by, fits_by, declared_by, step_rule_by, walk_by, every, accepted_by, Needed}
use Rattle.integrity.specs.Loosened as L
use Rattle.integrity.specs.Loosened.{turn_by, outcome_by, state_by, NeededThere}
use Rattle.integrity.specs.EachNeeded.{EachNeeded, LaunchNeeded}
use Rattle.integrity.proofs.Books.{plain, code, cell, declare, block, put, name, code_of, add, new, read, write, relabel, lower_to, start, exec, choose}
use Rattle.integrity.proofs.Books.{book, spoil, steps, code_below, code_as_larger, named_as_trusted, read_low, relabelled, made, made_lowered, lowered_low, held}
use Rattle.integrity.proofs.Tested.{cell_holds, job_holds, sentences_hold, breaks}

-- what is computed of a book and events: readable, accepted where this place is weakened, accepted, the verdict, the sentences after the events
abbrev shown : String → List ℕ → List Event → Refusal × Bool × Bool × Verdict × Bool
shown place bytes events =
    let K = parse bytes in (
      unreadable bytes,
      accepted_by place K,
      accepted_by "" K,
      verdict bytes,
      sentences_hold K (state_after lists table_size K (fresh_state lists K (first_bound K)) events),
    )

-- a place of the typing rules: a book, events, and the number and offset of the book's refusal
needed : {place : String} (bytes : List ℕ) (events : List Event) (number offset : ℕ)
    → shown place bytes events ≡ (Passed, true, false, Refused number offset, false) → Needed place
needed bytes events number offset e =
    record {
      bytes = bytes;
      events = events;
      number = number;
      offset = offset;
      readable = ap (λ x. x.0) e;
      accepted = ap (λ x. x.1) e;
      strict = ap (λ x. x.2) e;
      refused = ap (λ x. x.3) e;
      broken = breaks _ _ (ap (λ x. x.4) e);
    }

-- a place of the machine: a book, events, and the book's counts
needed_there : {place : String} (bytes : List ℕ) (events : List Event) (shapes cells blocks steps : ℕ)
    → verdict bytes ≡ Accepted shapes cells blocks steps
    → sentences_hold (parse bytes) (state_by place (parse bytes) (fresh_state lists (parse bytes) (first_bound (parse bytes))) events) ≡ false
    → NeededThere place
needed_there bytes events shapes cells blocks steps accepted e =
    record {
      bytes = bytes;
      events = events;
      shapes = shapes;
      cells = cells;
      blocks = blocks;
      steps = steps;
      accepted = accepted;
      broken = breaks _ _ e;
    }

pub each_needed : EachNeeded
unfolding lower normal capped both either value_of value_named view_of on_some alike_in alike known_of fits known_value declared_ok breaks_unless stuck_unless R.on_known_cell R.on_known_code
    is_plainly fresh known R.lower_rule R.startable plain_or_low holds low_rule high_rule step_rule given on_plain on_cell on_code exec_label write_act relabel_act new_act start_act
    exec_act summable chosen add_step read_step lower_step turn_of landed turn_landed outcome_of state_after alike_by fits_by declared_by step_rule_by walk_by every accepted_by
    L.write_act_by L.relabel_act_by L.exec_act_by L.lower_step_by turn_by outcome_by state_by cell_holds job_holds sentences_hold those while sweep span limits group
    number_at cut_by offsets_in offsets_by group_of steps_from shape_at declared_at step_at block_at parse cut_fault in_order misplaced order_fault counted too_many
    beyond count_fault above out_of_range range_fault cell_named step_named dangling dangles name_fault or_refuse unreadable step_count fault cell_fault or_then
    block_fault step_fault or_refused typed verdict_of
each_needed =
    record {
      shapes =
          record {
            -- Cell 0 has trust 4 and label 0.
            declared_high = needed (book (plain ∷ cell 0 4 ∷ declare 1 0 plain_value 5 ∷ block 12 ∷ [])) [] 7 6 refl;
            -- Cell 0 has trust 9 and label 8 (A4).
            declared_label = needed (book (plain ∷ cell 0 9 ∷ declare 1 8 plain_value 5 ∷ block 12 ∷ [])) [] 7 6 refl;
            declared_fits = needed code_below (steps 2 0 (steps 2 1 [])) 7 19 refl;
            code_bound = needed code_below (steps 2 0 (steps 2 1 [])) 7 19 refl;
            -- An outsider writes 7 into cell 0.
            cell_alike = needed (named_as_trusted 9) (WriteBy (label 3) 0 0 7 ∷ steps 5 0 []) 7 28 refl;
            -- Cells 3 and 4 are of names of cells of numbers; they name cell 1, of code of bound 12, and cell 2, of code of bound 3. By these
            -- names job 0 copies block 1's code from cell 2 to cell 1, as if it were a number, and runs cell 1 at 12.
            alike_first_plain =
                needed (book (code 12 ∷ cell 0 12 ∷ code 3 ∷ cell 2 12 ∷ plain ∷ cell 4 12 ∷ cell 5 12 ∷ declare 5 12 plain_value 5
                ∷ declare 1 12 code_value 0 ∷ declare 3 12 code_value 1 ∷ declare 6 12 cell_value 1 ∷ declare 6 12 cell_value 2 ∷ block 12 ∷ name 0 4
                ∷ read 0 0 ∷ read 0 0 ∷ name 1 3 ∷ read 1 1 ∷ write 1 0 ∷ name 2 1 ∷ exec 2 ∷ spoil ∷ []))
                (steps 8 0 (steps 2 1 [])) 7 43 refl;
            -- Cell 0 is of numbers. Cells 1 and 2 name it as a cell of code, of bound 12 and of bound 3. Job 0 writes block 1's code by the
            -- second name, and runs it by the first.
            alike_second_plain =
                needed (book (code 12 ∷ cell 0 12 ∷ code 3 ∷ cell 2 12 ∷ plain ∷ cell 4 12 ∷ cell 1 12 ∷ cell 3 12 ∷ declare 5 12 plain_value 5
                ∷ declare 6 12 cell_value 0 ∷ declare 7 12 cell_value 0 ∷ block 12 ∷ name 0 2 ∷ read 0 0 ∷ code_of 1 1 ∷ write 0 1 ∷ name 2 1
                ∷ read 2 2 ∷ exec 2 ∷ spoil ∷ [])) (steps 7 0 (steps 2 1 [])) 7 30 refl;
            -- Cells 4 and 5 name cell 3, of names of cells of trust 9, and cell 2, of names of cells of low trust, as cells of code of bound 0.
            -- By these names job 0 copies the name of cell 0, of low trust, from cell 2 to cell 3. By cell 3 it reads, as of trust 9, what an
            -- outsider wrote, and writes it into cell 1.
            alike_first_code =
                needed (book (plain ∷ cell 0 0 ∷ cell 0 9 ∷ cell 1 9 ∷ cell 2 9 ∷ code 0 ∷ cell 5 9 ∷ cell 6 9 ∷ declare 1 0 plain_value 0
                ∷ declare 2 9 plain_value 5 ∷ declare 3 9 cell_value 0 ∷ declare 4 9 cell_value 1 ∷ declare 7 9 cell_value 3 ∷ declare 7 9 cell_value 2
                ∷ block 12 ∷ name 0 5 ∷ read 0 0 ∷ read 0 0 ∷ name 1 4 ∷ read 1 1 ∷ write 1 0 ∷ name 2 3 ∷ read 2 2 ∷ read 2 2 ∷ name 3 1
                ∷ write 3 2 ∷ [])) (WriteBy (label 3) 0 0 7 ∷ steps 11 0 []) 7 55 refl;
            -- Cell 2 is of code of bound 0. Cells 3 and 4 name it as a cell of names, of cells of low trust and of trust 9. Job 0 writes the name
            -- of cell 0 by the first, and reads it by the second.
            alike_second_code =
                needed (book (plain ∷ cell 0 0 ∷ cell 0 9 ∷ cell 1 9 ∷ cell 2 9 ∷ code 0 ∷ cell 5 9 ∷ cell 3 9 ∷ cell 4 9
                ∷ declare 1 0 plain_value 0 ∷ declare 2 9 plain_value 5 ∷ declare 6 9 code_value 0 ∷ declare 7 9 cell_value 2 ∷ declare 8 9 cell_value 2
                ∷ block 12 ∷ name 0 3 ∷ read 0 0 ∷ name 1 0 ∷ write 0 1 ∷ name 2 4 ∷ read 2 2 ∷ read 2 2 ∷ read 2 2 ∷ name 3 1 ∷ write 3 2
                ∷ [])) (WriteBy (label 3) 0 0 7 ∷ steps 10 0 []) 7 50 refl;
            -- Cell 1 is of code of bound 12; cell 2 names it as one of bound 3. Job 0 writes block 1's code by that name, and runs cell 1 at 12.
            alike_larger_bound =
                needed (book (code 12 ∷ cell 0 12 ∷ code 3 ∷ cell 2 12 ∷ cell 3 12 ∷ plain ∷ cell 5 12 ∷ declare 6 12 plain_value 5
                ∷ declare 1 12 code_value 0 ∷ declare 4 12 cell_value 1 ∷ block 12 ∷ name 0 2 ∷ read 0 0 ∷ code_of 1 1 ∷ write 0 1 ∷ name 2 1
                ∷ exec 2 ∷ spoil ∷ [])) (steps 6 0 (steps 2 1 [])) 7 35 refl;
            alike_smaller_bound = needed code_as_larger (steps 3 0 (steps 2 1 [])) 7 35 refl;
            -- As with the first plain, but the copied code counts as the name of a cell of low trust.
            alike_first_cell =
                needed (book (plain ∷ cell 0 0 ∷ code 12 ∷ cell 2 12 ∷ code 3 ∷ cell 4 12 ∷ cell 1 12 ∷ cell 6 12 ∷ cell 0 12
                ∷ declare 8 12 plain_value 5 ∷ declare 3 12 code_value 0 ∷ declare 5 12 code_value 1 ∷ declare 7 12 cell_value 1 ∷ declare 7 12 cell_value 2
                ∷ block 12 ∷ name 0 4 ∷ read 0 0 ∷ read 0 0 ∷ name 1 3 ∷ read 1 1 ∷ write 1 0 ∷ name 2 1 ∷ exec 2 ∷ spoil ∷ []))
                (steps 8 0 (steps 2 1 [])) 7 49 refl;
            -- As with the second plain, but cell 1 is of names of cells of low trust.
            alike_second_cell =
                needed (book (plain ∷ cell 0 0 ∷ cell 1 12 ∷ code 12 ∷ cell 3 12 ∷ cell 4 12 ∷ code 3 ∷ cell 6 12 ∷ cell 7 12 ∷ cell 0 12
                ∷ declare 9 12 plain_value 5 ∷ declare 2 12 cell_value 2 ∷ declare 1 0 plain_value 0 ∷ declare 8 12 cell_value 1 ∷ declare 5 12 cell_value 1
                ∷ block 12 ∷ name 0 3 ∷ read 0 0 ∷ code_of 1 1 ∷ write 0 1 ∷ name 2 4 ∷ read 2 2 ∷ exec 2 ∷ spoil ∷ []))
                (steps 7 0 (steps 2 1 [])) 7 52 refl;
            -- Cell 0 has trust 9; cell 2 names it as one of low trust. Job 0 reads what an outsider wrote into cell 1, and writes it by that
            -- name.
            alike_higher_trust =
                needed (book (plain ∷ cell 0 9 ∷ cell 0 0 ∷ cell 2 9 ∷ declare 1 9 plain_value 5 ∷ declare 2 0 plain_value 0 ∷ declare 3 9 cell_value 0
                ∷ block 12 ∷ name 0 1 ∷ read 0 0 ∷ name 1 2 ∷ read 1 1 ∷ write 1 0 ∷ []))
                (WriteBy (label 3) 1 0 7 ∷ steps 5 0 []) 7 28 refl;
            alike_lower_trust = needed (named_as_trusted 9) (WriteBy (label 3) 0 0 7 ∷ steps 5 0 []) 7 28 refl;
            alike_high = needed (named_as_trusted 4) (WriteBy (label 3) 0 0 7 ∷ steps 5 0 []) 7 28 refl;
            alike_contents = needed code_as_larger (steps 3 0 (steps 2 1 [])) 7 35 refl;
            -- As with the smaller bound, but by a name of a name: cell 3 names cell 2, which names cell 1.
            alike_depth =
                needed (book (code 12 ∷ cell 0 12 ∷ cell 1 12 ∷ cell 2 12 ∷ code 3 ∷ cell 4 12 ∷ cell 5 12 ∷ plain ∷ cell 7 12
                ∷ declare 8 12 plain_value 5 ∷ declare 5 12 code_value 1 ∷ declare 6 12 cell_value 1 ∷ declare 3 12 cell_value 2 ∷ block 12 ∷ name 0 3
                ∷ read 0 0 ∷ read 0 0 ∷ exec 0 ∷ spoil ∷ [])) (steps 4 0 (steps 2 1 [])) 7 49 refl;
          };
      steps =
          record {
            -- At 11 it would be stuck.
            p_bound = needed (relabelled 12 12 0) (steps 2 0 []) 8 19 refl;
            p_low = needed (relabelled 4 4 0) (steps 2 0 []) 8 19 refl;
            new_low = needed (made 9 3) (steps 1 0 []) 8 8 refl;
            new_low_high = needed (made 4 3) (steps 1 0 []) 8 8 refl;
            -- An outsider writes 7 into cell 1. Job 0 reads it, adds a number of its own, and writes the sum into cell 0, of trust 9.
            add_first =
                needed (book (plain ∷ cell 0 9 ∷ cell 0 0 ∷ declare 1 9 plain_value 5 ∷ declare 2 0 plain_value 0 ∷ block 12 ∷ name 0 1 ∷ read 0 0
                ∷ add 0 0 1 ∷ name 1 0 ∷ write 1 0 ∷ [])) (WriteBy (label 3) 1 0 7 ∷ steps 5 0 []) 8 40 refl;
            -- The same with the operands changed.
            add_second =
                needed (book (plain ∷ cell 0 9 ∷ cell 0 0 ∷ declare 1 9 plain_value 5 ∷ declare 2 0 plain_value 0 ∷ block 12 ∷ name 0 1 ∷ read 0 0
                ∷ add 0 1 0 ∷ name 1 0 ∷ write 1 0 ∷ [])) (WriteBy (label 3) 1 0 7 ∷ steps 5 0 []) 8 40 refl;
            -- Job 0, at 12, lowers to 12, and gives cell 0, of trust 9, the label 0.
            lower_p =
                needed (book (plain ∷ cell 0 9 ∷ declare 1 9 plain_value 5 ∷ block 12 ∷ lower_to 12 ∷ name 0 0 ∷ relabel 0 0 ∷ []))
                (steps 3 0 []) 8 21 refl;
            -- An outsider starts it at 3.
            lower_c = needed lowered_low (StartBy (label 3) 0 ∷ steps 2 1 []) 8 10 refl;
            lower_both = needed lowered_low (StartBy (label 3) 0 ∷ steps 2 1 []) 8 10 refl;
            -- A11.
            lower_q = needed made_lowered (steps 2 0 []) 8 10 refl;
            -- An outsider starts block 0 at 3.
            new_high = needed (made 4 12) (StartBy (label 3) 0 ∷ steps 1 1 []) 8 8 refl;
            -- A9; an outsider starts block 0 at 3.
            new_lowered = needed (made 9 12) (StartBy (label 3) 0 ∷ steps 1 1 []) 8 8 refl;
            -- Job 0 makes a cell of code of bound 12 that holds block 1, of bound 3, and runs it at 12.
            new_fits =
                needed (book (code 12 ∷ cell 0 12 ∷ plain ∷ cell 2 12 ∷ declare 3 12 plain_value 5 ∷ block 12 ∷ lower_to 12 ∷ code_of 0 1
                ∷ new 1 1 0 ∷ exec 1 ∷ spoil ∷ [])) (steps 4 0 (steps 2 1 [])) 8 26 refl;
            -- A11.
            new_p = needed made_lowered (steps 2 0 []) 8 10 refl;
            -- Job 1 lowers to 5 and writes cell 0, of trust 5. Job 0 reads it and makes a cell of trust 9 with it.
            new_effect =
                needed (book (plain ∷ cell 0 9 ∷ cell 0 5 ∷ declare 2 5 plain_value 0 ∷ block 12 ∷ start 1 ∷ name 0 0 ∷ read 0 0 ∷ lower_to 12
                ∷ new 1 1 0 ∷ block 12 ∷ lower_to 5 ∷ name 0 0 ∷ write 0 1 ∷ [])) (steps 1 0 (steps 3 1 (steps 4 0 []))) 8 29 refl;
            -- Cell 2, of low trust, is of names of cells of trust 9 and names cell 0, of low trust. Job 0 reads by that name what an outsider
            -- wrote into cell 0, and writes it into cell 1, of trust 9.
            read_effect =
                needed (book (plain ∷ cell 0 0 ∷ cell 0 9 ∷ cell 2 0 ∷ declare 1 0 plain_value 0 ∷ declare 2 9 plain_value 5 ∷ declare 3 0 cell_value 0
                ∷ block 12 ∷ name 0 2 ∷ read 0 0 ∷ read 0 0 ∷ name 1 1 ∷ write 1 0 ∷ []))
                (WriteBy (label 3) 0 0 7 ∷ steps 5 0 []) 8 50 refl;
            -- An outsider writes 7 into cell 1.
            read_trust = needed (read_low 9) (WriteBy (label 3) 1 0 7 ∷ steps 4 0 []) 8 36 refl;
            -- Cell 1, of low trust, is of names of cells of low trust; an outsider has it name cell 0, of trust 9. Job 0 reads the name, and
            -- writes it where it points.
            write_w =
                needed (book (plain ∷ cell 0 9 ∷ cell 0 0 ∷ cell 2 0 ∷ declare 1 9 plain_value 5 ∷ declare 3 0 cell_value 0 ∷ block 12 ∷ name 0 1
                ∷ read 0 0 ∷ write 0 0 ∷ [])) (WriteBy (label 3) 1 1 0 ∷ steps 3 0 []) 8 36 refl;
            -- Job 0, at 12, writes cell 0, of trust 12, and then gives it the label 0.
            write_p =
                needed (book (plain ∷ cell 0 12 ∷ declare 1 12 plain_value 5 ∷ block 12 ∷ name 0 0 ∷ write 0 1 ∷ relabel 0 0 ∷ []))
                (steps 3 0 []) 8 22 refl;
            write_high = needed (read_low 4) (WriteBy (label 3) 1 0 7 ∷ steps 4 0 []) 8 36 refl;
            -- Job 0 writes the code of block 1, of bound 3, into cell 1, of code of bound 12, and runs it at 12.
            write_fits =
                needed (book (code 12 ∷ cell 0 12 ∷ plain ∷ cell 2 12 ∷ declare 3 12 plain_value 5 ∷ declare 1 12 code_value 0 ∷ block 12
                ∷ code_of 0 1 ∷ name 1 1 ∷ write 1 0 ∷ exec 1 ∷ spoil ∷ [])) (steps 4 0 (steps 2 1 [])) 8 35 refl;
            -- Job 1 lowers to 5 and writes cell 1, of trust 5. Job 0 reads it, and writes it into cell 0, of trust 9.
            write_effect =
                needed (book (plain ∷ cell 0 9 ∷ cell 0 5 ∷ declare 1 9 plain_value 5 ∷ declare 2 5 plain_value 0 ∷ block 12 ∷ start 1 ∷ name 0 1
                ∷ read 0 0 ∷ name 1 0 ∷ write 1 0 ∷ block 12 ∷ lower_to 5 ∷ name 0 1 ∷ write 0 1 ∷ []))
                (steps 1 0 (steps 3 1 (steps 4 0 []))) 8 38 refl;
            -- Cell 1, of low trust, is of names of cells of low trust and names cell 0, of trust 9. Job 0 reads the name, and gives what it names
            -- the label 0.
            relabel_w =
                needed (book (plain ∷ cell 0 9 ∷ cell 0 0 ∷ cell 2 0 ∷ declare 1 9 plain_value 5 ∷ declare 3 0 cell_value 0 ∷ block 12 ∷ name 0 1
                ∷ read 0 0 ∷ relabel 0 0 ∷ [])) (steps 3 0 []) 8 36 refl;
            relabel_s = needed (relabelled 12 12 0) (steps 2 0 []) 8 19 refl;
            -- Job 0, at 12, gives cell 0, of trust 9, the label 12 and then 0.
            relabel_o =
                needed (book (plain ∷ cell 0 9 ∷ declare 1 9 plain_value 5 ∷ block 12 ∷ name 0 0 ∷ relabel 0 12 ∷ relabel 0 0 ∷ []))
                (steps 3 0 []) 8 22 refl;
            -- A6.
            relabel_label = needed (relabelled 9 12 8) (steps 2 0 []) 8 19 refl;
            relabel_high = needed (relabelled 4 12 0) (steps 2 0 []) 8 19 refl;
            -- Cell 2, of low trust, is of names of cells of trust 12 and names cell 1, of low trust, which holds block 1, of bound 3. Job 0 reads
            -- the name and runs it, at 12.
            exec_w =
                needed (book (code 12 ∷ cell 0 12 ∷ cell 0 0 ∷ cell 1 0 ∷ plain ∷ cell 4 12 ∷ declare 5 12 plain_value 5
                ∷ declare 2 12 code_value 1 ∷ declare 3 0 cell_value 1 ∷ block 12 ∷ name 0 2 ∷ read 0 0 ∷ exec 0 ∷ spoil ∷ []))
                (steps 3 0 (steps 2 1 [])) 8 49 refl;
            -- Cell 1 is of code of bound 3. Job 0 runs it at 12.
            exec_bound =
                needed (book (code 3 ∷ cell 0 12 ∷ plain ∷ cell 2 12 ∷ declare 3 12 plain_value 5 ∷ declare 1 12 code_value 1 ∷ block 12 ∷ name 0 1
                ∷ exec 0 ∷ spoil ∷ [])) (steps 2 0 (steps 2 1 [])) 8 32 refl;
            -- An outsider writes block 1's code into cell 0. Job 0, at 12, copies it into cell 1, of low trust and label 12, and runs that: a job
            -- at 12 whose history has 3.
            exec_trust =
                needed (book (code 12 ∷ cell 0 0 ∷ declare 1 0 code_value 1 ∷ declare 1 12 code_value 1 ∷ block 12 ∷ name 0 0 ∷ name 1 1
                ∷ read 2 0 ∷ write 1 2 ∷ exec 1 ∷ block 12 ∷ [])) (WriteBy (label 3) 0 2 1 ∷ steps 5 0 []) 8 37 refl;
            -- Job 0, at 12, starts block 1, of bound 3.
            start_bound =
                needed (book (plain ∷ cell 0 12 ∷ declare 1 12 plain_value 5 ∷ block 12 ∷ start 1 ∷ spoil ∷ []))
                (steps 1 0 (steps 2 1 [])) 8 16 refl;
            -- Job 0, at 12, chooses block 1, of bound 3, by a number that is not 0.
            choose_first =
                needed (book (plain ∷ cell 0 12 ∷ declare 1 12 plain_value 5 ∷ block 12 ∷ put 0 7 ∷ choose 0 1 0 ∷ spoil ∷ []))
                (steps 2 0 (steps 2 1 [])) 8 22 refl;
            -- The same by 0.
            choose_second =
                needed (book (plain ∷ cell 0 12 ∷ declare 1 12 plain_value 5 ∷ block 12 ∷ choose 0 0 1 ∷ spoil ∷ []))
                (steps 1 0 (steps 2 1 [])) 8 16 refl;
          };
      machine =
          record {
            -- An outsider at 4 writes block 1's code into cell 1, of code of bound 4. Job 0 runs it at 4: block 1, of bound 3, gives cell 0, of
            -- trust 4, the label 0.
            write_q =
                needed_there (book (code 4 ∷ cell 0 4 ∷ plain ∷ cell 2 4 ∷ declare 3 4 plain_value 5 ∷ declare 1 4 code_value 0 ∷ block 4
                ∷ name 0 1 ∷ exec 0 ∷ spoil ∷ [])) (WriteBy (label 4) 1 2 1 ∷ steps 2 0 (steps 2 1 [])) 4 2 2 4 refl refl;
            -- An outsider at 4 gives cell 0 the label 0.
            relabel_q = needed_there (held 4) (RelabelBy (label 4) 0 (label 0) ∷ []) 2 1 1 0 refl refl;
            -- An outsider at 3 makes a cell of trust 4.
            new_trust = needed_there (book (plain ∷ cell 0 4 ∷ block 12 ∷ [])) (NewBy (label 3) 1 0 7 ∷ []) 2 0 1 0 refl refl;
            -- An outsider at 4 runs cell 1, of low trust and label 4: block 0, of bound 3, gives cell 0, of trust 4, the label 0.
            exec_q =
                needed_there (book (code 3 ∷ cell 0 0 ∷ plain ∷ cell 2 4 ∷ declare 3 4 plain_value 5 ∷ declare 1 4 code_value 0 ∷ spoil ∷ []))
                (ExecBy (label 4) 1 ∷ steps 2 1 []) 4 2 1 2 refl refl;
            -- An outsider at 4 starts block 0, of bound 3: it gives cell 0, of trust 4, the label 0.
            start_q = needed_there (relabelled 4 3 0) (StartBy (label 4) 0 ∷ steps 2 1 []) 2 1 1 2 refl refl;
            -- An outsider at 3 writes 7 into cell 0.
            write_label = needed_there (held 9) (WriteBy (label 3) 0 0 7 ∷ []) 2 1 1 0 refl refl;
            -- An outsider at 3 gives cell 0 the label 0.
            relabel_old = needed_there (held 9) (RelabelBy (label 3) 0 (label 0) ∷ []) 2 1 1 0 refl refl;
            -- Job 0, at 12, gives cell 1 the label 15, where the rules hold it stuck, and then cell 0, of trust 9, the label 0.
            relabel_new =
                needed_there (book (plain ∷ cell 0 9 ∷ declare 1 9 plain_value 5 ∷ declare 1 9 plain_value 5 ∷ block 12 ∷ name 0 1 ∷ relabel 0 15
                ∷ name 0 0 ∷ relabel 0 0 ∷ [])) (steps 4 0 []) 2 2 1 4 refl refl;
            -- Job 0 makes a cell of trust 9.
            new_label = needed_there (book (plain ∷ cell 0 9 ∷ block 12 ∷ lower_to 12 ∷ new 0 1 0 ∷ [])) (steps 2 0 []) 2 0 1 2 refl refl;
            -- Job 0, at 12, lowers to 5.
            lower_to = needed_there (book (block 12 ∷ lower_to 5 ∷ [])) (steps 1 0 []) 0 0 1 1 refl refl;
            -- An outsider at 3 starts block 0: a job at 15 whose history has 3.
            start_label = needed_there (book (block 12 ∷ [])) (StartBy (label 3) 0 ∷ []) 0 0 1 0 refl refl;
            -- An outsider starts block 0 at 3, and its lower takes the job to 12.
            lower_label = needed_there (book (block 12 ∷ lower_to 12 ∷ [])) (StartBy (label 3) 0 ∷ steps 1 1 []) 0 0 1 1 refl refl;
            -- An outsider at 3 runs cell 0, of label 12: a job at 12 whose history has 3.
            exec_lower =
                needed_there (book (code 12 ∷ cell 0 0 ∷ declare 1 12 code_value 0 ∷ block 12 ∷ []))
                (ExecBy (label 3) 0 ∷ []) 2 1 1 0 refl refl;
            -- Job 0, at 12, starts a job at 15 whose history has 12.
            choose_label = needed_there (book (block 12 ∷ choose 0 0 0 ∷ [])) (steps 1 0 []) 0 0 1 1 refl refl;
            -- An outsider writes 7 into cell 0. Job 0, at 12, reads it and chooses by it: a job at 12 whose history has 3.
            choose_history =
                needed_there (book (plain ∷ cell 0 0 ∷ declare 1 0 plain_value 0 ∷ block 12 ∷ name 0 0 ∷ read 0 0 ∷ choose 0 1 1 ∷ block 12 ∷ []))
                (WriteBy (label 3) 0 0 7 ∷ steps 3 0 []) 2 1 2 3 refl refl;
          };
    }

-- C is 3, and block 0 has the bound 3, at which every step but new passes: it gives cell 0, of trust 4 and label 4, the label 0. A job at 3 is blocked
-- there, and one at 4 is not.
pub launch_needed : LaunchNeeded
unfolding lower normal capped both either value_of value_named view_of on_some alike_in alike known_of fits known_value declared_ok breaks_unless stuck_unless R.on_known_cell R.on_known_code
    is_plainly fresh known R.lower_rule R.startable plain_or_low holds low_rule high_rule step_rule given on_plain on_cell on_code exec_label write_act relabel_act new_act start_act
    exec_act summable chosen add_step read_step lower_step turn_of landed turn_landed outcome_of state_after alike_by fits_by declared_by step_rule_by walk_by every accepted_by
    L.write_act_by L.relabel_act_by L.exec_act_by L.lower_step_by turn_by outcome_by state_by cell_holds job_holds sentences_hold those while sweep span limits group
    number_at cut_by offsets_in offsets_by group_of steps_from shape_at declared_at step_at block_at parse cut_fault in_order misplaced order_fault counted too_many
    beyond count_fault above out_of_range range_fault cell_named step_named dangling dangles name_fault or_refuse unreadable step_count fault cell_fault or_then
    block_fault step_fault or_refused typed verdict_of
launch_needed =
    record {
      bytes = book (plain ∷ cell 0 4 ∷ declare 1 4 plain_value 5 ∷ block 3 ∷ name 0 0 ∷ relabel 0 0 ∷ []);
      events = steps 2 0 [];
      shapes = 2;
      cells = 1;
      blocks = 1;
      steps = 2;
      accepted = refl;
      broken = breaks _ _ refl;
    }
