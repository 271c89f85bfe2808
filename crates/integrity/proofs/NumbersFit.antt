-- In every run of a readable book, of bytes, every number in the tables fits its four bytes.
--     numbers_fit
-- Assumes nothing.
use mathlib.Core.List.{List}
use Prim.Native.Nat.{ℕ, ◌+◌, ◌<◌}
use native.Mathlib.Omega.{arith}
use lib.Dec.{eqb}
use borrow.Author.Tests.{ltb-true}
use Rattle.book.specs.declared.Step.{Step}
use Rattle.book.specs.Records.{byte_at, number_at}
use Rattle.book.specs.Book.{Book, declared_at, step_at, steps_from, block_at, cells_of, blocks_of, parse}
use Rattle.book.proofs.Tests.{if_both}
use Rattle.book.proofs.Digits.{number_small}
use Rattle.book.proofs.Every.{All, all_in, map_from, all_said}
use Rattle.book.proofs.Parsed.{SoundBook, sound}
use Rattle.machine.specs.Histories.{lists, History}
use Rattle.machine.specs.States.{Traced}
use Rattle.machine.specs.Steps.{summable}
use Rattle.machine.specs.Events.{table_size}
use Rattle.machine.specs.Records.{number_of, value_record, cell_record, job_record, ValueRecord}
use Rattle.book.proofs.Decoded.{number_is}
use Rattle.machine.proofs.Named.{step_number, Numbers, BookHas, EventHas, TracedNamed, CellNamed, JobNamed, number_named, state_after_has}
use Rattle.events.specs.Bytes.{event_at, events_from, events_in, offsets_from}
use Rattle.interpreter.specs.Run.{final_state}
use Rattle.integrity.specs.Integrity.{◌is_in◌}
use Rattle.integrity.specs.Tables.{Bytes, NumbersFit}

abbrev Fits : ℕ → Type 0
Fits n = n < 4294967296

abbrev StepFits : Step → Type 0
StepFits p = Fits (step_number p)

module _ (s : List ℕ) (b : Bytes s) where
  byte_fits : (o : ℕ) → Fits (byte_at s o)
  byte_fits o = omega (arith, b o)

  number_fits : (o : ℕ) → Fits (number_at s o)
  number_fits = number_small s b

  declared_fits : (o : ℕ) → Fits (number_of (declared_at s o).value)
  unfolding declared_at
  declared_fits o = rw (number_is (byte_at s (o + 3)) (number_at s (o + 4))) (number_fits (o + 4))

  -- the same of each kind of step: put has a number, name a byte
  step_fits : (o : ℕ) → StepFits (step_at s o)
  unfolding step_at
  step_fits o =
      let k = byte_at s o in
      let z : Fits 0 = omega arith in
      if_both StepFits (eqb k 64) (number_fits (o + 2))
      (if_both StepFits (eqb k 65) (byte_fits (o + 2))
      (if_both StepFits (eqb k 66) z
      (if_both StepFits (eqb k 67) z
      (if_both StepFits (eqb k 68) z
      (if_both StepFits (eqb k 69) z
      (if_both StepFits (eqb k 70) z
      (if_both StepFits (eqb k 71) z
      (if_both StepFits (eqb k 72) z
      (if_both StepFits (eqb k 73) z
      (if_both StepFits (eqb k 74) z z))))))))))

  event_fits : (o : ℕ) → EventHas Fits (event_at s o)
  unfolding event_at
  event_fits o =
      let k = byte_at s o in
      let z : Fits 0 = omega arith in
      if_both (EventHas Fits) (eqb k 80) z
      (if_both (EventHas Fits) (eqb k 81) (number_fits (o + 4))
      (if_both (EventHas Fits) (eqb k 82) z
      (if_both (EventHas Fits) (eqb k 83) (number_fits (o + 4))
      (if_both (EventHas Fits) (eqb k 84) z z))))

  book_fits : BookHas Fits (parse s)
  unfolding parse block_at
  book_fits =
      record {
        cells = all_said (λ d. Fits (number_of d.value)) (declared_at s) declared_fits (cells_of s);
        blocks = all_said (λ k. All StepFits k.steps) (block_at s) (λ o. all_said StepFits (step_at s) step_fits (steps_from s (o + 2))) (blocks_of s);
      }

  events_fit : All (EventHas Fits) (events_in s)
  unfolding events_from
  events_fit = all_said (EventHas Fits) (event_at s) event_fits (offsets_from s 0)

-- those that the machine makes
made : Numbers Fits table_size
unfolding summable
made = record { none = omega arith; sums = λ x y t. ltb-true _ _ t; cells = λ k h. omega (arith, h) }

value_fits : (K : Book) → SoundBook K → (v : Traced History) → TracedNamed Fits K v → Fits (number_of v.value)
value_fits K ok v n = number_named (λ b h. omega (arith, h, ok.few)) n.value

pub numbers_fit : NumbersFit
numbers_fit book b e l list bytes =
    let K = parse book in
    let ok = sound book e in
    let s = state_after_has Fits lists K table_size made ok (book_fits book b) l (events_in list) (events_fit list bytes) in
    record {
      cells = map_from (cell_record K) (λ r. Fits r.value.number) (final_state book l list).cells
          (λ c m. value_fits K ok c.content (all_in (CellNamed Fits K) (final_state book l list).cells c s.cells m).content);
      registers = map_from job_record (λ r. (v : ValueRecord) → v is_in r.registers → Fits v.number) (final_state book l list).jobs
          (λ j m. map_from value_record (λ v. Fits v.number) j.registers
          (λ v i. value_fits K ok v (all_in (TracedNamed Fits K) j.registers v (all_in (JobNamed Fits K) (final_state book l list).jobs j s.jobs m).registers i)));
    }
