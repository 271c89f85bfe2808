-- What a call gives: a refusal by its number and place, or what was asked for.
--     Refusal             a refusal, or none
--     ground_number       the number of each ground: 01, "Refusals", 1 to 12; 02, 13 to 15
--     Given               what a call gives
--     outcome, given_or    the refusal that it gave; what else it gave
-- Assumes nothing.
use Rattle.std.specs.Prelude.{ℕ, Result, Ok, Err}
use Rattle.book.specs.declared.Ground.{Ground}
use Rattle.book.specs.declared.Ground.TheVariants.{LongBook, Cut, OutOfOrder, TooMany, OutOfRange, Dangling, CellRule, StepRule}
use Rattle.book.specs.declared.Ground.TheVariants.{BadList, WrongTables, FewAnswers, NoBlock, ShortBuffer, HighLaunch, ManyTurns}
use Rattle.book.specs.declared.Refused as D

-- "Refusals, each with a place"
pub data Refusal : Type 0 where
  Passed : Refusal
  Refused : ℕ → ℕ → Refusal

abbrev pub ground_number : Ground → ℕ
ground_number LongBook = 1
ground_number Cut = 2
ground_number OutOfOrder = 3
ground_number TooMany = 4
ground_number OutOfRange = 5
ground_number Dangling = 6
ground_number CellRule = 7
ground_number StepRule = 8
ground_number BadList = 9
ground_number WrongTables = 10
ground_number FewAnswers = 11
ground_number NoBlock = 12
ground_number ShortBuffer = 13
ground_number HighLaunch = 14
ground_number ManyTurns = 15

abbrev pub Given : Type 0 → Type 0
Given A = Result A D.Refused

abbrev pub outcome : {A : Type 0} → Given A → Refusal
outcome (Ok a) = Passed
outcome (Err e) = Refused (ground_number e.why) e.place

abbrev pub given_or : {A : Type 0} → A → Given A → A
given_or d (Ok a) = a
given_or d (Err e) = d
