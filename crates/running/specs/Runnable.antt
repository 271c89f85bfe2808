-- What a run that is not refused by 1 to 6 and 9 to 11 has.
--     Runnable      a readable book and its outline, and what is lent
-- Assumes nothing.
use Rattle.std.specs.Prelude.{ℕ, ◌≡◌, List}
use Rattle.book.specs.declared.Outline.{Outline}
use Rattle.book.specs.Outcome.{Passed}
use Rattle.book.specs.Refusals.{unreadable}
use Rattle.book.specs.Outline.{outline_of}
use Rattle.interpreter.specs.Loop.{Lent}

-- a readable book and its outline, and what is lent: what refusals 1 to 6 and 9 to 11 do not hold of
pub record Runnable (b : List ℕ) (t : Outline) (list cells jobs answers : List ℕ) : Type 0 where
  pub readable : unreadable b ≡ Passed
  pub outlined : t ≡ outline_of b
  pub lent : Lent list cells jobs answers
