-- What the tables of a round say, demand 3: of every accepted book, every launch label, every number of turns and whatever the lent memory held. 02, Six.
--     RoundTables
-- proofs/Rounds.antt proves it. All names here are of specs/, of this crate or of those below it. Assumes nothing.
use Rattle.std.specs.Prelude.{◌≡◌, List, ℕ}
use Rattle.book.specs.Outcome.{Passed}
use Rattle.book.specs.Book.{parse}
use Rattle.typing.specs.Verdict.{Accepted}
use Rattle.typing.specs.Verdict.{verdict}
use Rattle.machine.specs.Launch.{Launch}
use Rattle.scheduler.specs.Rounds.{rounded}
use Rattle.integrity.specs.Tables.{TablesKept}

-- 01: "For a run that isn't refused, the tables say the same." 02, Six: "The round equals the run on the list of steps that it chose."
abbrev pub RoundTables : Type 0
RoundTables = (book : List ℕ) (shapes cells blocks steps : ℕ) → verdict book ≡ Accepted shapes cells blocks steps
    → (launch : Launch) (cells_before jobs_before room : List ℕ) (turns : ℕ) → (rounded book launch cells_before jobs_before room turns).run.refusal ≡ Passed
    → TablesKept (parse book).c.0 (rounded book launch cells_before jobs_before room turns).run
