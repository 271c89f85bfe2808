-- `refusal_of` meets its contract. Assumes nothing.
use Rattle.writing.proofs.Judged.{unsound_whole, unsound_vetted, unsound_counts, unsound_strange, unsound_judged}
use Rattle.writing.proofs.Wholes.{counted_rows}
use Rattle.writing.proofs.refusal_of.Goals as goal

-- sound at first sight
pub returns-then-are_sound : goal.returns-then-are_sound
returns-then-are_sound c = search unsound_vetted

-- counts
pub returns-then-not-agree : goal.returns-then-not-agree
returns-then-not-agree c = search (unsound_counts, counted_rows)

pub judge-requires : goal.judge-requires
judge-requires c = unsound_whole _ _ _ c.requires c.in-None.is

-- a row of no kind
pub returns-in-Some : goal.returns-in-Some
returns-in-Some c = search (unsound_strange, counted_rows)

-- by the reader
pub returns-in-None : goal.returns-in-None
returns-in-None c = search (unsound_judged, counted_rows)
