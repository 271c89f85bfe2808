-- The tables of a round that is not refused say of an accepted book what those of a run do, since it is one.
--     round_tables
-- Assumes nothing.
use mathlib.Core.Path.{sym, ap, ◌∙◌}
use Rattle.interpreter.specs.Run.{Run}
use Rattle.rounds.specs.RoundIsRun.{list_chosen}
use Rattle.rounds.proofs.RoundIsRun.{round_is_run}
use Rattle.integrity.specs.Rounds.{RoundTables}
use Rattle.integrity.proofs.Tables.{tables}

pub round_tables : RoundTables
round_tables book shapes cells blocks steps e launch cs js room turns p =
    let same = (round_is_run book launch cs js room turns p).same in
    rw same (tables book shapes cells blocks steps e launch (list_chosen book launch turns) cs js room (sym (ap (λ (r : Run). r.refusal) same) ∙ p))
