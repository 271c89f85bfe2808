-- `refuse_turns` meets its contract. Assumes nothing.
use Rattle.rounds.proofs.Refusing.{turns_over, turns_few}
use Rattle.rounds.proofs.refuse_turns.Goals as goal

pub returns-then-turns-gt-MOST_TURNS : goal.returns-then-turns-gt-MOST_TURNS
returns-then-turns-gt-MOST_TURNS c = turns_over _ c.if-turns-gt-MOST_TURNS.true _ c.at.ensures

pub returns : goal.returns
returns c = turns_few _ c.if-turns-gt-MOST_TURNS.false
