-- `Actor::relabel` meets its contract. Assumes nothing.
use borrow.Author.Rules.{rules}
use Rattle.acts.proofs.Acting.{relabels}
use Rattle.acts.proofs.Actor.relabel.Goals as goal
use Rattle.acts.proofs.Actor.relabel.Goals.{else-is_open-via-then-is_open+else-reaches, else-is_open-via-else-is_open}

pub returns-then-reaches : goal.returns-then-reaches
returns-then-reaches c = search (relabels, rules)

pub returns : goal.returns
returns c =
    elim c.else-is_open.branch [
      | else-is_open-via-then-is_open+else-reaches w ↦ search (relabels, rules)
      | else-is_open-via-else-is_open w ↦ search (relabels, rules)
    ]
