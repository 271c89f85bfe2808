-- `add` meets its contract. Assumes nothing.
use mathlib.Core.Logic.{inl, inr}
use borrow.Author.Rules.{rules}
use Rattle.turns.proofs.Taking.{adds}
use Rattle.turns.proofs.add.Goals as goal

pub returns-then-u-ne-PLAIN : goal.returns-then-u-ne-PLAIN
returns-then-u-ne-PLAIN c = elim c.then-u-ne-PLAIN.either [ inl a ↦ search (adds, rules) | inr b ↦ search (adds, rules) ]

pub returns-in-Some : goal.returns-in-Some
returns-in-Some c = search (adds, c.in-Some.ensures, rules)

pub returns-in-None : goal.returns-in-None
returns-in-None c = search (adds, c.in-None.ensures, rules)
