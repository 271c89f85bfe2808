-- `Actor::exec` meets its contract. Assumes nothing.
use mathlib.Core.Logic.{inl, inr}
use borrow.Author.Rules.{rules}
use Rattle.acts.proofs.Acting.{execs}
use Rattle.acts.proofs.Actor.exec.Goals as goal

pub returns-then-near-k : goal.returns-then-near-k
returns-then-near-k c =
    elim c.then-near-k.either [ inl a ↦ search (execs, rules) | inr (inl b) ↦ search (execs, rules) | inr (inr b) ↦ search (execs, rules) ]

pub returns : goal.returns
returns c = search (execs, rules)
