-- `Outline::empty` meets its contract. Assumes nothing.
use borrow.Author.Rules.{rules}
use Rattle.book.specs.Outline.{no_outline}
use Rattle.book.proofs.Outline.empty.Tie as tie
use Rattle.book.proofs.Outline.empty.Statement.{statement}

returns : tie.Need-returns
unfolding no_outline
returns c = search rules

pub empty_spec : {M : Type 1} → statement M
empty_spec = tie.close
    (tie.spec returns)
