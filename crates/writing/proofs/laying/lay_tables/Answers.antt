-- `laying::lay_tables` meets its contract. Assumes nothing.
use borrow.Author.Rules.{rules}
use Rattle.writing.proofs.Wholes.{tables_lay}
use Rattle.writing.proofs.laying.lay_tables.Goals as goal

pub returns : goal.returns
returns c =
    tables_lay _ _ _ _ _ _ _ _ _ _ _ _ _ _ _ c.c_entry.ensures c.requires c.lay-pen.ensures.draft_after c.lay-pen.ensures.value
    (c.lay_rows-pen.ensures.laid _ (λ i e h g. search rules)) (c.lay_rows-pen-2.ensures.laid _ (λ i e h g. search rules)) c.lay_blocks.ensures
