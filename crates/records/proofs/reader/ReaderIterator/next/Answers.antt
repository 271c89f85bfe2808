-- `Reader`'s `next` meets its contract. Assumes nothing.
use mathlib.Core.Path.{◌≡◌, refl}
use mathlib.Core.List.{◌∷◌}
use native.Mathlib.Omega.{arith}
use borrow.Author.Rules.{rules}
use Rattle.records.specs.Readers.{reader_at, records_left, read_past}
use Rattle.records.proofs.Readers.{reads_end, reads_last, reads_on, past_last, past_on, goes_on}
use Rattle.records.proofs.reader.ReaderIterator.next.Goals as goal
use Rattle.records.proofs.reader.ReaderIterator.next.Goals.{then-end-o, else-end-o}

pub returns-then-self-o-clause-steps : goal.returns-then-self-o-clause-steps
returns-then-self-o-clause-steps c = search (rules, reads_end)

reads : (c : goal.After-self-1) → records_left c.args.self.now ≡ c.args.self.now.at ∷ records_left (reader_at c.args.self.now.book c.if-end-o.self)
reads c =
    elim c.if-end-o.branch [
      | then-end-o w ↦ rw w.self-is (reads_last _ _ c.if-self-o.false _ c.record_end-end.ensures w.if-end-o.true _ (omega arith))
      | else-end-o w ↦ rw w.self-is (reads_on _ _ c.if-self-o.false _ c.record_end-end.ensures w.if-end-o.false)
    ]

passes : (c : goal.After-self-1) → c.if-end-o.self ≡ read_past c.args.self.now.book.now c.args.self.now.at
passes c =
    elim c.if-end-o.branch [
      | then-end-o w ↦ rw w.self-is (past_last _ _ _ c.record_end-end.ensures w.if-end-o.true)
      | else-end-o w ↦ rw w.self-is (past_on _ _ _ c.record_end-end.ensures w.if-end-o.false)
    ]

pub returns-clause-steps : goal.returns-clause-steps
returns-clause-steps c = (refl, (refl, c.if-self-o.false, reads c, passes c))

pub returns-clause-goes : goal.returns-clause-goes
returns-clause-goes c = goes_on _ _ _ (reads c)
