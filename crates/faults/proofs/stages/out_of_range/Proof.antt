-- `stages::out_of_range` meets its contract: three tests do, since no field after the third is limited. Assumes nothing.
use borrow.Author.Rules.{rules}
use Rattle.book.proofs.Ranges.{first_above, second_above, third_above}
use Rattle.faults.proofs.stages.out_of_range.Tie as tie
use Rattle.faults.proofs.stages.out_of_range.Statement.{statement}

pub out_of_range_spec : {M : Type 1} → statement M
out_of_range_spec =
    tie.close
    (tie.spec
    (λ c. search rules)
    -- the first field
    (λ c κs. search rules) (λ c. search rules) (λ c κs. search rules)
    (λ c.
    let k = c.before.before in
    first_above _ (λ i. (k.before.before.shared_slice_known-1.given i).fits) _ _ _ k.first_limit.ensures c.before.byte.ensures c.if-first_limit-byte.true)
    -- the second
    (λ c κs. search rules) (λ c. search rules) (λ c κs. search rules)
    (λ c.
    let n = c.before.before.before in
    let k = n.before.before in
    second_above _ (λ i. (k.before.before.shared_slice_known-1.given i).fits) _ _ _ k.first_limit.ensures n.before.byte.ensures _ _
    c.before.before.second_limit.ensures c.before.byte-2.ensures n.if-first_limit-byte.false c.if-second_limit-byte.true)
    -- the third
    (λ c κs. search rules) (λ c. search rules) (λ c κs. search rules)
    (λ c.
    let m = c.before.before in
    let n = m.before.before.before in
    let k = n.before.before in
    third_above _ (λ i. (k.before.before.shared_slice_known-1.given i).fits) _ _ _ k.first_limit.ensures n.before.byte.ensures _ _
    m.before.before.second_limit.ensures m.before.byte-2.ensures n.if-first_limit-byte.false _ _ c.before.third_limit.ensures c.byte-3.ensures m.if-second_limit-byte.false))
