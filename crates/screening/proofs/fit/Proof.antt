-- `fit` meets its contract. Where all four tests pass, refusals 2 and 5 do not hold of the record; elsewhere nothing is claimed. Assumes nothing.
use borrow.Author.Rules.{rules}
use Rattle.book.proofs.Screens.{fits_whole, unfit}
use Rattle.screening.proofs.fit.Tie as tie
use Rattle.screening.proofs.fit.Statement.{statement}

pub fit_spec : {M : Type 1} → statement M
fit_spec =
    tie.close
    (tie.spec
    (λ c. search rules)
    (λ c. unfit _ _)  -- s.len() - o < w as usize
    (λ c. search rules) (λ c κs. search rules)
    (λ c. unfit _ _)  -- a < records::byte(s, o + 1)
    (λ c. search rules) (λ c κs. search rules)
    (λ c. unfit _ _)  -- b < records::byte(s, o + 2)
    (λ c. search rules) (λ c κs. search rules)
    (λ c. unfit _ _)  -- c < records::byte(s, o + 3)
    -- none of these
    (λ c.
    let p3 = c.before.before in
    let p2 = p3.before.before in
    let p1 = p2.before.before in
    let begun = p1.before in
    fits_whole _ (λ i. (begun.shared_slice_known-1.given i).fits) _ _ _ _ _ _ _ _ begun.before.requires.1 begun.before.requires.0 p1.if-s-o.false
    p2.before.byte.ensures p3.before.byte-2.ensures c.before.byte-3.ensures p2.if-a-byte.false p3.if-b-byte.false c.if-c-byte.false))
