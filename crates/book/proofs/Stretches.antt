-- Where the blocks' stretches are, by an outline's tables.
--     WholeBlock, block          the record of a block stands in the book
--     bound_is, a_is, part_is    its bound, its start, its stretch
--     laids                      for the code: the stretches are in the book, and whole
-- Assumes nothing.
use mathlib.Core.Path.{◌≡◌, refl, sym, ap, ◌∙◌}
use mathlib.Core.List.{List}
use Prim.Native.Nat.{ℕ, ◌+◌, ◌-◌, ◌≤◌, ◌<◌}
use native.Mathlib.Omega.{arith}
use lib.ListN.{length, get_or, take, drop, length-map, length-take, length-drop}
use borrow.Author.Rules.{Fits-under}
use mir.Val.{Fits}
use mir.Syntax.{w64}
use Rattle.book.specs.Records.{byte_at}
use Rattle.book.specs.Book.{blocks_of}
use Rattle.book.specs.Outline.{steps_end, bound_at, start_at, length_at}
use Rattle.book.specs.Asked.{Whole, Laid}
use Rattle.book.proofs.Groups.{block_span}
use Rattle.book.proofs.Records.{walk}
use Rattle.book.proofs.Past.{past_steps}
use Rattle.book.proofs.Part.{parted}
use Rattle.book.proofs.Blocks.{stands, nth}

-- the block at o, whose record stands in the book
pub record WholeBlock (s : List ℕ) (o : ℕ) : Type 0 where
  pub inside : o + 2 ≤ length s
  pub whole : Whole s (o + 2)

-- as many starts and lengths as bounds
module _ (s bounds starts lengths : List ℕ) (u : Laid s bounds starts lengths) where
  pub laid_starts : length bounds ≡ length starts
  laid_starts = ap length u.bound ∙ length-map (blocks_of s) (bound_at s) ∙ sym (length-map (blocks_of s) start_at) ∙ ap length (sym u.start)

  pub laid_lengths : length bounds ≡ length lengths
  laid_lengths =
      ap length u.bound ∙ length-map (blocks_of s) (bound_at s) ∙ sym (length-map (blocks_of s) (length_at s)) ∙ ap length (sym u.long)

-- block i
module _ (s bounds starts lengths : List ℕ) (u : Laid s bounds starts lengths) (i : ℕ) (h : i < length bounds) where
  pub blocks : i < length (blocks_of s)
  blocks = let e : length bounds ≡ length (blocks_of s) = ap length u.bound ∙ length-map (blocks_of s) (bound_at s) in omega arith

  abbrev pub o : ℕ
  o = get_or (blocks_of s) i 0

  pub block : WholeBlock s o
  block =
      let x = stands s 4 u.whole i blocks in
      let w = walk s o x.whole x.inside in
      let n = block_span (byte_at s o) x.kind in
      record { inside = rw n at w.inside; whole = rw n at w.rest }

  pub bound_is : get_or bounds i 0 ≡ bound_at s o
  bound_is = ap (λ (l : List ℕ). get_or l i 0) u.bound ∙ nth (bound_at s) 0 (blocks_of s) i blocks

  -- where it starts, and how long it is
  module _ (a l : ℕ) (ea : a ≡ get_or starts i 0) (el : l ≡ get_or lengths i 0) where
    pub a_is : a ≡ o + 2
    a_is = ea ∙ ap (λ (l : List ℕ). get_or l i 0) u.start ∙ nth start_at 0 (blocks_of s) i blocks

    l_is : l ≡ steps_end s (o + 2) - (o + 2)
    unfolding length_at
    l_is = el ∙ ap (λ (l : List ℕ). get_or l i 0) u.long ∙ nth (length_at s) 0 (blocks_of s) i blocks

    pub laid_inside : a + l ≤ length s
    laid_inside =
        let b = block in
        let p = past_steps s (o + 2) b.whole b.inside in
        omega (arith, a_is, l_is, p.bytes, p.inside)

    pub laid_fits : Fits w64 (a + l)
    laid_fits = Fits-under w64 (a + l) 65536 (let h = laid_inside in let n = u.short in omega arith) tt

    pub part_is : take (a + l - a) (drop a s) ≡ take (steps_end s (o + 2) - (o + 2)) (drop (o + 2) s)
    part_is = let n : a + l - a ≡ steps_end s (o + 2) - (o + 2) = omega (arith, l_is) in rw (n, a_is) refl

    pub laid_whole : Whole (take (a + l - a) (drop a s)) 0
    laid_whole = let b = block in rw part_is (parted s (o + 2) b.whole b.inside).whole

    pub laid_small : a + length (take (a + l - a) (drop a s)) ≤ 65536
    laid_small = let h = laid_inside in let n = u.short in simp (length-take, length-drop) (omega arith)

pub ruleset laids = (laid_starts, laid_lengths, laid_inside, laid_fits, laid_whole, laid_small)
