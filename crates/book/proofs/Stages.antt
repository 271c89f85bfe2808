-- Laws of refusals 2 to 5, as one pass over the book begins and ends, and of what they ask of a record. z is what the whole stage gives.
--     cut_start, .., range_end     where a pass begins, and at its end
--     places, ones, crowds         in order after the last; one record more; too many
--     onward                       past a whole record
-- Assumes nothing.
use mathlib.Core.Path.{◌≡◌, refl}
use mathlib.Core.Bool.{true, false}
use mathlib.Core.List.{List}
use Prim.Native.Nat.{ℕ, ◌+◌, ◌≤◌, ◌<◌}
use native.Mathlib.Omega.{arith}
use lib.Dec.{leb, ltb, eqb}
use lib.ListN.{length}
use borrow.Author.Tests.{lt-ltb, le-ltb, eq-eqb, ne_eqb, ltb-false}
use Rattle.book.specs.Missing.{Fault}
use Rattle.std.specs.Prelude.{None}
use Rattle.book.specs.declared.Tally.{Tally}
use Rattle.book.specs.Control.{both, either, first}
use Rattle.book.specs.Kinds.{span}
use Rattle.book.specs.Records.{next, cut, records_from}
use Rattle.book.specs.Refusals.{cut_fault, in_order, misplaced, order_fault, no_tally, counted, too_many, beyond, count_fault, out_of_range, range_fault}
use Rattle.book.specs.Asked.{Whole}
use Rattle.book.proofs.Tests.{either_left, either_right}
use Rattle.book.proofs.Spans.{fault_end}
use Rattle.book.proofs.Records.{walk}
use Rattle.book.proofs.Sweep.{sweep_end}

-- 2
pub cut_start : (s : List ℕ) → first (cut s) (records_from s 0) ≡ cut_fault s
unfolding cut_fault
cut_start s = refl

pub cut_end : (s : List ℕ) (o : ℕ) (z : Fault) → first (cut s) (records_from s o) ≡ z → length s ≤ o → None ≡ z
cut_end s o z inv h = fault_end span s o z inv h

-- 3
module _ (p g : ℕ) where
  pub in_first : p ≡ 0 → eqb g 1 ≡ in_order p g
  unfolding in_order
  in_first e = simp (eq-eqb _ _ e)

  module _ (n : p ≡ 0 → ⊥) where
    pub in_step : g ≡ 5 → eqb p 4 ≡ in_order p g
    unfolding in_order
    in_step e = simp (ne_eqb _ _ n, eq-eqb _ _ e)

    pub in_later : (g ≡ 5 → ⊥) → 1 < g → leb p g ≡ in_order p g
    unfolding in_order both
    in_later e h = simp (ne_eqb _ _ n, ne_eqb _ _ e, lt-ltb _ _ h)

    pub in_none : (g ≡ 5 → ⊥) → g ≤ 1 → false ≡ in_order p g
    unfolding in_order both
    in_none e h = simp (ne_eqb _ _ n, ne_eqb _ _ e, le-ltb _ _ h)

pub ruleset places = (in_first, in_step, in_later, in_none)

pub order_start : (s : List ℕ) → misplaced s 0 (records_from s 0) ≡ order_fault s
unfolding order_fault
order_start s = refl

module _ (s : List ℕ) (o p : ℕ) (z : Fault) (inv : misplaced s p (records_from s o) ≡ z) where
  pub order_end : length s ≤ o → p ≡ 4 → None ≡ z
  unfolding misplaced
  order_end h e = simp (eq-eqb _ _ e) at (sweep_end _ _ _ s p o z inv h)

-- 4
module _ (n : Tally) (e : too_many n ≡ false) where
  after_shapes : either (ltb 32 n.cells) (either (ltb 64 n.blocks) (ltb 64 n.steps)) ≡ false
  unfolding too_many
  after_shapes = either_right (ltb 32 n.shapes) _ e

  after_cells : either (ltb 64 n.blocks) (ltb 64 n.steps) ≡ false
  after_cells = either_right (ltb 32 n.cells) _ after_shapes

  pub few_shapes_lem : n.shapes ≤ 32
  unfolding too_many
  few_shapes_lem = ltb-false _ _ (either_left _ _ e)

  pub few_cells_lem : n.cells ≤ 32
  few_cells_lem = ltb-false _ _ (either_left _ _ after_shapes)

  pub few_blocks_lem : n.blocks ≤ 64
  few_blocks_lem = ltb-false _ _ (either_left _ _ after_cells)

  pub few_steps : n.steps ≤ 64
  few_steps = ltb-false _ _ (either_right (ltb 64 n.blocks) _ after_cells)

module _ (n : Tally) (g : ℕ) where
  pub one_shape : g ≡ 2 → record { shapes = n.shapes + 1; cells = n.cells; blocks = n.blocks; steps = n.steps } ≡ counted n g
  unfolding counted
  one_shape e = simp (eq-eqb _ _ e)

  pub one_cell : g ≡ 3 → record { shapes = n.shapes; cells = n.cells + 1; blocks = n.blocks; steps = n.steps } ≡ counted n g
  unfolding counted
  one_cell e = simp e

  pub one_block : g ≡ 4 → record { shapes = n.shapes; cells = n.cells; blocks = n.blocks + 1; steps = 0 } ≡ counted n g
  unfolding counted
  one_block e = simp e

  pub one_step : g ≡ 5 → record { shapes = n.shapes; cells = n.cells; blocks = n.blocks; steps = n.steps + 1 } ≡ counted n g
  unfolding counted
  one_step e = simp e

  pub no_one : (g ≡ 2 → ⊥) → (g ≡ 3 → ⊥) → (g ≡ 4 → ⊥) → (g ≡ 5 → ⊥) → n ≡ counted n g
  unfolding counted
  no_one a b c d = simp (ne_eqb _ _ a, ne_eqb _ _ b, ne_eqb _ _ c, ne_eqb _ _ d)

pub ruleset ones = (one_shape, one_cell, one_block, one_step, no_one)

module _ (n : Tally) where
  pub many_shapes : 32 < n.shapes → true ≡ too_many n
  unfolding too_many either
  many_shapes h = simp (lt-ltb _ _ h)

  module _ (a : n.shapes ≤ 32) where
    pub many_cells : 32 < n.cells → true ≡ too_many n
    unfolding too_many either
    many_cells h = simp (le-ltb _ _ a, lt-ltb _ _ h)

    module _ (b : n.cells ≤ 32) where
      pub many_blocks : 64 < n.blocks → true ≡ too_many n
      unfolding too_many either
      many_blocks h = simp (le-ltb _ _ a, le-ltb _ _ b, lt-ltb _ _ h)

      pub many_steps : n.blocks ≤ 64 → ltb 64 n.steps ≡ too_many n
      unfolding too_many either
      many_steps h = simp (le-ltb _ _ a, le-ltb _ _ b, le-ltb _ _ h)

pub ruleset crowds = (many_shapes, many_cells, many_blocks, many_steps)

pub count_start : (s : List ℕ) → beyond s no_tally (records_from s 0) ≡ count_fault s
unfolding count_fault
count_start s = refl

pub none_few : too_many no_tally ≡ false
unfolding too_many either
none_few = refl

module _ (s : List ℕ) (o : ℕ) (n : Tally) (z : Fault) (inv : beyond s n (records_from s o) ≡ z) where
  pub count_end : length s ≤ o → None ≡ z
  unfolding beyond
  count_end h = sweep_end _ _ _ s n o z inv h

-- 5
pub range_start : (s : List ℕ) → first (out_of_range s) (records_from s 0) ≡ range_fault s
unfolding range_fault
range_start s = refl

module _ (s : List ℕ) (o : ℕ) (z : Fault) (inv : first (out_of_range s) (records_from s o) ≡ z) where
  pub range_end : length s ≤ o → None ≡ z
  range_end h = sweep_end _ _ _ s tt o z inv h

-- past a whole record
pub whole_on : (s : List ℕ) (o p : ℕ) → Whole s o → o < length s → p ≡ next s o → Whole s p
whole_on s o p w h e = rw e (walk s o w h).rest

pub inside_on : (s : List ℕ) (o p : ℕ) → Whole s o → o < length s → p ≡ next s o → p ≤ length s
inside_on s o p w h e = rw e (walk s o w h).inside

-- a count of the records passed is at most the offset
pub count_one : (s : List ℕ) (o p n : ℕ) → Whole s o → o < length s → p ≡ next s o → n ≤ o → n + 1 ≤ p
count_one s o p n w h e l = let k = walk s o w h in omega (arith, k.spanned)

pub count_same : (s : List ℕ) (o p n : ℕ) → Whole s o → o < length s → p ≡ next s o → n ≤ o → n ≤ p
count_same s o p n w h e l = let k = walk s o w h in omega (arith, k.spanned)

pub ruleset onward = (whole_on, inside_on, count_one, count_same)
