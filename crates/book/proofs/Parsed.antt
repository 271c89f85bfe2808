-- What refusals 3, 4 and 6 leave of the parsed book: a block stands, blocks and steps are few, and every block that is named exists.
--     SoundBook, sound      of every readable book
-- Assumes nothing.
use mathlib.Core.Path.{◌≡◌, refl, ap}
use mathlib.Core.Bool.{Bool, true, false}
use mathlib.Core.List.{List, [], ◌∷◌, map}
use Prim.Native.Nat.{ℕ, ◌+◌, ◌<◌, ◌≤◌, min}
use native.Mathlib.Omega.{arith}
use lib.Dec.{eqb}
use lib.ListN.{length, length-map}
use borrow.Author.Tests.{ne_eqb, eqb-true, eqb-false, not-false}
use Rattle.std.specs.Prelude.{None}
use Rattle.book.specs.declared.Tally.{Tally}
use Rattle.book.specs.Outcome.{Passed}
use Rattle.book.specs.Control.{when◌then◌else◌, those, while, sweep}
use Rattle.book.specs.Kinds.{group}
use Rattle.book.specs.Records.{byte_at, next, records, records_from, in_group}
use Rattle.book.specs.Book.{Book, Block, group_of, cells_of, blocks_of, steps_from, declared_at, step_at, block_at, parse}
use Rattle.book.specs.Refusals.{in_order, misplaced, order_fault, no_tally, counted, too_many, beyond, count_fault, cell_named, step_named, dangling, dangles, has_cell_shape, name_fault, unreadable}
use Rattle.book.proofs.Tests.{clash}
use Rattle.book.proofs.Every.{All, Passing, all_both, mapped, those_all, while_all}
use Rattle.book.proofs.Groups.{group_most, is_cell, is_step, block_span}
use Rattle.book.proofs.Sweep.{somewhere, Cleared, cleared}
use Rattle.book.proofs.Stages.{few_steps, one_step}
use Rattle.book.proofs.Limits.{most_blocks}
use Rattle.book.proofs.Readable.{pass_whole, Readable, readable}

-- refusals 4 and 6 of a block: at most 64 steps, each of which names what exists
pub record SoundBlock (K : Book) (b : Block) : Type 0 where
  pub few : length b.steps ≤ 64
  pub named : All (λ p. step_named (has_cell_shape K) (length K.cells) (length K.blocks) p ≡ true) b.steps

-- refusals 3, 4 and 6 of a book: a block stands, at most 64 do, and declared cells name what exists
pub record SoundBook (K : Book) : Type 0 where
  pub some_block : 0 < length K.blocks
  pub few : length K.blocks ≤ 64
  pub cells : All (λ d. cell_named (has_cell_shape K) (length K.cells) (length K.blocks) d ≡ true) K.cells
  pub blocks : All (SoundBlock K) K.blocks

module _ (s : List ℕ) where
  -- 3: a record in order that is no block, where no block stands before it, is no step
  later : (p g : ℕ) → (p ≡ 4 → ⊥) → (g ≡ 4 → ⊥) → g ≤ 5 → in_order p g ≡ true → min g 4 ≡ 4 → ⊥
  unfolding in_order
  later p g n d l r z =
      let q : g ≡ 5 = omega arith in
      go (eqb p 0) refl (eqb p 4) refl (rw q at r)
    where
      go : (a : Bool) → eqb p 0 ≡ a → (b : Bool) → eqb p 4 ≡ b → in_order p 5 ≡ true → ⊥
      go true q b t x = clash (simp q at x) refl
      go false q true t x = n (eqb-true _ _ t)
      go false q false t x = clash (simp (q, t) at x) refl

  -- so where the records end in order, a block stands
  last_block : (os : List ℕ) (p : ℕ) → (p ≡ 4 → ⊥) → misplaced s p os ≡ None → 0 < length (those (in_group s 4) os)
  unfolding misplaced sweep those
  last_block [] p n e = somewhere (simp (ne_eqb _ _ n) at e)
  last_block (o ∷ os) p n e = go (in_group s 4 o) refl (in_order p (group (byte_at s o))) refl (last_block os (min (group (byte_at s o)) 4))
    where
      go : (a : Bool) → in_group s 4 o ≡ a → (b : Bool) → in_order p (group (byte_at s o)) ≡ b
          → ((min (group (byte_at s o)) 4 ≡ 4 → ⊥) → misplaced s (min (group (byte_at s o)) 4) os ≡ None → 0 < length (those (in_group s 4) os))
          → 0 < length (those (in_group s 4) (o ∷ os))
      go true q b r i = simp (those, q) (omega arith)
      go false q true r i = simp (those, q) (i (later p (group (byte_at s o)) n (eqb-false _ _ q) (group_most (byte_at s o)) r) (simp (sweep, r) at e))
      go false q false r i = somewhere (simp (sweep, r) at e)

  -- 4: the steps that follow
  few_follow : (os : List ℕ) (n : Tally) → too_many n ≡ false → beyond s n os ≡ None → n.steps + length (while (in_group s 5) os) ≤ 64
  unfolding beyond sweep while
  few_follow [] n m e = omega (arith, few_steps n m)
  few_follow (o ∷ os) n m e = go (in_group s 5 o) refl (too_many (counted n (group (byte_at s o)))) refl (few_follow os (counted n (group (byte_at s o))))
    where
      go : (a : Bool) → in_group s 5 o ≡ a → (b : Bool) → too_many (counted n (group (byte_at s o))) ≡ b
          → (too_many (counted n (group (byte_at s o))) ≡ false → beyond s (counted n (group (byte_at s o))) os ≡ None
          → (counted n (group (byte_at s o))).steps + length (while (in_group s 5) os) ≤ 64)
          → n.steps + length (while (in_group s 5) (o ∷ os)) ≤ 64
      go false q b r i = simp (while, q) (omega (arith, few_steps n m))
      go true q true r i = somewhere (simp (sweep, r) at e)
      go true q false r i =
          let l = i r (simp (sweep, r) at e) in
          let x : n.steps + 1 ≡ (counted n (group (byte_at s o))).steps = ap (λ (t : Tally). t.steps) (one_step n (group (byte_at s o)) (eqb-true _ _ q)) in
          simp (while, q) (omega arith)

  past_block : (o : ℕ) → in_group s 4 o ≡ true → next s o ≡ o + 2
  past_block o q = let h = block_span (byte_at s o) (eqb-true _ _ q) in omega arith

  few_in : (o : ℕ) → Passing (Cleared (λ (n : Tally) o. too_many (counted n (group (byte_at s o)))) (λ n o. counted n (group (byte_at s o))) (λ n. None) s) (in_group s 4) o
      → length (steps_from s (o + 2)) ≤ 64
  unfolding beyond steps_from
  few_in o h =
      let k = h.known in
      let l = few_follow (records_from s (next s o)) (counted k.before (group (byte_at s o))) k.fine k.rest in
      let m : length (while (in_group s 5) (records_from s (next s o))) ≤ 64 = omega (arith, l) in
      rw (past_block o h.passes) at m

module _ (s : List ℕ) (f : ℕ → Bool) (cells blocks : ℕ) where
  -- 6: a record, and those behind it, name what exists
  abbrev Named : ℕ → Type 0
  Named o = Cleared (dangling f cells blocks s) (λ n o. when in_group s 2 o then n + 1 else n) (λ n. None) s o

  cell_in : (o : ℕ) → Passing Named (in_group s 3) o → cell_named f cells blocks (declared_at s o) ≡ true
  unfolding dangling
  cell_in o h =
      let q = is_cell (byte_at s o) (eqb-true _ _ h.passes) in
      not-false _ (simp (ne_eqb (byte_at s o) 18 (λ z. omega arith), h.passes) at h.known.fine)

  step_in : (o : ℕ) → Passing Named (in_group s 5) o → step_named f cells blocks (step_at s o) ≡ true
  unfolding dangling
  step_in o h =
      let q = is_step (byte_at s o) (eqb-true _ _ h.passes) in
      let z : group (byte_at s o) ≡ 5 = eqb-true _ _ h.passes in
      not-false _ (simp (ne_eqb (byte_at s o) 18 (λ z. omega arith), z) at h.known.fine)

  steps_in : (o : ℕ) → Passing Named (in_group s 4) o → All (λ p. step_named f cells blocks p ≡ true) (map (step_at s) (steps_from s (o + 2)))
  unfolding steps_from
  steps_in o h =
      let k = h.known in
      mapped _ _ (step_at s) step_in (steps_from s (o + 2))
      (while_all _ (in_group s 5) (records_from s (o + 2))
      (rw (past_block s o h.passes) at (cleared _ _ _ s _ (next s o) k.whole k.rest)))

module _ (s : List ℕ) (r : Readable s) where
  block_stands : 0 < length (parse s).blocks
  unfolding order_fault parse group_of
  block_stands = omega (arith, last_block s (records s) 0 (λ z. omega arith) r.ordered, length-map (blocks_of s) (block_at s))

  blocks_few : length (parse s).blocks ≤ 64
  unfolding parse
  blocks_few = omega (arith, most_blocks s r.few, length-map (blocks_of s) (block_at s))

  named : All (Named s (has_cell_shape (parse s)) (length (parse s).cells) (length (parse s).blocks)) (records s)
  unfolding name_fault dangles
  named = cleared _ _ _ s 0 0 (pass_whole s r.whole) r.named

  cells_named : All (λ d. cell_named (has_cell_shape (parse s)) (length (parse s).cells) (length (parse s).blocks) d ≡ true) (parse s).cells
  unfolding parse group_of
  cells_named = mapped _ _ (declared_at s) (cell_in s _ _ _) (cells_of s) (those_all _ (in_group s 3) (records s) named)

  blocks_sound : All (SoundBlock (parse s)) (parse s).blocks
  unfolding parse group_of block_at count_fault beyond
  blocks_sound =
      mapped _ _ (block_at s) (λ o h. h) (blocks_of s)
      (all_both _ _ (λ o. SoundBlock (parse s) (block_at s o)) (λ o f n. record { few = omega (arith, few_in s o f, length-map (steps_from s (o + 2)) (step_at s)); named = steps_in s _ _ _ o n })
      (blocks_of s) (those_all _ (in_group s 4) (records s) (cleared _ _ _ s no_tally 0 (pass_whole s r.whole) r.few)) (those_all _ (in_group s 4) (records s) named))

pub sound : (s : List ℕ) → unreadable s ≡ Passed → SoundBook (parse s)
sound s e =
    let r = readable s e in
    record { some_block = block_stands s r; few = blocks_few s r; cells = cells_named s r; blocks = blocks_sound s r }
