-- Laws of the groups: the group of a kind, and the kinds of a group. antt computes them at every byte; no kind is above.
--     groups                     a kind's group, from what the code tested
--     group_most                 the groups are 0 to 5
--     is_c, is_shape, ..         the kinds of a group
--     group_span                 a kind of a group has a span
-- Assumes nothing.
use mathlib.Core.Path.{◌≡◌, refl}
use mathlib.Core.Bool.{Bool, true, false, not, ◌&&◌, ◌||◌}
use mathlib.Core.List.{List, [], ◌∷◌}
use Prim.Native.Nat.{ℕ, ◌<◌, ◌≤◌}
use native.Mathlib.Omega.{arith}
use lib.Dec.{T, leb, ltb, eqb, eqb→eq, leb→le, ltb→lt}
use borrow.Author.Tests.{ltb-true, ltb-false, eq-eqb, ne_eqb, lt-leb, le-ltb}
use Rattle.book.specs.Kinds.{Layout, layouts, layout_in, span, group}
use Rattle.book.proofs.Computed.{and_left, and_right, all_below, at, between}

-- every kind of a table is a byte
bytes : List Layout → Bool
bytes [] = true
bytes (l ∷ ls) = ltb l.kind 256 && bytes ls

unknown : (ls : List Layout) (k : ℕ) → T (bytes ls) → 256 ≤ k → (layout_in ls k).group ≡ 0
unfolding bytes
unknown [] k t h = refl
unknown (l ∷ ls) k t h =
    let low = ltb→lt l.kind 256 (and_left (ltb l.kind 256) (bytes ls) t) in
    rw (ne_eqb l.kind k (λ e. omega arith), layout_in) (unknown ls k (and_right (ltb l.kind 256) (bytes ls) t) h)

-- a test of the kinds of group g
module _ (g : ℕ) (some : 0 < g) (f : ℕ → Bool) where
  abbrev of_group : ℕ → Bool
  of_group k = not (eqb (group k) g) || f k

  kind_of_lem : T (all_below of_group 256) → (k : ℕ) → group k ≡ g → T (f k)
  unfolding group bytes
  kind_of_lem t k e = go (ltb k 256) refl
    where
      go : (b : Bool) → ltb k 256 ≡ b → T (f k)
      go true h = rw (eq-eqb (group k) g e) at (at of_group 256 t k (ltb-true k 256 h))
      go false h = let z = unknown layouts k tt (ltb-false k 256 h) in absurd (omega arith)

module _ (k : ℕ) where
  pub group_most : group k ≤ 5
  unfolding group bytes
  group_most = go (ltb k 256) refl
    where
      go : (b : Bool) → ltb k 256 ≡ b → group k ≤ 5
      go true h = leb→le (group k) 5 (at (λ k. leb (group k) 5) 256 tt k (ltb-true k 256 h))
      go false h = let z = unknown layouts k tt (ltb-false k 256 h) in omega arith

  pub is_c : group k ≡ 1 → k ≡ 1
  unfolding group
  is_c e = eqb→eq k 1 (kind_of_lem 1 (omega arith) (λ k. eqb k 1) tt k e)

  pub is_shape : group k ≡ 2 → (16 ≤ k) × (k ≤ 18)
  unfolding group
  is_shape e =
      (leb→le 16 k (kind_of_lem 2 (omega arith) (λ k. leb 16 k) tt k e), leb→le k 18 (kind_of_lem 2 (omega arith) (λ k. leb k 18) tt k e))

  pub is_cell : group k ≡ 3 → k ≡ 32
  unfolding group
  is_cell e = eqb→eq k 32 (kind_of_lem 3 (omega arith) (λ k. eqb k 32) tt k e)

  pub is_block : group k ≡ 4 → k ≡ 48
  unfolding group
  is_block e = eqb→eq k 48 (kind_of_lem 4 (omega arith) (λ k. eqb k 48) tt k e)

  pub is_step : group k ≡ 5 → (64 ≤ k) × (k ≤ 75)
  unfolding group
  is_step e =
      (leb→le 64 k (kind_of_lem 5 (omega arith) (λ k. leb 64 k) tt k e), leb→le k 75 (kind_of_lem 5 (omega arith) (λ k. leb k 75) tt k e))

  -- a block's record has two bytes
  pub block_span : group k ≡ 4 → span k ≡ 2
  unfolding span
  block_span e = simp (is_block e)

  pub of_c : k ≡ 1 → 1 ≡ group k
  unfolding group
  of_c e = simp e

  pub of_cell : k ≡ 32 → 3 ≡ group k
  unfolding group
  of_cell e = simp e

  pub of_block : k ≡ 48 → 4 ≡ group k
  unfolding group
  of_block e = simp e

  module _ (h : k < 256) where
    pub of_shape : 16 ≤ k → k ≤ 18 → 2 ≡ group k
    unfolding group
    of_shape = between group 16 18 2 tt k h

    pub of_step : 64 ≤ k → k ≤ 75 → 5 ≡ group k
    unfolding group
    of_step = between group 64 75 5 tt k h

    pub of_above : 64 ≤ k → 75 < k → 0 ≡ group k
    unfolding group
    of_above a b = between group 76 255 0 tt k h b (omega arith)

    pub of_between : k < 64 → (k ≡ 48 → ⊥) → (k ≡ 32 → ⊥) → 16 ≤ k → 18 < k → 0 ≡ group k
    unfolding group
    of_between a b c d e =
        let t = at (λ k. ltb k 19 || (leb 64 k || (eqb k 48 || (eqb k 32 || eqb 0 (group k))))) 256 tt k h in
        eqb→eq 0 (group k) (rw (le-ltb k 19 e, lt-leb 64 k a, ne_eqb k 48 b, ne_eqb k 32 c) at t)

    pub of_below : k < 16 → (k ≡ 1 → ⊥) → 0 ≡ group k
    unfolding group
    of_below a b = eqb→eq 0 (group k) (rw (lt-leb 16 k a, ne_eqb k 1 b) at (at (λ k. leb 16 k || (eqb k 1 || eqb 0 (group k))) 256 tt k h))

pub ruleset groups = (of_c, of_shape, of_cell, of_block, of_step, of_above, of_between, of_below)

-- a kind of a group has a span
pub group_span : (k g : ℕ) → group k ≡ g → 0 < g → span k ≡ 0 → ⊥
unfolding group span
group_span k g e l z = let y = rw (ne_eqb (group k) 0 (λ q. omega arith)) at z in omega arith
