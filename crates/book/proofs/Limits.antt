-- What refusal 4 leaves: at most 32 shapes, 32 cells and 64 blocks.
-- Assumes nothing.
use mathlib.Core.Path.{◌≡◌, refl, sym, ◌∙◌}
use mathlib.Core.Bool.{Bool, true, false}
use mathlib.Core.List.{List, [], ◌∷◌}
use Prim.Native.Nat.{ℕ, ◌+◌, ◌≤◌}
use native.Mathlib.Omega.{arith}
use lib.Dec.{eqb}
use lib.ListN.{length}
use borrow.Author.Tests.{eqb-true}
use Rattle.labels.proofs.Impossible.{impossible}
use Rattle.std.specs.Prelude.{None, Some}
use Rattle.book.specs.declared.Tally.{Tally}
use Rattle.book.specs.Control.{when◌then◌else◌, those, sweep}
use Rattle.book.specs.Kinds.{group}
use Rattle.book.specs.Records.{byte_at, records, in_group}
use Rattle.book.specs.Book.{group_of}
use Rattle.book.specs.Refusals.{no_tally, counted, too_many, beyond, count_fault}
use Rattle.book.proofs.Stages.{few_shapes_lem, few_cells_lem, few_blocks_lem, none_few}

abbrev more : Bool → ℕ → ℕ
more b n = when b then n + 1 else n

-- a record adds to its own group
module _ (n : Tally) (g : ℕ) where
  two : {X : Type 0} (a b : ℕ) → (a ≡ b → ⊥) → eqb g a ≡ true → eqb g b ≡ true → X
  two a b d p q = absurd (d (sym (eqb-true g a p) ∙ eqb-true g b q))

  counts : ((counted n g).shapes ≡ more (eqb g 2) n.shapes) × ((counted n g).cells ≡ more (eqb g 3) n.cells)
      × ((counted n g).blocks ≡ more (eqb g 4) n.blocks)
  unfolding counted
  counts = go (eqb g 2) refl (eqb g 3) refl (eqb g 4) refl (eqb g 5) refl
    where
      go : (a : Bool) → eqb g 2 ≡ a → (b : Bool) → eqb g 3 ≡ b → (c : Bool) → eqb g 4 ≡ c → (d : Bool) → eqb g 5 ≡ d
          → ((counted n g).shapes ≡ more a n.shapes) × ((counted n g).cells ≡ more b n.cells) × ((counted n g).blocks ≡ more c n.blocks)
      go true p true q c r d u = two 2 3 (λ z. omega arith) p q
      go true p false q true r d u = two 2 4 (λ z. omega arith) p r
      go true p false q false r d u = (simp p, simp p, simp p)
      go false p true q true r d u = two 3 4 (λ z. omega arith) q r
      go false p true q false r d u = (simp (p, q), simp (p, q), simp (p, q))
      go false p false q true r d u = (simp (p, q, r), simp (p, q, r), simp (p, q, r))
      go false p false q false r true u = (simp (p, q, r, u), simp (p, q, r, u), simp (p, q, r, u))
      go false p false q false r false u = (simp (p, q, r, u), simp (p, q, r, u), simp (p, q, r, u))

module _ (s : List ℕ) where
  -- a group's records, one more
  one_more : (g o : ℕ) (os : List ℕ) (n m : ℕ) → m ≡ more (in_group s g o) n → m + length (those (in_group s g) os) ≡ n + length (those (in_group s g) (o ∷ os))
  unfolding those
  one_more g o os n m e = go (in_group s g o) refl
    where
      go : (b : Bool) → in_group s g o ≡ b → m + length (those (in_group s g) os) ≡ n + length (those (in_group s g) (o ∷ os))
      go true q = let x : m ≡ n + 1 = simp q at e in simp (those, q) (omega arith)
      go false q = let x : m ≡ n = simp q at e in simp (those, q) (omega arith)

  pub record Within (n : Tally) (os : List ℕ) : Type 0 where
    pub shapes : n.shapes + length (those (in_group s 2) os) ≤ 32
    pub cells : n.cells + length (those (in_group s 3) os) ≤ 32
    pub blocks : n.blocks + length (those (in_group s 4) os) ≤ 64

  within : (os : List ℕ) (n : Tally) → too_many n ≡ false → beyond s n os ≡ None → Within n os
  unfolding beyond sweep those
  within [] n m e = record { shapes = omega (arith, few_shapes_lem n m); cells = omega (arith, few_cells_lem n m); blocks = omega (arith, few_blocks_lem n m) }
  within (o ∷ os) n m e = go (too_many (counted n (group (byte_at s o)))) refl (within os (counted n (group (byte_at s o))))
    where
      go : (b : Bool) → too_many (counted n (group (byte_at s o))) ≡ b
          → (too_many (counted n (group (byte_at s o))) ≡ false → beyond s (counted n (group (byte_at s o))) os ≡ None → Within (counted n (group (byte_at s o))) os)
          → Within n (o ∷ os)
      go true q r = let x : Some o ≡ None = simp (sweep, q) at e in impossible cc
      go false q r =
          let x = r q (simp (sweep, q) at e) in
          let c = counts n (group (byte_at s o)) in
          record {
            shapes = rw (one_more 2 o os n.shapes _ c.0) at x.shapes;
            cells = rw (one_more 3 o os n.cells _ c.1) at x.cells;
            blocks = rw (one_more 4 o os n.blocks _ c.2) at x.blocks;
          }

  module _ (h : count_fault s ≡ None) where
    all : Within no_tally (records s)
    unfolding count_fault
    all = within (records s) no_tally none_few h

    pub most_shapes : length (group_of s 2) ≤ 32
    unfolding group_of
    most_shapes = omega (arith, all.shapes)

    pub most_cells : length (group_of s 3) ≤ 32
    unfolding group_of
    most_cells = omega (arith, all.cells)

    pub most_blocks : length (group_of s 4) ≤ 64
    unfolding group_of
    most_blocks = omega (arith, all.blocks)
