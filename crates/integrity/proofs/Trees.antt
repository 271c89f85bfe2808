-- Shapes as trees, contents written out: shapes that are alike are equal as trees.
--     Grounded, Tree, tree                         the tree of a shape
--     tree_cell, tree_code, tree_plain             by the shape's kind
--     alike_tree                                   likeness
--     tree_trust                                   the trust of a cell shape
-- Assumes nothing.
use Prim.Native.Nat.{ℕ, zero, suc, ◌<◌}
use mathlib.Core.Path.{◌≡◌, refl, ap}
use mathlib.Core.Bool.{Bool, true, false, not}
use native.Mathlib.Omega.{arith}
use lib.Dec.{eqb}
use borrow.Author.Tests.{eqb-true}
use Rattle.labels.specs.declared.Label.{Label}
use Rattle.book.specs.declared.Shape.{Shape}
use Rattle.book.specs.Control.{both, either}
use Rattle.book.proofs.Tests.{clash, both_left, both_right, either_false}
use Rattle.typing.specs.Shapes.{is_code_shape, is_cell_shape, bound_of, content_of, counted_trust, alike_in, alike}

-- contents are lower-numbered: refusal 6
pub record Grounded (shape : ℕ → Shape) : Type 0 where
  pub falls : (i : ℕ) → (shape i).kind ≡ 18 → (shape i).content < i

-- plain; code of a bound; a cell of a content and a normalised trust
pub data Tree : Type 0 where
  plain : Tree
  code : ℕ → Tree
  cell : Tree → ℕ → Tree

unfoldable pub node : Bool → Bool → ℕ → Tree → ℕ → Tree
node true cellular b t s = code b
node false true b t s = cell t s
node false false b t s = plain

-- a node asks for its content only where it is a cell
node_only : (c l : Bool) (b s : ℕ) (t u : Tree) → (l ≡ true → t ≡ u) → node c l b t s ≡ node c l b u s
unfolding node
node_only true l b s t u e = refl
node_only false true b s t u e = ap (λ (x : Tree). cell x s) (e refl)
node_only false false b s t u e = refl

-- one level of likeness
level : (ci li cj lj : Bool) (bi bj si sj : ℕ) (ti tj : Tree) (r : Bool) → both ci li ≡ false → both cj lj ≡ false
    → (li ≡ true → r ≡ true → ti ≡ tj)
    → either (both (both (not ci) (not li)) (both (not cj) (not lj)))
    (either (both ci (both cj (eqb bi bj))) (both li (both lj (both (eqb si sj) r))))
    ≡ true → node ci li bi ti si ≡ node cj lj bj tj sj
unfolding either both node
level true true cj lj bi bj si sj ti tj r p q f e = clash refl p
level true false true true bi bj si sj ti tj r p q f e = clash refl q
level true false true false bi bj si sj ti tj r p q f e = ap code (eqb-true bi bj (rw either_false at e))
level true false false lj bi bj si sj ti tj r p q f e = clash e refl
level false true true true bi bj si sj ti tj r p q f e = clash refl q
level false true true false bi bj si sj ti tj r p q f e = clash e refl
level false true false true bi bj si sj ti tj r p q f e =
    cc (f refl (both_right (eqb si sj) r e), eqb-true si sj (both_left (eqb si sj) r e))
level false true false false bi bj si sj ti tj r p q f e = clash e refl
level false false true true bi bj si sj ti tj r p q f e = clash refl q
level false false true false bi bj si sj ti tj r p q f e = clash e refl
level false false false true bi bj si sj ti tj r p q f e = clash e refl
level false false false false bi bj si sj ti tj r p q f e = refl

-- no kind is both
apart : (k : ℕ) → both (eqb k 17) (eqb k 18) ≡ false
unfolding both
apart k = go (eqb k 17) refl
  where
    go : (b : Bool) → eqb k 17 ≡ b → both (eqb k 17) (eqb k 18) ≡ false
    go true e = let h = eqb-true k 17 e in simp h
    go false e = simp e

module _ (c : Label) (shape : ℕ → Shape) where
  -- contents written out to depth n; they are lower-numbered, so a depth of i + 1 is enough
  unfoldable pub tree_in : ℕ → ℕ → Tree
  tree_in zero i = plain
  tree_in (suc n) i =
      node (is_code_shape c shape i) (is_cell_shape c shape i) (bound_of c shape i).0 (tree_in n (content_of c shape i)) (counted_trust c shape i).0

  unfoldable pub tree : ℕ → Tree
  tree i = tree_in (suc i) i

  pub tree_trust : (i : ℕ) (t : Tree) (S : ℕ) → tree i ≡ cell t S → S ≡ (counted_trust c shape i).0
  unfolding tree tree_in node
  tree_trust i t S e = go (is_code_shape c shape i) refl (is_cell_shape c shape i) refl
    where
      go : (a : Bool) → is_code_shape c shape i ≡ a → (b : Bool) → is_cell_shape c shape i ≡ b → S ≡ (counted_trust c shape i).0
      go true p b q = let z : ◌≡◌ {A = Tree} (code (bound_of c shape i).0) (cell t S) = simp p at e in cc
      go false p true q = let z : ◌≡◌ {A = Tree} (cell (tree_in i (content_of c shape i)) (counted_trust c shape i).0) (cell t S) = simp (p, q) at e in cc
      go false p false q = let z : ◌≡◌ {A = Tree} plain (cell t S) = simp (p, q) at e in cc

  module _ (ok : Grounded shape) where
    deep : (f g i : ℕ) → i < f → i < g → tree_in f i ≡ tree_in g i
    unfolding tree_in
    deep zero g i p q = absurd (omega arith)
    deep (suc f) zero i p q = absurd (omega arith)
    deep (suc f) (suc g) i p q =
        node_only _ _ _ _ _ _
        (λ l. let d = ok.falls i (eqb-true _ _ l) in deep f g (content_of c shape i) (omega arith) (omega arith))

    tree_node : (i : ℕ)
        → tree i
        ≡ node (is_code_shape c shape i) (is_cell_shape c shape i) (bound_of c shape i).0 (tree (content_of c shape i)) (counted_trust c shape i).0
    unfolding tree tree_in
    tree_node i =
        node_only _ _ _ _ _ _
        (λ l. let d = ok.falls i (eqb-true _ _ l) in deep i (suc (content_of c shape i)) (content_of c shape i) (omega arith) (omega arith))

    pub tree_cell : (i : ℕ) → is_cell_shape c shape i ≡ true → tree i ≡ cell (tree (content_of c shape i)) (counted_trust c shape i).0
    unfolding node
    tree_cell i e = rw tree_node (go (is_code_shape c shape i) refl)
      where
        go : (b : Bool) → is_code_shape c shape i ≡ b
            → node (is_code_shape c shape i) (is_cell_shape c shape i) (bound_of c shape i).0 (tree (content_of c shape i)) (counted_trust c shape i).0
            ≡ cell (tree (content_of c shape i)) (counted_trust c shape i).0
        go true f = let x = eqb-true (shape i).kind 17 f in let y = eqb-true (shape i).kind 18 e in absurd (omega arith)
        go false f = simp (f, e)

    pub tree_code : (i : ℕ) → is_code_shape c shape i ≡ true → tree i ≡ code (bound_of c shape i).0
    unfolding node
    tree_code i e = rw tree_node (simp e)

    pub tree_plain : (i : ℕ) → is_code_shape c shape i ≡ false → is_cell_shape c shape i ≡ false → tree i ≡ plain
    unfolding node
    tree_plain i e f = rw tree_node (simp (e, f))

    alike_in_lem : (n i j : ℕ) → i < n → alike_in c shape n i j ≡ true → tree i ≡ tree j
    unfolding alike_in
    alike_in_lem zero i j p e = absurd (omega arith)
    alike_in_lem (suc n) i j p e =
        rw (tree_node i, tree_node j)
        (level (is_code_shape c shape i) (is_cell_shape c shape i) (is_code_shape c shape j) (is_cell_shape c shape j) (bound_of c shape i).0 (bound_of c shape j).0
        (counted_trust c shape i).0 (counted_trust c shape j).0 (tree (content_of c shape i)) (tree (content_of c shape j)) _
        (apart (shape i).kind) (apart (shape j).kind)
        (λ l r. let d = ok.falls i (eqb-true _ _ l) in alike_in_lem n (content_of c shape i) (content_of c shape j) (omega arith) r) e)

    pub alike_tree : (i j : ℕ) → alike c shape i j ≡ true → tree i ≡ tree j
    unfolding alike
    alike_tree i j e = alike_in_lem (suc i) i j (omega arith) e
