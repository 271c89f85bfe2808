-- What typing knows of a value, and the value's tree.
--     fits_has              a value that fits a content has the content's tree
--     has_known             a value that has a shape's tree has what is known of it
--     named_has             a cell's name
--     bound_is              the bound of a block
-- Assumes nothing.
use mathlib.Core.Path.{◌≡◌, refl, ap, ◌∙◌}
use mathlib.Core.Bool.{Bool, true, false}
use mathlib.Core.Option.{some}
use mathlib.Core.List.{List, [], ◌∷◌, map}
use Prim.Native.Nat.{ℕ, zero, suc, ◌≤◌}
use native.Mathlib.Omega.{arith}
use lib.ListN.{get_or, get_elem?}
use borrow.Author.Tests.{leb-true, not-true}
use Rattle.labels.specs.declared.Label.{Label}
use Rattle.book.specs.declared.Value.{Value}
use Rattle.book.specs.declared.Value.TheVariants.{Plain, CellName, CodeName}
use Rattle.book.specs.Book.{Book, Block}
use Rattle.book.proofs.Tests.{clash, both_left, both_right}
use Rattle.typing.specs.declared.Known.{Known}
use Rattle.typing.specs.declared.Known.TheVariants as N
use Rattle.typing.specs.Shapes.{is_code_shape, is_cell_shape, bound_of, known_of, fits}
use Rattle.machine.specs.Events.{no_block}
use Rattle.integrity.proofs.Trees.{Grounded, Tree, plain, code, cell, tree_code, tree_plain, alike_tree}
use Rattle.integrity.proofs.Invariant.{Cells, shape_of, tree_of, tree_at, Has, Fits}

pub bound_is : (bs : List Block) (b : ℕ) (l : Label) → get_elem? (map (λ (b : Block). b.bound) bs) b ≡ some l → (get_or bs b no_block).bound ≡ l
bound_is [] b l e = cc
bound_is (x ∷ xs) zero l e = cc
bound_is (x ∷ xs) (suc b) l e = bound_is xs b l e

module _ (K : Book) (cs : Cells) where
  has_plain : (v : Value) → Has K cs v plain
  has_plain (Plain n) = tt
  has_plain (CellName k) = tt
  has_plain (CodeName b) = tt

  has_code : (v : Value) (a b : ℕ) → b ≤ a → Has K cs v (code a) → Has K cs v (code b)
  has_code (Plain n) a b q h = tt
  has_code (CellName k) a b q h = tt
  has_code (CodeName n) a b q h = omega arith

  pub named_has : (k : ℕ) (t : Tree) → tree_at K cs k ≡ some t → Has K cs (CellName k) t
  named_has k plain e = tt
  named_has k (code m) e = tt
  named_has k (cell t s) e = e

  module _ (ok : Grounded (shape_of K)) where
    pub fits_has : (v : Value) (k : Known) (i : ℕ) → fits K.c (shape_of K) k i ≡ true → Fits K cs v k → Has K cs v (tree_of K i)
    unfolding fits
    fits_has v N.Unknown i e h = clash e refl
    fits_has v N.Plain i e h =
        rw (tree_plain K.c (shape_of K) ok i (not-true _ (both_left _ _ e)) (not-true _ (both_right _ _ e))) (has_plain v)
    fits_has v (N.Code b) i e h =
        rw (tree_code K.c (shape_of K) ok i (both_left _ _ e)) (has_code v b.0 _ (leb-true _ _ (both_right _ _ e)) h)
    fits_has v (N.CellOf j) i e h = rw (alike_tree K.c (shape_of K) ok j i e) at h

    pub has_known : (v : Value) (i : ℕ) → Has K cs v (tree_of K i) → Fits K cs v (known_of K.c (shape_of K) i)
    unfolding known_of
    has_known v i h = go (is_code_shape K.c (shape_of K) i) refl (is_cell_shape K.c (shape_of K) i) refl
      where
        go : (a : Bool) → is_code_shape K.c (shape_of K) i ≡ a → (b : Bool) → is_cell_shape K.c (shape_of K) i ≡ b → Fits K cs v (known_of K.c (shape_of K) i)
        go true p b q = simp p (rw (tree_code K.c (shape_of K) ok i p) at h)
        go false p true q = simp (p, q) h
        go false p false q = simp (p, q) tt

    pub known_code : (i : ℕ) (b : Label) → known_of K.c (shape_of K) i ≡ N.Code b → tree_of K i ≡ code b.0
    unfolding known_of
    known_code i b e = go (is_code_shape K.c (shape_of K) i) refl (is_cell_shape K.c (shape_of K) i) refl
      where
        go : (x : Bool) → is_code_shape K.c (shape_of K) i ≡ x → (y : Bool) → is_cell_shape K.c (shape_of K) i ≡ y → tree_of K i ≡ code b.0
        go true p y q =
            let z : N.Code (bound_of K.c (shape_of K) i) ≡ N.Code b = simp p at e in
            let w : bound_of K.c (shape_of K) i ≡ b = cc in
            tree_code K.c (shape_of K) ok i p ∙ ap (λ (l : Label). code l.0) w
        go false p true q = let z : N.CellOf i ≡ N.Code b = simp (p, q) at e in cc
        go false p false q = let z : N.Plain ≡ N.Code b = simp (p, q) at e in cc

pub known_cellular : (K : Book) (i k : ℕ) → known_of K.c (shape_of K) i ≡ N.CellOf k → is_cell_shape K.c (shape_of K) k ≡ true
unfolding known_of
known_cellular K i k e = go (is_code_shape K.c (shape_of K) i) refl (is_cell_shape K.c (shape_of K) i) refl
  where
    go : (x : Bool) → is_code_shape K.c (shape_of K) i ≡ x → (y : Bool) → is_cell_shape K.c (shape_of K) i ≡ y → is_cell_shape K.c (shape_of K) k ≡ true
    go true p y q = let z : N.Code (bound_of K.c (shape_of K) i) ≡ N.CellOf k = simp p at e in cc
    go false p true q =
        let z : N.CellOf i ≡ N.CellOf k = simp (p, q) at e in
        let w : i ≡ k = cc in
        rw w at q
    go false p false q = let z : N.Plain ≡ N.CellOf k = simp (p, q) at e in cc
