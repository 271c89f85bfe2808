-- The fresh state of an accepted book keeps the invariant.
--     Accepted              what acceptance says of the parsed book
--     fresh_state_ok        for every launch label up to the bound
-- Assumes nothing.
use mathlib.Core.Path.{◌≡◌, refl, ap}
use mathlib.Core.Bool.{Bool, true, false}
use mathlib.Core.Option.{Option, none, some}
use mathlib.Core.List.{List, [], ◌∷◌, map}
use Prim.Native.Nat.{ℕ, zero, suc, ◌<◌, ◌≤◌}
use native.Mathlib.Omega.{arith}
use lib.ListN.{get_elem?}
use borrow.Author.Tests.{leb-true, ltb-true}
use Rattle.labels.specs.declared.Label.{Label}
use Rattle.labels.specs.declared.Trust.{Trust}
use Rattle.labels.specs.Labels.{is_met}
use Rattle.book.specs.declared.Value.{Value}
use Rattle.book.specs.declared.Value.TheVariants.{Plain, CellName, CodeName}
use Rattle.book.specs.declared.Declared.{Declared}
use Rattle.book.specs.Control.{both, on_some}
use Rattle.book.specs.Book.{Book, Block}
use Rattle.book.proofs.Every.{All}
use Rattle.book.proofs.Tests.{both_left, both_right}
use Rattle.typing.specs.declared.Known.TheVariants as N
use Rattle.typing.specs.Shapes.{view_of, is_cell_shape, content_of, counted_trust, is_high_trust, fits, known_value, declared_ok}
use Rattle.machine.specs.Histories.{sources}
use Rattle.machine.specs.Events.{block_of, first_bound, declared, fresh_state}
use Rattle.integrity.proofs.Trees.{Grounded, Tree, cell, tree_cell, tree_trust}
use Rattle.integrity.proofs.Numbers.{facts, normal_above}
use Rattle.integrity.proofs.Invariant.{Cells, shape_of, tree_of, tree_at, Has, Fits, Good, CellOk, Invariant}
use Rattle.integrity.proofs.Knowledge.{bound_is, named_has, fits_has}
use Rattle.integrity.proofs.LowActs.{BlocksPass, fresh_ok, low_good}

pub record Accepted (K : Book) : Type 0 where
  pub sound : Grounded (shape_of K)
  pub labels : (i : ℕ) → (shape_of K i).trust.0 ≤ 15
  pub cellular : (i : ℕ) → K.c.0 < (shape_of K i).trust.0 → is_cell_shape K.c (shape_of K) i ≡ true
  pub cells : All (λ d. declared_ok (view_of K) d ≡ true) K.cells
  pub blocks : BlocksPass K

abbrev shapes_of : List Declared → List ℕ
shapes_of ds = map (λ (d : Declared). d.shape) ds

abbrev bounds_of : List Block → List Label
bounds_of bs = map (λ (b : Block). b.bound) bs

module _ (K : Book) (a : Accepted K) where
  abbrev first : Cells
  first = map (declared sources) K.cells

  first_tree : (ds : List Declared) (k i : ℕ) → get_elem? (shapes_of ds) k ≡ some i → tree_at K (map (declared sources) ds) k ≡ some (tree_of K i)
  first_tree [] k i e = cc
  first_tree (d ∷ ds) zero i e = let z : d.shape ≡ i = cc in rw z refl
  first_tree (d ∷ ds) (suc k) i e = first_tree ds k i e

  value_fits : (v : Value) → Fits K first v (known_value (get_elem? (shapes_of K.cells)) (get_elem? (bounds_of K.blocks)) v)
  unfolding known_value on_some
  value_fits (Plain n) = tt
  value_fits (CellName n) = go (get_elem? (shapes_of K.cells) n) refl
    where
      go : (o : Option ℕ) → get_elem? (shapes_of K.cells) n ≡ o → Fits K first (CellName n) (on_some (get_elem? (shapes_of K.cells) n) N.Unknown N.CellOf)
      go none e = rw e tt
      go (some i) e = rw e (named_has K first n (tree_of K i) (first_tree K.cells n i e))
  value_fits (CodeName n) = go (get_elem? (bounds_of K.blocks) n) refl
    where
      go : (o : Option Label) → get_elem? (bounds_of K.blocks) n ≡ o → Fits K first (CodeName n) (on_some (get_elem? (bounds_of K.blocks) n) N.Unknown N.Code)
      go none e = rw e tt
      go (some l) e =
          let y : (block_of K n).bound.0 ≡ l.0 = ap (λ (l : Label). l.0) (bound_is K.blocks n l e) in
          rw e (omega arith)

  -- "A declared cell of trust above C needs label at least trust and a fitting value."
  declared_rule : (d : Declared) → declared_ok (view_of K) d ≡ true → is_high_trust K.c (shape_of K) d.shape ≡ true
      → both (is_met (counted_trust K.c (shape_of K) d.shape) d.label)
      (fits K.c (shape_of K) (known_value (get_elem? (shapes_of K.cells)) (get_elem? (bounds_of K.blocks)) d.value) (content_of K.c (shape_of K) d.shape))
      ≡ true
  unfolding declared_ok view_of
  declared_rule d e p = simp p at e

  declared_good : (d : Declared) → declared_ok (view_of K) d ≡ true → (b : Bool) → is_high_trust K.c (shape_of K) d.shape ≡ b
      → (t : Tree) (S : ℕ) → tree_of K d.shape ≡ cell t S → Good K first (declared sources d) t S
  declared_good d e false p t S q = let z = tree_trust K.c (shape_of K) d.shape t S q in low_good K first _ t S (omega facts)
  declared_good d e true p t S q =
      let z = tree_trust K.c (shape_of K) d.shape t S q in
      let r = declared_rule d e p in
      let n : counted_trust K.c (shape_of K) d.shape ≡ (shape_of K d.shape).trust = normal_above K.c _ (ltb-true _ _ p) in
      let y : (counted_trust K.c (shape_of K) d.shape).0 ≡ (shape_of K d.shape).trust.0 = ap (λ (t : Trust). t.0) n in
      let l = a.labels d.shape in
      let x = tree_cell K.c (shape_of K) a.sound d.shape (a.cellular d.shape (omega facts)) in
      let w : t ≡ tree_of K (content_of K.c (shape_of K) d.shape) = cc in
      let m : (counted_trust K.c (shape_of K) d.shape).0 ≤ d.label.0 = leb-true _ _ (both_left _ _ r) in
      let h : Has K first d.value (tree_of K (content_of K.c (shape_of K) d.shape)) =
      fits_has K first a.sound d.value _ _ (both_right _ _ r) (value_fits d.value) in
      record { label = omega arith; source = omega arith; has = λ c. rw w h }

  declared_ok_lem : (ds : List Declared) → All (λ d. declared_ok (view_of K) d ≡ true) ds → All (CellOk K first) (map (declared sources) ds)
  declared_ok_lem [] h = tt
  declared_ok_lem (d ∷ ds) h = (λ t S e. declared_good d h.0 (is_high_trust K.c (shape_of K) d.shape) refl t S e, declared_ok_lem ds h.1)

  pub fresh_state_ok : (l : Label) → l.0 ≤ (first_bound K).0 → Invariant K (fresh_state sources K l)
  fresh_state_ok l p =
      record {
        declared = first_tree K.cells;
        cells = declared_ok_lem K.cells a.cells;
        jobs = (fresh_ok K first a.blocks 0 l l (omega arith) (omega arith), tt);
      }
