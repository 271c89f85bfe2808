-- Laws of refusal 6.
--     values, step_is, cells                 what a value, a step, a declared cell names
--     danglings                              a record
--     name_start                             where the sweep through the book begins
-- Assumes nothing.
use mathlib.Core.Path.{◌≡◌, refl, sym, ap, ◌∙◌, fun_ext}
use mathlib.Core.Bool.{Bool, true, false, not}
use mathlib.Core.List.{List, map}
use Prim.Native.Nat.{ℕ, ◌+◌, ◌-◌, ◌≤◌, ◌<◌}
use lib.Dec.{leb, ltb, eqb}
use lib.ListN.{length, length-map}
use borrow.Author.Tests.{eq-eqb, ne_eqb, lt-ltb, le-ltb}
use Rattle.book.specs.declared.Outline.{Outline}
use Rattle.book.specs.declared.Shape.{Shape}
use Rattle.book.specs.declared.Value.{Value}
use Rattle.book.specs.declared.Value.TheVariants.{Plain, CellName, CodeName}
use Rattle.book.specs.declared.Declared.{Declared}
use Rattle.book.specs.declared.Step.{Step}
use Rattle.book.specs.declared.Step.TheVariants.{Choose}
use Rattle.book.specs.Control.{both}
use Rattle.book.specs.Kinds.{group}
use Rattle.book.specs.Records.{byte_at, records_from}
use Rattle.book.specs.Book.{shapes_of, cells_of, blocks_of, shape_at, declared_at, step_at, block_at, parse}
use Rattle.book.specs.Refusals.{value_named, cell_named, step_named, dangling, dangles, has_cell_shape, name_fault}
use Rattle.book.specs.Outline.{shape_in, shapes_table, outline_of}
use Rattle.book.specs.Asked.{Outlined, is_cell_shape_in}
use Rattle.book.proofs.ShapeTable.{shape_get}

-- what a value names
module _ (cells blocks : ℕ) (v : Value) (n : ℕ) where
  pub value_plain : v ≡ Plain n → true ≡ value_named cells blocks v
  unfolding value_named
  value_plain e = simp e

  pub value_cell : v ≡ CellName n → ltb n cells ≡ value_named cells blocks v
  unfolding value_named
  value_cell e = simp e

  pub value_code : v ≡ CodeName n → ltb n blocks ≡ value_named cells blocks v
  unfolding value_named
  value_code e = simp e

pub ruleset values = (value_plain, value_cell, value_code)

module _ (f : ℕ → Bool) (cells blocks : ℕ) where
  -- a declared cell
  module _ (d : Declared) (b : Bool) (eb : b ≡ f d.shape) where
    pub cell_yes : (c : Bool) → b ≡ true → c ≡ value_named cells blocks d.value → c ≡ cell_named f cells blocks d
    unfolding cell_named both
    cell_yes c e ec = ec ∙ simp (← eb, e)

    pub cell_no : b ≡ false → false ≡ cell_named f cells blocks d
    unfolding cell_named both
    cell_no e = simp (← eb, e)

  -- a step
  module _ (p : Step) where
    pub step_is : (q : Step) (b : Bool) → p ≡ q → b ≡ step_named f cells blocks q → b ≡ step_named f cells blocks p
    step_is q b d e = e ∙ simp d

    module _ (r i j : ℕ) (d : p ≡ Choose r i j) where
      pub step_first : blocks ≤ i → ltb i blocks ≡ step_named f cells blocks p
      unfolding step_named both
      step_first h = simp (d, le-ltb _ _ h)

      pub step_second : i < blocks → ltb j blocks ≡ step_named f cells blocks p
      unfolding step_named both
      step_second h = simp (d, lt-ltb _ _ h)

  -- a record
  module _ (s : List ℕ) (n o : ℕ) where
    pub dangle_shape : (x : ℕ) → byte_at s o ≡ 18 → x ≡ byte_at s (o + 1) → leb n x ≡ dangling f cells blocks s n o
    unfolding dangling
    dangle_shape x h ex = simp (h, ex)

    module _ (a : byte_at s o ≡ 18 → ⊥) (g : ℕ) (eg : g ≡ group (byte_at s o)) where
      pub dangle_cell : (d : Declared) (b : Bool) → g ≡ 3 → d ≡ declared_at s o → b ≡ cell_named f cells blocks d → not b ≡ dangling f cells blocks s n o
      unfolding dangling
      dangle_cell d b e ed eb = simp (ne_eqb _ _ a, ← eg, eq-eqb _ _ e, ← ed, ← eb)

      pub dangle_step : (p : Step) (b : Bool) → g ≡ 5 → p ≡ step_at s o → b ≡ step_named f cells blocks p → not b ≡ dangling f cells blocks s n o
      unfolding dangling
      dangle_step p b e ep eb = simp (ne_eqb _ _ a, ← eg, e, ← ep, ← eb)

      pub dangle_none : (g ≡ 3 → ⊥) → (g ≡ 5 → ⊥) → false ≡ dangling f cells blocks s n o
      unfolding dangling
      dangle_none b c = simp (ne_eqb _ _ a, ← eg, ne_eqb _ _ b, ne_eqb _ _ c)

pub ruleset cells = (cell_yes, cell_no)

pub ruleset danglings = (dangle_shape, dangle_cell, dangle_step, dangle_none)

-- where the sweep begins
module _ (s : List ℕ) (t : Outline) (u : Outlined s t) where
  same_kinds : (i : ℕ) → is_cell_shape_in t.shapes i ≡ has_cell_shape (parse s) i
  unfolding outline_of parse
  same_kinds i =
      ap (λ (x : Shape). eqb x.kind 18)
      (ap (λ (t : Outline). shape_in t.shapes i) u.is
      ∙ shape_get (map (shape_at s) (shapes_of s)) (128 - length (shapes_table (map (shape_at s) (shapes_of s)))) i)

  pub name_start : (shapes : List ℕ) (cells blocks : ℕ) → shapes ≡ t.shapes → cells ≡ t.counts.cells → blocks ≡ t.counts.blocks
      → dangles (is_cell_shape_in shapes) cells blocks s 0 (records_from s 0) ≡ name_fault s
  unfolding name_fault outline_of parse
  name_start shapes cells blocks es ec eb =
      let x : cells ≡ length (map (declared_at s) (cells_of s)) = ec ∙ ap (λ (t : Outline). t.counts.cells) u.is ∙ sym (length-map (cells_of s) (declared_at s)) in
      let y : blocks ≡ length (map (block_at s) (blocks_of s)) = eb ∙ ap (λ (t : Outline). t.counts.blocks) u.is ∙ sym (length-map (blocks_of s) (block_at s)) in
      let z : is_cell_shape_in t.shapes ≡ has_cell_shape (parse s) = fun_ext same_kinds in
      rw (es, x, y, z) refl
