-- The outline, as the loop gathers it: what it holds when the loop has come to an offset.
--     Gathered, gather_start                       the invariant, and the start
--     shape_room, .., gather_shape, ..             a record of each group
--     gather_end                                   the end of the book
-- Assumes nothing.
use mathlib.Core.Path.{◌≡◌, refl, sym, ap, ◌∙◌}
use mathlib.Core.List.{List, [], ◌∷◌, ◌++◌, map, map-id}
use Prim.Native.Nat.{ℕ, ◌+◌, ◌-◌, ◌*◌, ◌≤◌, ◌<◌}
use native.Mathlib.Omega.{arith}
use lib.ListN.{length, set, take, drop}
use mir.Val.{Fits}
use mir.Syntax.{w64}
use Rattle.labels.specs.Labels.{label}
use Rattle.book.specs.declared.Shape.{Shape}
use Rattle.book.specs.declared.Counts.{Counts}
use Rattle.book.specs.declared.Skipped.{Skipped}
use Rattle.book.specs.Control.{those}
use Rattle.book.specs.Kinds.{group}
use Rattle.book.specs.Records.{byte_at, next, records_from, in_group}
use Rattle.book.specs.Book.{group_of, steps_from, shape_at}
use Rattle.book.specs.Outline.{steps_end, shape_bytes, bound_at, start_at, length_at, step_count, outline_of, no_counts}
use Rattle.book.specs.Asked.{Whole, Small, Blank, drawn, skipped}
use Rattle.book.proofs.Groups.{block_span}
use Rattle.book.proofs.Records.{records_end, walk}
use Rattle.book.proofs.Filled.{Filled, fill_start, fill_room, fill_push, fill_end}
use Rattle.book.proofs.ShapeTable.{Tabled, table_start, table_sized, table_room, table_push, table_end}
use Rattle.book.proofs.Past.{those_hit, those_miss, PastSteps, past_steps, those_past}
use Rattle.book.proofs.Limits.{most_shapes, most_cells, most_blocks}

-- the records of group g from o on
abbrev ahead : List ℕ → ℕ → ℕ → List ℕ
ahead s g o = those (in_group s g) (records_from s o)

abbrev same : ℕ → ℕ
same o = o

abbrev shaped_at : List ℕ → ℕ → ℕ
shaped_at s o = byte_at s (o + 1)

pub record Gathered (s : List ℕ) (o : ℕ) (shapes offsets shaped bounds starts lengths : List ℕ) (n : Counts) : Type 0 where
  pub inside : o ≤ length s
  pub whole : Whole s o
  pub shapes_are : Tabled s (group_of s 2) (ahead s 2 o) n.shapes shapes
  pub offsets_are : Filled 0 32 same (group_of s 3) (ahead s 3 o) n.cells offsets
  pub shaped_are : Filled 0 32 (shaped_at s) (group_of s 3) (ahead s 3 o) n.cells shaped
  pub bounds_are : Filled 0 64 (bound_at s) (group_of s 4) (ahead s 4 o) n.blocks bounds
  pub starts_are : Filled 0 64 start_at (group_of s 4) (ahead s 4 o) n.blocks starts
  pub lengths_are : Filled 0 64 (length_at s) (group_of s 4) (ahead s 4 o) n.blocks lengths
  pub steps : n.steps + step_count s (ahead s 4 o) ≡ step_count s (group_of s 4)
  pub few : n.steps ≤ o

pub gather_start : (s shapes offsets shaped bounds starts lengths : List ℕ) (n : Counts) → Small s → Blank shapes offsets shaped bounds starts lengths → n ≡ no_counts
    → Gathered s 0 shapes offsets shaped bounds starts lengths n
unfolding group_of step_count
gather_start s shapes offsets shaped bounds starts lengths n h b e =
    rw (e, b.no_shapes, b.no_offsets, b.no_shaped, b.no_bounds, b.no_starts, b.no_lengths)
    (record {
      inside = omega arith;
      whole = h.whole;
      shapes_are = table_start s (group_of s 2);
      offsets_are = fill_start 0 32 same (group_of s 3);
      shaped_are = fill_start 0 32 (shaped_at s) (group_of s 3);
      bounds_are = fill_start 0 64 (bound_at s) (group_of s 4);
      starts_are = fill_start 0 64 start_at (group_of s 4);
      lengths_are = fill_start 0 64 (length_at s) (group_of s 4);
      steps = omega arith;
      few = omega arith;
    })

module _ (s : List ℕ) (o : ℕ) (shapes offsets shaped bounds starts lengths : List ℕ) (n : Counts)
    (k : Gathered s o shapes offsets shaped bounds starts lengths n) (m : Small s) (h : o < length s) (g : ℕ) (eg : g ≡ group (byte_at s o)) where
  -- a record of another group leaves what is ahead of group f
  miss : (f : ℕ) → (g ≡ f → ⊥) → ahead s f o ≡ ahead s f (next s o)
  miss f d = those_miss s f o k.whole h (λ z. d (eg ∙ z))

  hit : (f : ℕ) → g ≡ f → ahead s f o ≡ o ∷ ahead s f (next s o)
  hit f e = those_hit s f o k.whole h (sym eg ∙ e)

  other : (a f : ℕ) → g ≡ a → (a ≡ f → ⊥) → (g ≡ f → ⊥)
  other a f e d z = d (sym e ∙ z)

  pub shape_room : g ≡ 2 → n.shapes < 32
  shape_room e = table_room s (group_of s 2) _ _ _ o (most_shapes s m.few) (rw (hit 2 e) at k.shapes_are)

  pub shape_sized : length shapes ≡ 128
  shape_sized = table_sized s _ _ _ _ k.shapes_are

  pub cell_room : g ≡ 3 → n.cells < 32
  cell_room e = fill_room 0 32 same (group_of s 3) _ _ _ o (most_cells s m.few) (rw (hit 3 e) at k.offsets_are)

  pub block_room : g ≡ 4 → n.blocks < 64
  block_room e = fill_room 0 64 (bound_at s) (group_of s 4) _ _ _ o (most_blocks s m.few) (rw (hit 4 e) at k.bounds_are)

  -- past the record, at p
  module _ (p : ℕ) (ep : p ≡ next s o) where
    inside_next : p ≤ length s
    inside_next = rw ep (walk s o k.whole h).inside

    whole_next : Whole s p
    whole_next = rw ep (walk s o k.whole h).rest

    few_next : n.steps ≤ p
    few_next = let w = walk s o k.whole h in omega (arith, k.few)

    -- a record that is no block leaves the steps that are counted
    same_steps : (g ≡ 4 → ⊥) → n.steps + step_count s (ahead s 4 p) ≡ step_count s (group_of s 4)
    same_steps d = rw ep (rw (miss 4 d) at k.steps)

    -- and one that is not of group f leaves the array of group f
    module _ {A : Type 0} (d : A) (most : ℕ) (entry : ℕ → A) (f i : ℕ) (arr : List A) where
      kept : (g ≡ f → ⊥) → Filled d most entry (group_of s f) (ahead s f o) i arr → Filled d most entry (group_of s f) (ahead s f p) i arr
      kept e x = rw ep (rw (miss f e) at x)

      pushed : g ≡ f → length (group_of s f) ≤ most → (after : List A) → after ≡ set arr i (entry o) → Filled d most entry (group_of s f) (ahead s f o) i arr
          → Filled d most entry (group_of s f) (ahead s f p) (i + 1) after
      pushed e l after ea y = rw (ep, ea) (fill_push d most entry (group_of s f) (ahead s f (next s o)) i arr o l (rw (hit f e) at y))

    keep_shapes : (g ≡ 2 → ⊥) → Tabled s (group_of s 2) (ahead s 2 p) n.shapes shapes
    keep_shapes e = rw ep (rw (miss 2 e) at k.shapes_are)

    pub gather_shape : (x : Shape) (table : List ℕ) → g ≡ 2 → x ≡ shape_at s o
        → table ≡ take (4 * n.shapes) shapes ++ shape_bytes x ++ drop (4 * n.shapes + 4) shapes
        → Gathered s p table offsets shaped bounds starts lengths (record { shapes = n.shapes + 1; cells = n.cells; blocks = n.blocks; steps = n.steps })
    gather_shape x table e ex et =
        let c = other 2 3 e (λ z. omega arith) in
        let b = other 2 4 e (λ z. omega arith) in
        record {
          inside = inside_next;
          whole = whole_next;
          shapes_are = rw ep (table_push s (group_of s 2) (ahead s 2 (next s o)) n.shapes shapes o x table (most_shapes s m.few) ex et (rw (hit 2 e) at k.shapes_are));
          offsets_are = kept 0 32 same 3 _ _ c k.offsets_are;
          shaped_are = kept 0 32 (shaped_at s) 3 _ _ c k.shaped_are;
          bounds_are = kept 0 64 (bound_at s) 4 _ _ b k.bounds_are;
          starts_are = kept 0 64 start_at 4 _ _ b k.starts_are;
          lengths_are = kept 0 64 (length_at s) 4 _ _ b k.lengths_are;
          steps = same_steps b;
          few = few_next;
        }

    pub gather_cell : (offsets' shaped' : List ℕ) → g ≡ 3 → offsets' ≡ set offsets n.cells o → shaped' ≡ set shaped n.cells (byte_at s (o + 1))
        → Gathered s p shapes offsets' shaped' bounds starts lengths (record { shapes = n.shapes; cells = n.cells + 1; blocks = n.blocks; steps = n.steps })
    gather_cell offsets' shaped' e ec es =
        let b = other 3 4 e (λ z. omega arith) in
        record {
          inside = inside_next;
          whole = whole_next;
          shapes_are = keep_shapes (other 3 2 e (λ z. omega arith));
          offsets_are = pushed 0 32 same 3 _ _ e (most_cells s m.few) _ ec k.offsets_are;
          shaped_are = pushed 0 32 (shaped_at s) 3 _ _ e (most_cells s m.few) _ es k.shaped_are;
          bounds_are = kept 0 64 (bound_at s) 4 _ _ b k.bounds_are;
          starts_are = kept 0 64 start_at 4 _ _ b k.starts_are;
          lengths_are = kept 0 64 (length_at s) 4 _ _ b k.lengths_are;
          steps = same_steps b;
          few = few_next;
        }

    pub gather_other : (g ≡ 2 → ⊥) → (g ≡ 3 → ⊥) → (g ≡ 4 → ⊥) → Gathered s p shapes offsets shaped bounds starts lengths n
    gather_other a c b =
        record {
          inside = inside_next;
          whole = whole_next;
          shapes_are = keep_shapes a;
          offsets_are = kept 0 32 same 3 _ _ c k.offsets_are;
          shaped_are = kept 0 32 (shaped_at s) 3 _ _ c k.shaped_are;
          bounds_are = kept 0 64 (bound_at s) 4 _ _ b k.bounds_are;
          starts_are = kept 0 64 start_at 4 _ _ b k.starts_are;
          lengths_are = kept 0 64 (length_at s) 4 _ _ b k.lengths_are;
          steps = same_steps b;
          few = few_next;
        }

    -- a block, and past its steps
    module _ (r : Skipped) (e : g ≡ 4) (er : r ≡ skipped s p) where
      two : p ≡ o + 2
      two = ep ∙ ap (λ (n : ℕ). o + n) (block_span (byte_at s o) (sym eg ∙ e))

      steps_behind : PastSteps s p
      steps_behind = past_steps s p whole_next inside_next

      end_is : r.at ≡ steps_end s p
      end_is = ap (λ (x : Skipped). x.at) er

      count_is : r.count ≡ length (steps_from s p)
      count_is = ap (λ (x : Skipped). x.count) er

      past : (f : ℕ) → (f ≡ 5 → ⊥) → ahead s f p ≡ ahead s f r.at
      past f d = those_past s f d p whole_next inside_next ∙ ap (ahead s f) (sym end_is)

      pub block_before : o ≤ p
      block_before = omega (arith, two)

      pub block_after : p ≤ r.at
      block_after = omega (arith, steps_behind.bytes, end_is)

      pub block_inside : r.at ≤ 32768
      block_inside = omega (arith, steps_behind.inside, end_is, m.short)

      steps_fit : n.steps + r.count ≤ r.at
      steps_fit = omega (arith, steps_behind.bytes, end_is, count_is, two, k.few)

      pub steps_word : Fits w64 (n.steps + r.count)
      steps_word = record { fits = omega (arith, steps_fit, block_inside) }

      pub block_falls : length s - r.at < length s - o
      block_falls = omega (arith, steps_behind.bytes, end_is, two)

      counted_on : n.steps + r.count + step_count s (ahead s 4 r.at) ≡ step_count s (group_of s 4)
      unfolding step_count
      counted_on =
          let a : n.steps + (length (steps_from s (o + 2)) + step_count s (ahead s 4 (next s o))) ≡ step_count s (group_of s 4) = rw (hit 4 e) at k.steps in
          let b : ahead s 4 (next s o) ≡ ahead s 4 r.at = ap (ahead s 4) (sym ep) ∙ past 4 (λ z. omega arith) in
          let c : length (steps_from s (o + 2)) ≡ r.count = ap (λ (i : ℕ). length (steps_from s i)) (sym two) ∙ sym count_is in
          let d = rw (b, c) at a in
          omega (arith, d)

      length_is : r.at - p ≡ length_at s o
      unfolding length_at
      length_is = rw (end_is, two) refl

      pub gather_block : (bounds' starts' lengths' : List ℕ) → bounds' ≡ set bounds n.blocks (byte_at s (o + 1)) → starts' ≡ set starts n.blocks p
          → lengths' ≡ set lengths n.blocks (r.at - p)
          → Gathered s r.at shapes offsets shaped bounds' starts' lengths'
          (record { shapes = n.shapes; cells = n.cells; blocks = n.blocks + 1; steps = n.steps + r.count })
      gather_block bounds' starts' lengths' eb es el =
          let c = other 4 3 e (λ z. omega arith) in
          let l = most_blocks s m.few in
          record {
            inside = rw end_is steps_behind.inside;
            whole = rw end_is steps_behind.whole;
            shapes_are = rw (past 2 (λ z. omega arith)) at (keep_shapes (other 4 2 e (λ z. omega arith)));
            offsets_are = rw (past 3 (λ z. omega arith)) at (kept 0 32 same 3 _ _ c k.offsets_are);
            shaped_are = rw (past 3 (λ z. omega arith)) at (kept 0 32 (shaped_at s) 3 _ _ c k.shaped_are);
            bounds_are = rw (past 4 (λ z. omega arith)) at (pushed 0 64 (bound_at s) 4 _ _ e l _ eb k.bounds_are);
            starts_are = rw (past 4 (λ z. omega arith)) at (pushed 0 64 start_at 4 _ _ e l _ (es ∙ ap (set starts n.blocks) two) k.starts_are);
            lengths_are = rw (past 4 (λ z. omega arith)) at (pushed 0 64 (length_at s) 4 _ _ e l _ (el ∙ ap (set lengths n.blocks) length_is) k.lengths_are);
            steps = counted_on;
            few = steps_fit;
          }

-- the end of the book
pub gather_end : (s : List ℕ) (o : ℕ) (shapes offsets shaped bounds starts lengths : List ℕ) (n : Counts)
    → Gathered s o shapes offsets shaped bounds starts lengths n → length s ≤ o → drawn s n shapes offsets shaped bounds starts lengths ≡ outline_of s
unfolding outline_of those step_count
gather_end s o shapes offsets shaped bounds starts lengths n k h =
    let none : (f : ℕ) → ahead s f o ≡ [] = λ f. ap (those (in_group s f)) (records_end s o h) in
    let x = table_end s (group_of s 2) [] n.shapes shapes (rw (none 2) at k.shapes_are) in
    let y = fill_end 0 32 same (group_of s 3) [] n.cells offsets (rw (none 3) at k.offsets_are) in
    let u = fill_end 0 32 (shaped_at s) (group_of s 3) [] n.cells shaped (rw (none 3) at k.shaped_are) in
    let z = fill_end 0 64 (bound_at s) (group_of s 4) [] n.blocks bounds (rw (none 4) at k.bounds_are) in
    let v = fill_end 0 64 start_at (group_of s 4) [] n.blocks starts (rw (none 4) at k.starts_are) in
    let w = fill_end 0 64 (length_at s) (group_of s 4) [] n.blocks lengths (rw (none 4) at k.lengths_are) in
    let i : map same (group_of s 3) ≡ group_of s 3 = map-id (group_of s 3) in
    let q : n.steps ≡ step_count s (group_of s 4) = omega (arith, rw (none 4) at k.steps) in
    simp (x.0, y.0, u.0, z.0, v.0, w.0, i, ← q, ← x.1, ← y.1, ← z.1)

-- b is the byte that says C
pub outline_drawn : (s shapes offsets shaped bounds starts lengths : List ℕ) (n : Counts) (b : ℕ) → drawn s n shapes offsets shaped bounds starts lengths ≡ outline_of s → b ≡ byte_at s 1
    → record { c = label b; counts = n; shapes = shapes; offsets = offsets; shaped = shaped; bounds = bounds; starts = starts; lengths = lengths } ≡ outline_of s
outline_drawn s shapes offsets shaped bounds starts lengths n b e eb = rw eb e

pub ruleset gathers = (gather_start, gather_shape, gather_cell, gather_other, gather_block, gather_end)

pub ruleset rooms = (shape_room, shape_sized, cell_room, block_room, block_before, block_after, block_inside, steps_word, block_falls)
