-- Tables whose rows are sound are sound tables.
--     Sound              what the quick test finds of each table
--     sound_through      no stage finds a row of such tables at fault
--     sound              Sound to SoundTables
-- Assumes nothing.
use mathlib.Core.Path.{◌≡◌, refl, sym, ap, subst, ◌∙◌}
use mathlib.Core.Bool.{Bool, true, false}
use mathlib.Core.List.{List, [], ◌∷◌, ◌++◌, map, append-nil}
use Prim.Native.Nat.{ℕ, suc, ◌+◌, ◌<◌, ◌≤◌, min}
use native.Mathlib.Omega.{arith}
use lib.ListN.{length, get_or, get_or-map, take, drop, length-map, length-drop, take-append-drop}
use lib.Seq.{length-take-le}
use borrow.Author.Tests.{le-ltb, le-leb, eq-eqb}
use Rattle.std.specs.Prelude.{None}
use Rattle.book.specs.declared.Tally.{Tally}
use Rattle.book.specs.declared.Shape.{Shape}
use Rattle.book.specs.Kinds.{span, group}
use Rattle.book.specs.Book.{group_of, shape_at, parse}
use Rattle.book.specs.Refusals.{in_order, order_fault, no_tally, counted, too_many, count_fault, range_fault, name_fault, no_shape, has_cell_shape}
use Rattle.book.proofs.Every.{All, all_each}
use Rattle.book.proofs.Stages.{in_later, many_steps}
use Rattle.rows.specs.Rows.{ShapeRow, CellRow, BlockRow, StepRow, BookTables, Row, c_row, shape_row, cell_row, block_row, step_row, block_rows, rows, packed_rows, bytes_of, total}
use Rattle.rows.specs.Write.{unknown_fault}
use Rattle.rows.proofs.ByKind.{by_kind}
use Rattle.rows.proofs.Packs.{known, rows_sized, all_front, all_behind, of_rows}
use Rattle.rows.proofs.Seen.{row_group, cell_group_lem, viewed, shape_views, seen, Tells, seen_keys}
use Rattle.rows.proofs.ReadRows.{shape_part, cell_part, block_part, IsKnown, shape_of, shapes_known, blocks_known, read, past_shapes, past_cells, past_blocks, seen_long, blocks_long}
use Rattle.vetting.specs.Asked.{SoundTables, CellShape, ShapeSound, CellSound, BlockSound, StepSound, Each, ShapesSound, CellsSound, BlocksSound, StepsSound}
use Rattle.vetting.proofs.Passes.{Through, through_known, through_swept}
use Rattle.vetting.proofs.RowsPass.{Sits, c_sits, shape_sits, block_sits, cell_sits, step_sits}

pub record Sound (t : BookTables) : Type 0 where
  pub c : t.c.0 ≤ 14
  pub shapes : ShapesSound t.shapes
  pub cells : CellsSound t.cells t.shapes (length t.blocks)
  pub blocks : BlocksSound t.blocks (length t.steps)
  pub steps : StepsSound t.steps t.shapes (length t.cells) (length t.blocks)

-- what is said of each row, whatever its number
each_all : {A : Type 0} (P : A → Type 0) (i : ℕ) (l : List A) → Each (λ i r. P r) i l → All P l
each_all P i [] h = tt
each_all P i (r ∷ l) h = (h.0, each_all P (suc i) l h.1)

abbrev tally : ℕ → ℕ → ℕ → ℕ → Tally
tally a b j k = record { shapes = a; cells = b; blocks = j; steps = k }

few_all : (a b j k : ℕ) → a ≤ 32 → b ≤ 32 → j ≤ 64 → k ≤ 64 → too_many (tally a b j k) ≡ false
few_all a b j k ha hb hj hk = sym (many_steps (tally a b j k) ha hb hj) ∙ le-ltb 64 k hk

order_later : (p g : ℕ) → 1 ≤ p → p ≤ g → 1 < g → g ≤ 4 → in_order p g ≡ true
order_later p g a b c d = sym (in_later p g (λ e. omega arith) (λ e. omega arith) c) ∙ le-leb p g b

-- in a book of these cell shapes, and of so many cells and blocks
module _ (is_cell_shape : ℕ → Bool) (cells blocks : ℕ) where
  row_on : (g p : ℕ) (n m : Tally) (r : Row) (rs : List Row) → Sits is_cell_shape cells blocks g n.shapes r → in_order p g ≡ true → counted n g ≡ m → too_many m ≡ false
      → Through is_cell_shape cells blocks (min g 4) m rs → Through is_cell_shape cells blocks p n (r ∷ rs)
  row_on g p n m r rs s o e f h =
      (record { known = s.known; ordered = rw s.of o; few = rw (s.of, e) f; narrow = s.narrow; named = s.named }, rw (s.of, e) h)

  shapes_through : (l : List ShapeRow) (rest : List Row) (p a : ℕ) → 1 ≤ p → p ≤ 2 → a + length l ≤ 32
      → Each (λ i (r : ShapeRow). ShapeSound i r.kind r.x r.y) a l
      → ((q : ℕ) → 1 ≤ q → q ≤ 2 → Through is_cell_shape cells blocks q (tally (a + length l) 0 0 0) rest)
      → Through is_cell_shape cells blocks p (tally a 0 0 0) (map shape_row l ++ rest)
  unfolding counted
  shapes_through [] rest p a u v h e k = let z : a + 0 ≡ a = omega arith in rw z at (k p u v)
  shapes_through (r ∷ l) rest p a u v h e k =
      let z : a + suc (length l) ≡ suc a + length l = omega arith in
      row_on 2 p (tally a 0 0 0) (tally (suc a) 0 0 0) (shape_row r) (map shape_row l ++ rest) (shape_sits is_cell_shape cells blocks a r (omega arith) e.0)
      (order_later p 2 u v (omega arith) (omega arith)) (ap (λ m. tally m 0 0 0) (omega arith))
      (few_all (suc a) 0 0 0 (omega arith) (omega arith) (omega arith) (omega arith))
      (shapes_through l rest 2 (suc a) (omega arith) (omega arith) (omega arith) e.1 (λ q s t. rw z at (k q s t)))

  module _ (shapes : List ShapeRow) (shaped : (i : ℕ) → CellShape shapes i → is_cell_shape i ≡ true) (few_shapes : length shapes ≤ 32) (few_cells : cells ≤ 32)
      (few_blocks : blocks ≤ 64) (a : ℕ) (ha : a ≤ 32) where
    cells_through : (l : List CellRow) (rest : List Row) (p b : ℕ) → 1 ≤ p → p ≤ 3 → b + length l ≤ 32 → All (CellSound shapes cells blocks) l
        → ((q : ℕ) → 1 ≤ q → q ≤ 3 → Through is_cell_shape cells blocks q (tally a (b + length l) 0 0) rest)
        → Through is_cell_shape cells blocks p (tally a b 0 0) (map cell_row l ++ rest)
    unfolding counted
    cells_through [] rest p b u v h e k = let z : b + 0 ≡ b = omega arith in rw z at (k p u v)
    cells_through (r ∷ l) rest p b u v h e k =
        let z : b + suc (length l) ≡ suc b + length l = omega arith in
        row_on 3 p (tally a b 0 0) (tally a (suc b) 0 0) (cell_row r) (map cell_row l ++ rest)
        (cell_sits is_cell_shape cells blocks shapes shaped few_shapes few_cells few_blocks a r e.0)
        (order_later p 3 u v (omega arith) (omega arith)) (ap (λ m. tally a m 0 0) (omega arith)) (few_all a (suc b) 0 0 ha (omega arith) (omega arith) (omega arith))
        (cells_through l rest 3 (suc b) (omega arith) (omega arith) (omega arith) e.1 (λ q s t. rw z at (k q s t)))

    module _ (b : ℕ) (hb : b ≤ 32) where
      abbrev StepFine : StepRow → Type 0
      StepFine r = StepSound shapes cells blocks r.kind r.x r.y r.z

      steps_through : (l : List StepRow) (rest : List Row) (j k : ℕ) → j ≤ 64 → k + length l ≤ 64 → All StepFine l
          → Through is_cell_shape cells blocks 4 (tally a b j (k + length l)) rest → Through is_cell_shape cells blocks 4 (tally a b j k) (map step_row l ++ rest)
      unfolding counted in_order
      steps_through [] rest j k hj h e t = let z : k + 0 ≡ k = omega arith in rw z at t
      steps_through (r ∷ l) rest j k hj h e t =
          let z : k + suc (length l) ≡ suc k + length l = omega arith in
          row_on 5 4 (tally a b j k) (tally a b j (suc k)) (step_row r) (map step_row l ++ rest)
          (step_sits is_cell_shape cells blocks shapes shaped few_shapes few_cells few_blocks a r e.0) refl (ap (λ m. tally a b j m) (omega arith))
          (few_all a b j (suc k) ha hb hj (omega arith)) (steps_through l rest j (suc k) hj (omega arith) e.1 (rw z at t))

      blocks_through : (bs : List BlockRow) (ss : List StepRow) (p j k : ℕ) → 1 ≤ p → p ≤ 4 → (length bs ≡ 0 → p ≡ 4) → j + length bs ≤ 64
          → total bs ≡ length ss → All BlockSound bs → All StepFine ss → Through is_cell_shape cells blocks p (tally a b j k) (block_rows bs ss)
      unfolding counted block_rows total
      blocks_through [] [] p j k u v n h e f g = n refl
      blocks_through [] (s ∷ ss) p j k u v n h e f g = absurd (omega arith)
      blocks_through (r ∷ bs) ss p j k u v n h e f g =
          let front = take r.steps ss in
          let behind = drop r.steps ss in
          let m = length-take-le r.steps ss (omega arith) in
          let q = subst (All StepFine) (sym (take-append-drop r.steps ss)) g in
          row_on 4 p (tally a b j k) (tally a b (suc j) 0) (block_row r) (map step_row front ++ block_rows bs behind)
          (block_sits is_cell_shape cells blocks a r f.0) (order_later p 4 u v (omega arith) (omega arith)) (ap (λ m. tally a b m 0) (omega arith))
          (few_all a b (suc j) 0 ha hb (omega arith) (omega arith))
          (steps_through front (block_rows bs behind) (suc j) 0 (omega arith) (omega (arith, f.0.short)) (all_front StepFine front behind q)
          (blocks_through bs behind 4 (suc j) (0 + length front) (omega arith) (omega arith) (λ z. refl) (omega arith) (omega (arith, length-drop r.steps ss)) f.1
          (all_behind StepFine front behind q)))

pub sound_through : (t : BookTables) → Sound t → (is_cell_shape : ℕ → Bool) → ((i : ℕ) → CellShape t.shapes i → is_cell_shape i ≡ true)
    → Through is_cell_shape (length t.cells) (length t.blocks) 0 no_tally (rows t)
unfolding rows counted in_order
sound_through t h is_cell_shape shaped =
    let n = length t.cells in
    let m = length t.blocks in
    let a = h.shapes.few in
    let b = h.cells.few in
    let d = h.blocks.few in
    row_on is_cell_shape n m 1 0 no_tally no_tally (c_row t.c) (shape_part t) (c_sits is_cell_shape n m t.c h.c) refl refl
    (few_all 0 0 0 0 (omega arith) (omega arith) (omega arith) (omega arith))
    (shapes_through is_cell_shape n m t.shapes (cell_part t) 1 0 (omega arith) (omega arith) (omega arith) h.shapes.each
    (λ p u v. cells_through is_cell_shape n m t.shapes shaped a b d (0 + length t.shapes) (omega arith) t.cells (block_part t) p 0 u (omega arith) (omega arith)
    (each_all (CellSound t.shapes n m) 0 t.cells h.cells.each)
    (λ q k l. blocks_through is_cell_shape n m t.shapes shaped a b d (0 + length t.shapes) (omega arith) (0 + n) (omega arith) t.blocks t.steps q 0 0 k (omega arith)
    (λ z. absurd (omega (arith, h.blocks.some))) (omega arith) h.blocks.counted
    (each_all BlockSound 0 t.blocks h.blocks.each) (each_all _ 0 t.steps h.steps.each))))

-- a record is one, whatever it says
abbrev mark : List ℕ → ℕ → Unit {0}
mark s o = tt

abbrev marked : Row → List Row → Unit {0}
marked r rs = tt

abbrev kind_of_shape : Shape → ℕ
kind_of_shape x = x.kind

abbrev kind_of_row : ShapeRow → ℕ
kind_of_row r = r.kind

-- a shape has its row's kind
kind_kept : (k : ℕ) → group k ≡ 2 → (x y : ℕ) (rest : List ℕ) → (shape_at (take (span k) (k ∷ x ∷ y ∷ []) ++ rest) 0).kind ≡ k
unfolding span shape_at
kind_kept =
    by_kind (λ k. (x y : ℕ) (rest : List ℕ) → (shape_at (take (span k) (k ∷ x ∷ y ∷ []) ++ rest) 0).kind ≡ k) 2 (omega arith)
    (λ x y rest. refl, (λ x y rest. refl, (λ x y rest. refl, tt)))

kind_tells : (r : ShapeRow) → IsKnown (shape_row r) → Tells 2 shape_at (viewed shape_at) shape_row kind_of_row kind_of_shape r
kind_tells r e =
    let fields = r.x ∷ r.y ∷ [] in
    let w = known 2 r.kind fields e in
    record { of = shape_of r e; same = λ rs. rw w.bytes (kind_kept r.kind w.of r.x r.y (packed_rows rs)) }

-- what is read of tables whose rows are known
module _ (t : BookTables) (all : unknown_fault (rows t) ≡ None) where
  abbrev s : List ℕ
  s = bytes_of t

  group_long : (g : ℕ) → (1 ≡ g → ⊥) → length (group_of s g) ≡ length (seen g mark marked (shape_part t))
  group_long g n = sym (length-map (group_of s g) _) ∙ ap length (read t all g mark marked (λ pre r rs e h. refl) n)

  cells_read : length (parse s).cells ≡ length t.cells
  unfolding parse seen
  cells_read =
      length-map (group_of s 3) _ ∙ group_long 3 (λ e. omega arith) ∙ ap length (past_shapes t all 3 mark marked (λ e. omega arith))
      ∙ seen_long 3 mark marked cell_row t.cells (block_part t) (all_each (λ a. row_group (cell_row a) ≡ 3) cell_group_lem t.cells)
      ∙ rw (past_blocks t all 3 mark marked (λ e. omega arith) (λ e. omega arith)) (omega arith)

  blocks_read : length (parse s).blocks ≡ length t.blocks
  unfolding parse
  blocks_read =
      length-map (group_of s 4) _ ∙ group_long 4 (λ e. omega arith) ∙ ap length (past_shapes t all 4 mark marked (λ e. omega arith))
      ∙ ap length (past_cells t all 4 mark marked (λ e. omega arith))
      ∙ blocks_long mark marked t.blocks t.steps (blocks_known t all)

  kinds_read : map kind_of_shape (parse s).shapes ≡ map kind_of_row t.shapes
  unfolding parse
  kinds_read =
      ap (map kind_of_shape) (read t all 2 shape_at (viewed shape_at) shape_views (λ e. omega arith))
      ∙ seen_keys 2 shape_at (viewed shape_at) shape_row kind_of_row kind_of_shape t.shapes (cell_part t)
      (of_rows IsKnown shape_row (Tells 2 shape_at (viewed shape_at) shape_row kind_of_row kind_of_shape) kind_tells t.shapes (shapes_known t all))
      ∙ ap (λ (l : List Shape). map kind_of_row t.shapes ++ map kind_of_shape l)
      (past_cells t all 2 shape_at (viewed shape_at) (λ e. omega arith) ∙ past_blocks t all 2 shape_at (viewed shape_at) (λ e. omega arith) (λ e. omega arith))
      ∙ append-nil (map kind_of_row t.shapes)

  shape_read : (i : ℕ) → CellShape t.shapes i → has_cell_shape (parse s) i ≡ true
  shape_read i h = eq-eqb _ 18 (sym (get_or-map kind_of_shape (parse s).shapes i no_shape) ∙ ap (λ (l : List ℕ). get_or l i 0) kinds_read ∙ h.is)

pub sound : (t : BookTables) → Sound t → SoundTables t
unfolding order_fault count_fault range_fault name_fault
sound t h =
    let k = through_known (λ i. true) (length t.cells) (length t.blocks) (rows t) 0 0 no_tally (sound_through t h (λ i. true) (λ i c. refl)) in
    let K = parse (bytes_of t) in
    let w = through_swept (has_cell_shape K) (length t.cells) (length t.blocks) (rows t) [] 0 no_tally (rows_sized t k)
    (sound_through t h (has_cell_shape K) (shape_read t k)) in
    record {
      counted = eq-eqb _ _ h.blocks.counted;
      known = k;
      ordered = w.ordered;
      few = w.few;
      narrow = w.narrow;
      named = rw (cells_read t k, blocks_read t k) w.named;
    }
