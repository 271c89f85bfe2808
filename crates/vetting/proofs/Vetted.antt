-- Laws of the tests of a table: what is found of the bytes of each row is so of the rows.
--     all_passed                         what `all` found of each item
--     Chunk, rows_of, each_of            the bytes of a row; the rows of lent bytes; each row
--     ShapePasses, shapes_sound, ..      what is found of the bytes of a row; the table
--     BlocksUpto, blocks_start, ..       the loop over the blocks
--     shape_is                           a shape row is a cell shape
--     vetted                             the tables, where each is found sound
-- Assumes nothing.
use Rattle.std.proofs.Common.{◌≡◌, refl, sym, ap, ◌∙◌, Bool, true, List, [], ℕ, zero, suc, ◌+◌, ◌-◌, ◌*◌, ◌/◌, ◌<◌, ◌≤◌, Option}
use Rattle.std.proofs.Common.{arith, drop-cons, ◌∷◌, map, length, take, drop, get_or, add-zero, add-one, get_or-take, get_or-drop, below_more}
use Rattle.std.proofs.lemmas.List.{drop_all, drop-drop, get_or-map, length-map}
use denote.Param.Members.{Mut, Called}
use Rattle.std.specs.Iterator.{ChecksAll}
use Rattle.std.specs.List.{All, enumerate_from}
use Rattle.std.proofs.lemmas.Iterator.{YieldsList, cases_from_all}
use Rattle.std.specs.Simd.{first_chunks}
use Rattle.std.proofs.lemmas.List.FromFn.{length-enumerate_from, get_or-enumerate_from}
use Rattle.labels.specs.declared.Label.{Label}
use Rattle.book.specs.Records.{byte_at, number_at}
use Rattle.rows.specs.Rows.{ShapeRow, rows_from, shape_row_in, cell_row_in, block_row_in, step_row_in, shape_rows_in, cell_rows_in, block_rows_in, step_rows_in, tables_in, total}
use Rattle.vetting.specs.Asked.{shapes_of, cells_of, blocks_of, steps_of, SoundTables, CellShape, ShapeSound, CellSound, BlockSound, StepSound, Each, ShapesSound, CellsSound, BlocksSound, StepsSound}
use Rattle.vetting.proofs.TablesPass.{sound}

-- what `all` found of each item, where it answers true
pub all_passed : {S A B F : Type 0} {steps : S → Option A → S → Type 0} {v : A → B} {g : Mut F (A × Unit {0}) Bool} {s : S} {l : List B} (f : F) (r : Bool) (u : S) (P : B → Type 0)
    → ChecksAll steps g s f r u → YieldsList steps v s l → ((x : A) (q : F) → Called g f (x, tt) true q → (q ≡ f) × P (v x)) → r ≡ true → All P l
all_passed f r u P ran items one e = λ k d i. (rw e at (cases_from_all u f r P (λ x. Unit {0}) ran items one (λ x q h. tt))) k d (omega arith) i

-- c has the bytes of t from o on, w of them
record Chunk (w : ℕ) (t c : List ℕ) (o : ℕ) : Type 0 where
  has : (i k : ℕ) → i < w → k ≡ o + i → byte_at c i ≡ byte_at t k

chunk : (w : ℕ) (t : List ℕ) (o : ℕ) → Chunk w t (take w (drop o t)) o
chunk w t o = record { has = λ i k l e. get_or-take w (drop o t) i 0 l ∙ get_or-drop o t i 0 ∙ ap (byte_at t) (sym e) }

module _ (t c : List ℕ) (o : ℕ) where
  shape_in : Chunk 3 t c o → shape_row_in c 0 ≡ shape_row_in t o
  unfolding shape_row_in
  shape_in h = cc (h.has 0 o (omega arith) (omega arith), h.has 1 (o + 1) (omega arith) refl, h.has 2 (o + 2) (omega arith) refl)

  cell_in : Chunk 7 t c o → cell_row_in c 0 ≡ cell_row_in t o
  unfolding cell_row_in number_at
  cell_in h =
      cc (
        h.has 0 o (omega arith) (omega arith),
        h.has 1 (o + 1) (omega arith) refl,
        h.has 2 (o + 2) (omega arith) refl,
        h.has 3 (o + 3) (omega arith) refl,
        h.has 4 (o + 3 + 1) (omega arith) (omega arith),
        h.has 5 (o + 3 + 2) (omega arith) (omega arith),
        h.has 6 (o + 3 + 3) (omega arith) (omega arith),
      )

  block_in : Chunk 5 t c o → block_row_in c 0 ≡ block_row_in t o
  unfolding block_row_in number_at
  block_in h =
      cc (
        h.has 0 o (omega arith) (omega arith),
        h.has 1 (o + 1) (omega arith) refl,
        h.has 2 (o + 1 + 1) (omega arith) (omega arith),
        h.has 3 (o + 1 + 2) (omega arith) (omega arith),
        h.has 4 (o + 1 + 3) (omega arith) (omega arith),
      )

  step_in : Chunk 8 t c o → step_row_in c 0 ≡ step_row_in t o
  unfolding step_row_in number_at
  step_in h =
      cc (
        h.has 0 o (omega arith) (omega arith),
        h.has 1 (o + 1) (omega arith) refl,
        h.has 2 (o + 2) (omega arith) refl,
        h.has 3 (o + 3) (omega arith) refl,
        h.has 4 (o + 4) (omega arith) refl,
        h.has 5 (o + 4 + 1) (omega arith) (omega arith),
        h.has 6 (o + 4 + 2) (omega arith) (omega arith),
        h.has 7 (o + 4 + 3) (omega arith) (omega arith),
      )

-- the rows of lent bytes are those of its chunks
module _ {A : Type 0} (w : ℕ) (row : List ℕ → ℕ → A) (inside : (t c : List ℕ) (o : ℕ) → Chunk w t c o → row c 0 ≡ row t o) (t : List ℕ) where
  rows_of : (m a : ℕ) → rows_from (λ i. row t (i * w)) m a ≡ map (λ c. row c 0) (first_chunks w m (drop (a * w) t))
  unfolding rows_from
  rows_of zero a = refl
  rows_of (suc m) a =
      let o : a * w + w ≡ suc a * w = omega arith in
      let c = take w (drop (a * w) t) in
      rw (inside t c (a * w) (chunk w t (a * w)), drop-drop, o) (ap (λ l. row t (a * w) ∷ l) (rows_of m (suc a)))

-- each row of a table, from its bytes
each_of : {A B : Type 0} (P : ℕ → A → Type 0) (f : B → A) (d : B) (l : List B) (a : ℕ) → ((j : ℕ) → j < length l → P (a + j) (f (get_or l j d))) → Each P a (map f l)
each_of P f d [] a h = tt
each_of P f d (x ∷ l) a h = (rw add-zero at (h 0 (omega arith)), each_of P f d l (suc a) (λ j k. let z : a + suc j ≡ suc a + j = omega arith in rw z at (h (suc j) (omega arith))))

-- what the tests find of the bytes of a row
abbrev pub ShapePasses : ℕ × List ℕ → Type 0
ShapePasses p = let r = shape_row_in p.1 0 in ShapeSound p.0 r.kind r.x r.y

abbrev pub CellPasses : List ShapeRow → ℕ → ℕ → List ℕ → Type 0
CellPasses shapes cells blocks c = CellSound shapes cells blocks (cell_row_in c 0)

abbrev pub StepPasses : List ShapeRow → ℕ → ℕ → List ℕ → Type 0
StepPasses shapes cells blocks c = let r = step_row_in c 0 in StepSound shapes cells blocks r.kind r.x r.y r.z

pub shapes_sound : (l : List (List ℕ)) → length l ≤ 32 → All ShapePasses (enumerate_from 0 l) → ShapesSound (shapes_of l)
shapes_sound l few h =
    record {
      few = omega (arith, length-map l (λ r. shape_row_in r 0));
      each = each_of _ _ [] l 0 (λ j k. rw get_or-enumerate_from at (h j (0, []) (omega (arith, length-enumerate_from 0 l))));
    }

pub cells_sound : (l : List (List ℕ)) (shapes : List ShapeRow) (blocks : ℕ) → length l ≤ 32 → All (CellPasses shapes (length l) blocks) l → CellsSound (cells_of l) shapes blocks
cells_sound l shapes blocks few h = record { few = omega (arith, length-map l (λ r. cell_row_in r 0)); each = rw length-map (each_of _ _ [] l 0 (λ j k. h j [] k)) }

pub steps_sound : (l : List (List ℕ)) (shapes : List ShapeRow) (cells blocks : ℕ) → All (StepPasses shapes cells blocks) l → StepsSound (steps_of l) shapes cells blocks
steps_sound l shapes cells blocks h = record { each = each_of _ _ [] l 0 (λ j k. h j [] k) }

-- the blocks before the i-th are sound, and their counts and what is left make the steps
pub record BlocksUpto (l : List (List ℕ)) (steps left i : ℕ) : Type 0 where
  pub each : (j : ℕ) → j < i → BlockSound (block_row_in (get_or l j []) 0)
  pub counted : total (blocks_of l) + left ≡ total (blocks_of (drop i l)) + steps

pub blocks_start : (l : List (List ℕ)) (steps : ℕ) → BlocksUpto l steps steps 0
blocks_start l steps = record { each = λ j l. absurd (omega arith); counted = refl }

module _ (l : List (List ℕ)) (steps left i : ℕ) (k : BlocksUpto l steps left i) where
  -- the count of block i, and the rest
  taken : i < length l → total (blocks_of (drop i l)) ≡ (block_row_in (get_or l i []) 0).steps + total (blocks_of (drop (i + 1) l))
  unfolding total
  taken h = rw (drop-cons l i [], add-one) refl

  counted_on : (count : ℕ) → i < length l → count ≡ (block_row_in (get_or l i []) 0).steps → count ≤ left
      → total (blocks_of l) + (left - count) ≡ total (blocks_of (drop (i + 1) l)) + steps
  counted_on count h m g = omega (arith, taken h, k.counted)

  pub blocks_on : (count : ℕ) → i < length l → count ≡ number_at (get_or l i []) 1 → byte_at (get_or l i []) 0 ≤ 15 → count ≤ 64 → count ≤ left
      → BlocksUpto l steps (left - count) (i + 1)
  unfolding block_row_in
  blocks_on count h m b s g = record { each = below_more _ i k.each (record { bounded = b; short = rw m at s }); counted = counted_on count h m g }

  pub blocks_sound : 0 < length l → length l ≤ 64 → length l ≤ i → i ≤ length l → left ≡ 0 → BlocksSound (blocks_of l) steps
  unfolding total
  blocks_sound some few h g z =
      let m = length-map l (λ r. block_row_in r 0) in
      let q = rw (z, add-zero, drop_all i l h) at k.counted in
      record { some = omega arith; few = omega arith; each = each_of _ _ [] l 0 (λ j a. k.each j (omega arith)); counted = omega arith }

pub shape_is : (l : List (List ℕ)) (i : ℕ) → i < length l → byte_at (get_or l i []) 0 ≡ 18 → CellShape (shapes_of l) i
unfolding shape_row_in
shape_is l i h k =
    let none : ShapeRow = record { kind = 0; x = 0; y = 0 } in
    record {
      is =
          get_or-map (λ (r : ShapeRow). r.kind) (shapes_of l) i none 0 (omega (arith, length-map l (λ r. shape_row_in r 0)))
          ∙ ap (λ (r : ShapeRow). r.kind) (get_or-map (λ r. shape_row_in r 0) l i [] none h) ∙ k;
    }

-- all tables, each by its chunks
pub vetted : (c : Label) (shapes cells blocks steps : List ℕ) (s k b p : List (List ℕ)) → s ≡ first_chunks 3 (length shapes / 3) shapes
    → k ≡ first_chunks 7 (length cells / 7) cells → b ≡ first_chunks 5 (length blocks / 5) blocks → p ≡ first_chunks 8 (length steps / 8) steps
    → c.0 ≤ 14 → ShapesSound (shapes_of s) → CellsSound (cells_of k) (shapes_of s) (length b) → BlocksSound (blocks_of b) (length p)
    → StepsSound (steps_of p) (shapes_of s) (length k) (length b) → SoundTables (tables_in c shapes cells blocks steps)
vetted c shapes cells blocks steps s k b p es ek eb ep hc f g h i =
    let rs : shape_rows_in shapes ≡ shapes_of s = rw es (rows_of 3 shape_row_in shape_in shapes (length shapes / 3) 0) in
    let rk : cell_rows_in cells ≡ cells_of k = rw ek (rows_of 7 cell_row_in cell_in cells (length cells / 7) 0) in
    let rb : block_rows_in blocks ≡ blocks_of b = rw eb (rows_of 5 block_row_in block_in blocks (length blocks / 5) 0) in
    let rp : step_rows_in steps ≡ steps_of p = rw ep (rows_of 8 step_row_in step_in steps (length steps / 8) 0) in
    rw (rs, rk, rb, rp)
    (sound (record { c = c; shapes = shapes_of s; cells = cells_of k; blocks = blocks_of b; steps = steps_of p })
    (record { c = hc; shapes = f; cells = rw length-map g; blocks = rw length-map h; steps = rw (length-map k _, length-map b _) i }))
