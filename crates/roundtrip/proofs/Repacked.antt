-- Rows packed into lent bytes, and read from there, are the same rows.
--     Small           the numbers of the rows have 32 bits
--     same_tables     tables of such rows
-- Assumes nothing.
use mathlib.Core.Path.{◌≡◌, refl, sym, ap, ◌∙◌}
use mathlib.Core.List.{List, [], ◌∷◌, ◌++◌, append_assoc}
use Prim.Native.Nat.{ℕ, suc, ◌+◌, ◌*◌, ◌/◌, ◌%◌, ◌<◌}
use native.Mathlib.Omega.{arith}
use lib.ListN.{length, length-append}
use lib.Seq.{get_or-append-add, get_or-append_seam}
use Rattle.book.specs.Spans.{packed}
use Rattle.book.specs.Records.{byte_at, number_at, number_bytes}
use Rattle.book.proofs.Every.{All, all_each}
use Rattle.rows.specs.Rows.{BookTables, ShapeRow, CellRow, BlockRow, StepRow, rows_from, shape_row_in, cell_row_in, block_row_in, step_row_in, shape_rows_in, cell_rows_in, block_rows_in, step_rows_in}
use Rattle.rows.specs.Parsed.{shape_row_bytes, cell_row_bytes, block_row_bytes, step_row_bytes}
use Rattle.roundtrip.specs.RoundTrip.{repacked}
use Rattle.roundtrip.proofs.Numbers.{number_there}

-- rows of k bytes, of which P holds, where a row is read from its bytes wherever they stand
module _ {A : Type 0} (P : A → Type 0) (k : ℕ) (bytes : A → List ℕ) (reader : List ℕ → ℕ → A) (wide : (r : A) → length (bytes r) ≡ k)
    (divides : (n : ℕ) → n * k / k ≡ n) (back : (r : A) → P r → (pre post : List ℕ) → reader (pre ++ (bytes r ++ post)) (length pre) ≡ r) where
  packed_length : (rs : List A) → length (packed bytes rs) ≡ length rs * k
  packed_length [] = omega arith
  packed_length (r ∷ rs) =
      let x = packed_length rs in
      let y = length-append (bytes r) (packed bytes rs) in
      let z = wide r in
      omega arith

  -- behind the bytes of i rows
  behind : (rs : List A) → All P rs → (pre : List ℕ) (i : ℕ) → length pre ≡ i * k
      → rows_from (λ j. reader (pre ++ packed bytes rs) (j * k)) (length rs) i ≡ rs
  unfolding rows_from
  behind [] h pre i e = refl
  behind (r ∷ rs) h pre i e =
      let t = pre ++ (bytes r ++ packed bytes rs) in
      let x : reader t (i * k) ≡ r = ap (reader t) (sym e) ∙ back r h.0 pre (packed bytes rs) in
      let y = length-append pre (bytes r) in
      let z = wide r in
      let l : length (pre ++ bytes r) ≡ suc i * k = omega arith in
      let q = behind rs h.1 (pre ++ bytes r) (suc i) l in
      rw x (ap {B = List A} (λ l. r ∷ l) (ap (λ t. rows_from (λ j. reader t (j * k)) (length rs) (suc i)) (sym (append_assoc pre (bytes r) (packed bytes rs))) ∙ q))

  same_rows : (rs : List A) → All P rs → rows_from (λ j. reader (packed bytes rs) (j * k)) (length (packed bytes rs) / k) 0 ≡ rs
  same_rows rs h =
      let n : length (packed bytes rs) / k ≡ length rs = ap (λ m. m / k) (packed_length rs) ∙ divides (length rs) in
      ap (λ n. rows_from (λ j. reader (packed bytes rs) (j * k)) n 0) n ∙ behind rs h [] 0 (omega arith)

-- what stands behind `pre`
module _ (pre l : List ℕ) where
  there : (i : ℕ) → byte_at (pre ++ l) (length pre + i) ≡ byte_at l i
  there i = get_or-append-add pre l i 0

  number_at_lem : (m n : ℕ) → n < 4294967296 → byte_at l m ≡ n % 256 → byte_at l (m + 1) ≡ n / 256 % 256
      → byte_at l (m + 2) ≡ n / 65536 % 256 → byte_at l (m + 3) ≡ n / 16777216 % 256 → number_at (pre ++ l) (length pre + m) ≡ n
  number_at_lem m n h a b c d =
      let on : (i : ℕ) → length pre + m + i ≡ length pre + (m + i) = λ i. omega arith in
      let byte : (i : ℕ) → byte_at (pre ++ l) (length pre + m + i) ≡ byte_at l (m + i) = λ i. ap (byte_at (pre ++ l)) (on i) ∙ there (m + i) in
      number_there (pre ++ l) (length pre + m) n h (there m ∙ a) (byte 1 ∙ b) (byte 2 ∙ c) (byte 3 ∙ d)

abbrev Any : {A : Type 0} → A → Type 0
Any r = Unit {0}

shape_back : (r : ShapeRow) → Any r → (pre post : List ℕ) → shape_row_in (pre ++ (shape_row_bytes r ++ post)) (length pre) ≡ r
unfolding shape_row_in
shape_back r h pre post =
    let l = shape_row_bytes r ++ post in
    rw (get_or-append_seam pre r.kind (r.x ∷ r.y ∷ post) 0, there pre l 1, there pre l 2) refl

abbrev pub CellSmall : CellRow → Type 0
CellSmall r = r.number < 4294967296

cell_back : (r : CellRow) → CellSmall r → (pre post : List ℕ) → cell_row_in (pre ++ (cell_row_bytes r ++ post)) (length pre) ≡ r
unfolding cell_row_in
cell_back r h pre post =
    let l = cell_row_bytes r ++ post in
    rw (
      get_or-append_seam pre r.shape (r.label ∷ r.kind ∷ (number_bytes r.number ++ post)) 0,
      there pre l 1,
      there pre l 2,
      number_at_lem pre l 3 r.number h refl refl refl refl,
    ) refl

abbrev pub BlockSmall : BlockRow → Type 0
BlockSmall r = r.steps < 4294967296

block_back : (r : BlockRow) → BlockSmall r → (pre post : List ℕ) → block_row_in (pre ++ (block_row_bytes r ++ post)) (length pre) ≡ r
unfolding block_row_in
block_back r h pre post =
    let l = block_row_bytes r ++ post in
    rw (get_or-append_seam pre r.bound (number_bytes r.steps ++ post) 0, number_at_lem pre l 1 r.steps h refl refl refl refl) refl

abbrev pub StepSmall : StepRow → Type 0
StepSmall r = r.number < 4294967296

step_back : (r : StepRow) → StepSmall r → (pre post : List ℕ) → step_row_in (pre ++ (step_row_bytes r ++ post)) (length pre) ≡ r
unfolding step_row_in
step_back r h pre post =
    let l = step_row_bytes r ++ post in
    rw (
      get_or-append_seam pre r.kind (r.x ∷ r.y ∷ r.z ∷ (number_bytes r.number ++ post)) 0,
      there pre l 1,
      there pre l 2,
      there pre l 3,
      number_at_lem pre l 4 r.number h refl refl refl refl,
    ) refl

-- tables whose numbers have 32 bits
pub record Small (t : BookTables) : Type 0 where
  pub cells : All CellSmall t.cells
  pub blocks : All BlockSmall t.blocks
  pub steps : All StepSmall t.steps

pub same_tables : (t : BookTables) → Small t → repacked t ≡ t
same_tables t h =
    let a : shape_rows_in (packed shape_row_bytes t.shapes) ≡ t.shapes
    = same_rows Any 3 shape_row_bytes shape_row_in (λ r. refl) (λ n. omega arith) shape_back t.shapes (all_each Any (λ r. tt) t.shapes) in
    let b : cell_rows_in (packed cell_row_bytes t.cells) ≡ t.cells
    = same_rows CellSmall 7 cell_row_bytes cell_row_in (λ r. refl) (λ n. omega arith) cell_back t.cells h.cells in
    let c : block_rows_in (packed block_row_bytes t.blocks) ≡ t.blocks
    = same_rows BlockSmall 5 block_row_bytes block_row_in (λ r. refl) (λ n. omega arith) block_back t.blocks h.blocks in
    let d : step_rows_in (packed step_row_bytes t.steps) ≡ t.steps
    = same_rows StepSmall 8 step_row_bytes step_row_in (λ r. refl) (λ n. omega arith) step_back t.steps h.steps in
    rw (a, b, c, d) refl
