-- Laws of rows packed one after the other: each that is known is a whole record.
--     Known, known, known_kind     what is known of a row whose kind is one of its table's
--     Sized, known_sized           a row that is as long as its kind says; such a row is
--     none_bad, rows_sized         what it says that no row is bad; of tables that have no unknown row
--     all_front, all_behind        what holds of the parts of a list
--     of_rows                      what holds of the rows of a table says it of the table
--     record_on, records_none      the records from a row's place on
--     packed_whole, known_whole    refusal 2 does not hold of them
-- Assumes nothing.
use mathlib.Core.Path.{◌≡◌, refl, sym, ap, ◌∙◌}
use mathlib.Core.Bool.{Bool, true, false, not}
use mathlib.Core.List.{List, [], ◌∷◌, ◌++◌, map, append_assoc}
use Prim.Native.Nat.{ℕ, suc, ◌+◌, ◌<◌, ◌≤◌}
use native.Mathlib.Omega.{arith}
use lib.Dec.{eqb}
use lib.ListN.{length, take, drop, length-append, get_or-append}
use lib.Seq.{get_or-append-add, length-take-le, get_or-take}
use borrow.Author.Tests.{eqb-true, not-false}
use Rattle.labels.specs.declared.Label.{Label}
use Rattle.std.specs.Prelude.{None}
use Rattle.book.specs.Control.{when◌then◌else◌, sweep}
use Rattle.book.specs.Kinds.{span, group}
use Rattle.book.specs.Records.{byte_at, number_bytes}
use Rattle.book.specs.Spans.{next_by, cut_by, offsets_by}
use Rattle.book.specs.Refusals.{cut_fault}
use Rattle.book.specs.Asked.{Whole}
use Rattle.book.proofs.Tests.{clash}
use Rattle.book.proofs.Every.{All, all_append, all_both, all_said}
use Rattle.book.proofs.Groups.{group_span}
use Rattle.book.proofs.Spans.{uncut, offsets_end, offsets_more}
use Rattle.book.proofs.Sweep.{somewhere}
use Rattle.rows.specs.Rows.{BookTables, ShapeRow, CellRow, BlockRow, StepRow, Row, some_nonzero, row_of, c_row, shape_row, cell_row, block_row}
use Rattle.rows.specs.Rows.{step_fields, step_row, block_rows, rows, packed_rows, bytes_of}
use Rattle.rows.specs.Write.{first_row, unknown_fault}
use Rattle.rows.proofs.ByKind.{by_kind}

-- a whole record: as long as its kind says
pub record Sized (r : Row) : Type 0 where
  pub some : 0 < length r.bytes
  pub long : span (byte_at r.bytes 0) ≡ length r.bytes

-- a row that is known has a kind of its table's group, and as many bytes as the kind's span
pub record Known (g k : ℕ) (fields : List ℕ) : Type 0 where
  pub of : group k ≡ g
  pub bytes : (row_of g k fields).bytes ≡ take (span k) (k ∷ fields)
  pub spare : (row_of g k fields).spare ≡ some_nonzero (drop (span k) (k ∷ fields))

module _ (g k : ℕ) (fields : List ℕ) where
  pub known : (row_of g k fields).known ≡ true → Known g k fields
  unfolding row_of
  known e = go (eqb (group k) g) refl
    where
      go : (b : Bool) → eqb (group k) g ≡ b → Known g k fields
      go true h = record { of = eqb-true _ _ h; bytes = simp h; spare = simp h }
      go false h = clash e (simp h)

  -- which begin with the kind
  pub known_kind : 0 < g → (row_of g k fields).known ≡ true → byte_at (row_of g k fields).bytes 0 ≡ k
  known_kind some e =
      let w = known e in
      let n = group_span k g w.of some in
      rw w.bytes (get_or-take (span k) (k ∷ fields) 0 0 (omega arith))

  pub known_sized : 0 < g → (group k ≡ g → span k ≤ suc (length fields)) → (row_of g k fields).known ≡ true → Sized (row_of g k fields)
  known_sized some fits e =
      let w = known e in
      let n = group_span k g w.of some in
      let l : length (row_of g k fields).bytes ≡ span k = ap length w.bytes ∙ length-take-le (span k) (k ∷ fields) (fits w.of) in
      record { some = omega arith; long = ap span (known_kind some e) ∙ sym l }

-- a row that is a whole record where it is known
abbrev Formed : Row → Type 0
Formed r = r.known ≡ true → Sized r

c_formed : (c : Label) → Formed (c_row c)
unfolding span
c_formed c = known_sized 1 1 (c.0 ∷ []) (omega arith) (λ e. omega arith)

shape_formed : (r : ShapeRow) → Formed (shape_row r)
unfolding span
shape_formed r =
    known_sized 2 r.kind (r.x ∷ r.y ∷ []) (omega arith)
    (by_kind (λ k. span k ≤ 3) 2 (omega arith) (omega arith) r.kind)

cell_formed : (r : CellRow) → Formed (cell_row r)
unfolding span
cell_formed r = known_sized 3 32 (r.shape ∷ r.label ∷ r.kind ∷ number_bytes r.number) (omega arith) (λ e. omega arith)

block_formed : (r : BlockRow) → Formed (block_row r)
unfolding span
block_formed r = known_sized 4 48 (r.bound ∷ []) (omega arith) (λ e. omega arith)

-- a step's row has seven fields
step_fields_lem : (b : Bool) (x y z : ℕ) (n : List ℕ) → length (when b then x ∷ (n ++ (y ∷ z ∷ [])) else x ∷ y ∷ z ∷ n) ≡ length n + 3
step_fields_lem true x y z n = let e = length-append n (y ∷ z ∷ []) in omega arith
step_fields_lem false x y z n = omega arith

step_span : (k : ℕ) → group k ≡ 5 → span k ≤ 8
unfolding span
step_span = by_kind (λ k. span k ≤ 8) 5 (omega arith) (omega arith)

step_formed : (r : StepRow) → Formed (step_row r)
step_formed r =
    let l = step_fields_lem (eqb r.kind 64) r.x r.y r.z (number_bytes r.number) in
    known_sized 5 r.kind (step_fields r) (omega arith) (λ e. let h = step_span r.kind e in omega arith)

-- of the parts of a list, and of a table's rows
module _ {A : Type 0} (P : A → Type 0) where
  pub all_front : (l m : List A) → All P (l ++ m) → All P l
  all_front [] m h = tt
  all_front (x ∷ xs) m h = (h.0, all_front xs m h.1)

  pub all_behind : (l m : List A) → All P (l ++ m) → All P m
  all_behind [] m h = h
  all_behind (x ∷ xs) m h = all_behind xs m h.1

pub of_rows : {A : Type 0} (P : Row → Type 0) (row : A → Row) (Q : A → Type 0) → ((a : A) → P (row a) → Q a) → (l : List A) → All P (map row l) → All Q l
of_rows P row Q f [] h = tt
of_rows P row Q f (a ∷ l) h = (f a h.0, of_rows P row Q f l h.1)

blocks_formed : (bs : List BlockRow) (ss : List StepRow) → All Formed (block_rows bs ss)
unfolding block_rows
blocks_formed [] ss = all_said Formed step_row step_formed ss
blocks_formed (b ∷ bs) ss = (
  block_formed b,
  all_append Formed (map step_row (take b.steps ss)) (block_rows bs (drop b.steps ss)) (all_said Formed step_row step_formed (take b.steps ss))
      (blocks_formed bs (drop b.steps ss)),
)

rows_formed : (t : BookTables) → All Formed (rows t)
unfolding rows
rows_formed t = (
  c_formed t.c,
  all_append Formed (map shape_row t.shapes) _ (all_said Formed shape_row shape_formed t.shapes)
      (all_append Formed (map cell_row t.cells) _ (all_said Formed cell_row cell_formed t.cells) (blocks_formed t.blocks t.steps)),
)

-- no row is bad
pub none_bad : (bad : Row → Bool) (o : ℕ) (rs : List Row) → first_row bad o rs ≡ None → All (λ r. bad r ≡ false) rs
unfolding first_row
none_bad bad o [] e = tt
none_bad bad o (r ∷ rs) e = go (bad r) refl (none_bad bad (o + length r.bytes) rs)
  where
    go : (b : Bool) → bad r ≡ b → (first_row bad (o + length r.bytes) rs ≡ None → All (λ r. bad r ≡ false) rs) → All (λ r. bad r ≡ false) (r ∷ rs)
    go true h n = somewhere (simp (first_row, h) at e)
    go false h n = (h, n (simp (first_row, h) at e))

pub rows_sized : (t : BookTables) → unknown_fault (rows t) ≡ None → All Sized (rows t)
rows_sized t e =
    all_both Formed (λ r. not r.known ≡ false) Sized (λ r f n. f (not-false _ n)) (rows t) (rows_formed t) (none_bad (λ r. not r.known) 0 (rows t) e)

-- a whole record b that stands behind others
module _ (pre b rest : List ℕ) (some : 0 < length b) (long : span (byte_at b 0) ≡ length b) where
  abbrev s : List ℕ
  s = pre ++ (b ++ rest)

  pub first_byte : byte_at s (length pre) ≡ byte_at b 0
  first_byte =
      let z : length pre ≡ length pre + 0 = omega arith in
      ap (byte_at s) z ∙ get_or-append-add pre (b ++ rest) 0 0 ∙ get_or-append b rest 0 0 some

  on : next_by span s (length pre) ≡ length (pre ++ b)
  on = let e = ap span first_byte ∙ long in omega (arith, length-append pre b)

  inside : length pre < length s
  inside = omega (arith, length-append pre (b ++ rest), length-append b rest)

  stands : cut_by span s (length pre) ≡ false
  stands =
      let e = ap span first_byte ∙ long in
      uncut span s (length pre) (λ z. omega arith) (omega (arith, length-append pre (b ++ rest), length-append b rest))

  pub record_on : offsets_by span s (length pre) ≡ length pre ∷ offsets_by span s (length (pre ++ b))
  record_on = offsets_more span s (length pre) inside stands ∙ rw on refl

pub records_none : (pre : List ℕ) → offsets_by span (pre ++ []) (length pre) ≡ []
records_none pre = offsets_end span (pre ++ []) (length pre) (omega (arith, length-append pre []))

pub packed_whole : (rs : List Row) (pre : List ℕ) → All Sized rs → Whole (pre ++ packed_rows rs) (length pre)
unfolding sweep
packed_whole [] pre h = simp (records_none pre)
packed_whole (r ∷ rs) pre h =
    let a = h.0 in
    simp (record_on pre r.bytes (packed_rows rs) a.some a.long, sweep, stands pre r.bytes (packed_rows rs) a.some a.long)
    (rw (append_assoc pre r.bytes (packed_rows rs)) at (packed_whole rs (pre ++ r.bytes) h.1))

pub known_whole : (t : BookTables) → unknown_fault (rows t) ≡ None → cut_fault (bytes_of t) ≡ None
unfolding cut_fault
known_whole t e = packed_whole (rows t) [] (rows_sized t e)
