-- What is read of rows, record by record, from the rows themselves.
--     row_group, known_group, ..    the group of a row's record
--     Views, shape_views, ..       what is read of a record of a group, wherever it stands
--     seen, seen_is                what is read of a group's records
--     run, run_is                  of those of a group that stand before any other
--     seen_hit, .., run_miss       past one row
--     seen_keys                    what is said of a table's rows by what is read of them
--     seen_table, seen_other       the rows of a table, where the group is theirs, and where it is not
--     run_table                    the same of those before any other
-- Assumes nothing.
use mathlib.Core.Path.{◌≡◌, refl, ap, ◌∙◌}
use mathlib.Core.Bool.{Bool, true, false}
use mathlib.Core.List.{List, [], ◌∷◌, ◌++◌, map, append_assoc}
use Prim.Native.Nat.{ℕ, ◌<◌}
use lib.Dec.{eqb}
use lib.ListN.{length}
use borrow.Author.Tests.{eq-eqb, ne_eqb, eqb-true}
use Rattle.labels.specs.declared.Label.{Label}
use Rattle.book.specs.Control.{those, while}
use Rattle.book.specs.Kinds.{span, group}
use Rattle.book.specs.Records.{byte_at, in_group}
use Rattle.book.specs.Spans.{offsets_by}
use Rattle.book.specs.Book.{shape_at, declared_at, step_at}
use Rattle.book.proofs.Every.{All}
use Rattle.rows.specs.Rows.{Row, CellRow, BlockRow, row_of, c_row, cell_row, block_row, packed_rows}
use Rattle.rows.proofs.Packs.{Sized, known, known_kind, first_byte, record_on, records_none}
use Rattle.rows.proofs.Local.{shape_local, cell_local, step_local}

-- the group of a row's record
abbrev pub row_group : Row → ℕ
row_group r = group (byte_at r.bytes 0)

pub known_group : (g k : ℕ) (fields : List ℕ) → 0 < g → (row_of g k fields).known ≡ true → row_group (row_of g k fields) ≡ g
known_group g k fields some e = ap group (known_kind g k fields some e) ∙ (known g k fields e).of

pub c_group_lem : (c : Label) → row_group (c_row c) ≡ 1
unfolding row_of group span
c_group_lem c = refl

pub cell_group_lem : (r : CellRow) → row_group (cell_row r) ≡ 3
unfolding row_of group span
cell_group_lem r = refl

pub block_group_lem : (r : BlockRow) → row_group (block_row r) ≡ 4
unfolding row_of group span
block_group_lem r = refl

module _ {X : Type 0} (g : ℕ) (at : List ℕ → ℕ → X) (view : Row → List Row → X) where
  -- what is read of a record of group g, before the rows rs: view r rs
  abbrev pub Views : Type 0
  Views = (pre : List ℕ) (r : Row) (rs : List Row) → row_group r ≡ g → All Sized (r ∷ rs) → at (pre ++ (r.bytes ++ packed_rows rs)) (length pre) ≡ view r rs

  unfoldable pub seen : List Row → List X
  seen [] = []
  seen (r ∷ rs) = elim (eqb (row_group r) g) [ true ↦ view r rs ∷ seen rs | false ↦ seen rs ]

  unfoldable pub run : List Row → List X
  run [] = []
  run (r ∷ rs) = elim (eqb (row_group r) g) [ true ↦ view r rs ∷ run rs | false ↦ [] ]

  module _ (r : Row) (rs : List Row) where
    pub seen_hit : row_group r ≡ g → seen (r ∷ rs) ≡ view r rs ∷ seen rs
    unfolding seen
    seen_hit e = simp (seen, eq-eqb (row_group r) g e)

    pub seen_miss : (row_group r ≡ g → ⊥) → seen (r ∷ rs) ≡ seen rs
    unfolding seen
    seen_miss n = simp (seen, ne_eqb (row_group r) g n)

    pub run_hit : row_group r ≡ g → run (r ∷ rs) ≡ view r rs ∷ run rs
    unfolding run
    run_hit e = simp (run, eq-eqb (row_group r) g e)

    pub run_miss : (row_group r ≡ g → ⊥) → run (r ∷ rs) ≡ []
    unfolding run
    run_miss n = simp (run, ne_eqb (row_group r) g n)

  module _ (v : Views) where
    -- past one record
    module _ (r : Row) (rs : List Row) (pre : List ℕ) (h : All Sized (r ∷ rs)) where
      abbrev s : List ℕ
      s = pre ++ (r.bytes ++ packed_rows rs)

      abbrev later : List ℕ
      later = offsets_by span s (length (pre ++ r.bytes))

      list : offsets_by span s (length pre) ≡ length pre ∷ later
      list = record_on pre r.bytes (packed_rows rs) h.0.some h.0.long

      tested : (b : Bool) → eqb (row_group r) g ≡ b → in_group s g (length pre) ≡ b
      tested b e = ap (λ k. eqb (group k) g) (first_byte pre r.bytes (packed_rows rs) h.0.some h.0.long) ∙ e

      past_seen : (b : Bool) → eqb (row_group r) g ≡ b → map (at s) (those (in_group s g) later) ≡ seen rs
          → map (at s) (those (in_group s g) (offsets_by span s (length pre))) ≡ seen (r ∷ rs)
      unfolding those seen
      past_seen true e i = simp (list, those, tested true e, seen, e) (ap (λ (l : List X). at s (length pre) ∷ l) i ∙ ap (λ x. x ∷ seen rs) (v pre r rs (eqb-true _ _ e) h))
      past_seen false e i = simp (list, those, tested false e, seen, e) i

      past_run : (b : Bool) → eqb (row_group r) g ≡ b → map (at s) (while (in_group s g) later) ≡ run rs
          → map (at s) (while (in_group s g) (offsets_by span s (length pre))) ≡ run (r ∷ rs)
      unfolding while run
      past_run true e i = simp (list, while, tested true e, run, e) (ap (λ (l : List X). at s (length pre) ∷ l) i ∙ ap (λ x. x ∷ run rs) (v pre r rs (eqb-true _ _ e) h))
      past_run false e i = simp (list, while, tested false e, run, e)

    pub seen_is : (rs : List Row) (pre : List ℕ) → All Sized rs
        → map (at (pre ++ packed_rows rs)) (those (in_group (pre ++ packed_rows rs) g) (offsets_by span (pre ++ packed_rows rs) (length pre))) ≡ seen rs
    unfolding those seen
    seen_is [] pre h = simp (records_none pre)
    seen_is (r ∷ rs) pre h = past_seen r rs pre h (eqb (row_group r) g) refl (rw (append_assoc pre r.bytes (packed_rows rs)) at (seen_is rs (pre ++ r.bytes) h.1))

    pub run_is : (rs : List Row) (pre : List ℕ) → All Sized rs
        → map (at (pre ++ packed_rows rs)) (while (in_group (pre ++ packed_rows rs) g) (offsets_by span (pre ++ packed_rows rs) (length pre))) ≡ run rs
    unfolding while run
    run_is [] pre h = simp (records_none pre)
    run_is (r ∷ rs) pre h = past_run r rs pre h (eqb (row_group r) g) refl (rw (append_assoc pre r.bytes (packed_rows rs)) at (run_is rs (pre ++ r.bytes) h.1))

  -- a table's rows, each given back by what is read of it
  module _ {A : Type 0} (row : A → Row) (back : X → A) where
    pub record Kept (a : A) : Type 0 where
      pub of : row_group (row a) ≡ g
      pub same : (rs : List Row) → back (view (row a) rs) ≡ a

    pub seen_table : (l : List A) (rest : List Row) → All Kept l → map back (seen (map row l ++ rest)) ≡ l ++ map back (seen rest)
    seen_table [] rest h = refl
    seen_table (a ∷ l) rest h =
        ap (map back) (seen_hit (row a) (map row l ++ rest) h.0.of)
        ∙ ap (λ x. x ∷ map back (seen (map row l ++ rest))) (h.0.same (map row l ++ rest))
        ∙ ap (λ (m : List A). a ∷ m) (seen_table l rest h.1)

    pub run_table : (l : List A) (rest : List Row) → All Kept l → map back (run (map row l ++ rest)) ≡ l ++ map back (run rest)
    run_table [] rest h = refl
    run_table (a ∷ l) rest h =
        ap (map back) (run_hit (row a) (map row l ++ rest) h.0.of)
        ∙ ap (λ x. x ∷ map back (run (map row l ++ rest))) (h.0.same (map row l ++ rest))
        ∙ ap (λ (m : List A). a ∷ m) (run_table l rest h.1)

  -- what is said of a table's rows, each told by what is read of it
  module _ {A Y : Type 0} (row : A → Row) (key : A → Y) (told : X → Y) where
    pub record Tells (a : A) : Type 0 where
      pub of : row_group (row a) ≡ g
      pub same : (rs : List Row) → told (view (row a) rs) ≡ key a

    pub seen_keys : (l : List A) (rest : List Row) → All Tells l → map told (seen (map row l ++ rest)) ≡ map key l ++ map told (seen rest)
    seen_keys [] rest h = refl
    seen_keys (a ∷ l) rest h =
        ap (map told) (seen_hit (row a) (map row l ++ rest) h.0.of)
        ∙ ap (λ x. x ∷ map told (seen (map row l ++ rest))) (h.0.same (map row l ++ rest))
        ∙ ap (λ (m : List Y). key a ∷ m) (seen_keys l rest h.1)

  pub seen_other : {A : Type 0} (row : A → Row) (l : List A) (rest : List Row) → All (λ a. row_group (row a) ≡ g → ⊥) l → seen (map row l ++ rest) ≡ seen rest
  seen_other row [] rest h = refl
  seen_other row (a ∷ l) rest h = seen_miss (row a) (map row l ++ rest) h.0 ∙ seen_other row l rest h.1

-- what is read of a record depends on the bytes from its own on
abbrev pub viewed : {X : Type 0} → (List ℕ → ℕ → X) → Row → List Row → X
viewed at r rs = at (r.bytes ++ packed_rows rs) 0

pub shape_views : Views 2 shape_at (viewed shape_at)
shape_views pre r rs e h = shape_local pre (r.bytes ++ packed_rows rs)

pub cell_views : Views 3 declared_at (viewed declared_at)
cell_views pre r rs e h = cell_local pre (r.bytes ++ packed_rows rs)

pub step_views : Views 5 step_at (viewed step_at)
step_views pre r rs e h = step_local pre (r.bytes ++ packed_rows rs)
