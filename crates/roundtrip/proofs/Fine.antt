-- What a call that wrote says of each row.
--     Fine, fine                    the row is known, has no spare field and none out of its range
-- Assumes nothing.
use mathlib.Core.Path.{◌≡◌, refl, sym, ◌∙◌}
use mathlib.Core.Bool.{Bool, true, false, not}
use mathlib.Core.List.{List, [], ◌∷◌, ◌++◌, append_assoc}
use Prim.Native.Nat.{ℕ}
use lib.ListN.{length}
use borrow.Author.Tests.{not-false}
use Rattle.std.specs.Prelude.{None}
use Rattle.book.specs.Control.{sweep, first}
use Rattle.book.specs.Kinds.{span}
use Rattle.book.specs.Spans.{offsets_by}
use Rattle.book.specs.Refusals.{out_of_range, range_fault}
use Rattle.book.proofs.Every.{All, all_both}
use Rattle.book.proofs.Sweep.{somewhere}
use Rattle.rows.specs.Rows.{BookTables, Row, rows, packed_rows}
use Rattle.rows.proofs.Packs.{Sized, record_on, rows_sized, none_bad}
use Rattle.rows.proofs.Local.{range_local}
use Rattle.roundtrip.proofs.Writable.{Writable}

-- no field is out of its range, read with what stands behind the row
record Narrow (r : Row) : Type 0 where
  pub behind : List ℕ
  pub narrow : out_of_range (r.bytes ++ behind) 0 ≡ false

abbrev ranged : List ℕ → ℕ → Type 0
ranged s o = first (out_of_range s) (offsets_by span s o) ≡ None

past : (r : Row) (rs : List Row) (pre : List ℕ) → Sized r → ranged (pre ++ (r.bytes ++ packed_rows rs)) (length pre)
    → Narrow r × ranged (pre ++ (r.bytes ++ packed_rows rs)) (length (pre ++ r.bytes))
unfolding sweep
past r rs pre h e = go (out_of_range (pre ++ (r.bytes ++ packed_rows rs)) (length pre)) refl
  where
    go : (b : Bool) → out_of_range (pre ++ (r.bytes ++ packed_rows rs)) (length pre) ≡ b
        → Narrow r × ranged (pre ++ (r.bytes ++ packed_rows rs)) (length (pre ++ r.bytes))
    go true q = somewhere (simp (record_on pre r.bytes (packed_rows rs) h.some h.long, sweep, q) at e)
    go false q = (
      record { behind = packed_rows rs; narrow = sym (range_local pre (r.bytes ++ packed_rows rs)) ∙ q },
      simp (record_on pre r.bytes (packed_rows rs) h.some h.long, sweep, q) at e,
    )

narrow_rows : (rs : List Row) (pre : List ℕ) → All Sized rs → ranged (pre ++ packed_rows rs) (length pre) → All Narrow rs
narrow_rows [] pre h e = tt
narrow_rows (r ∷ rs) pre h e =
    let p = past r rs pre h.0 e in
    (p.0, narrow_rows rs (pre ++ r.bytes) h.1 (rw (append_assoc pre r.bytes (packed_rows rs)) p.1))

pub record Fine (r : Row) : Type 0 where
  pub known : r.known ≡ true
  pub used : r.spare ≡ false
  pub behind : List ℕ
  pub narrow : out_of_range (r.bytes ++ behind) 0 ≡ false

pub fine : (t : BookTables) → Writable t → All Fine (rows t)
unfolding range_fault
fine t w =
    all_both Narrow (λ r. (r.known ≡ true) × (r.spare ≡ false)) Fine (λ r n k. record { known = k.0; used = k.1; behind = n.behind; narrow = n.narrow }) (rows t)
    (narrow_rows (rows t) [] (rows_sized t w.known) w.narrow)
    (all_both (λ r. not r.known ≡ false) (λ r. r.spare ≡ false) _ (λ r k u. (not-false _ k, u)) (rows t)
    (none_bad (λ r. not r.known) 0 (rows t) w.known) (none_bad (λ r. r.spare) 0 (rows t) w.used))
