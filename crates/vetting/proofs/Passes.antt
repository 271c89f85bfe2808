-- Rows that the stages of refusals find no fault in, gone through once for all of them.
--     Passes                                  a row that no stage finds at fault, in the state before it
--     Through                                 rows, each with the state that those before it leave
--     through_known, Swept, through_swept     none is unknown; no stage finds a fault in their records
-- Assumes nothing.
use mathlib.Core.Path.{◌≡◌, refl, sym, ap, ◌∙◌}
use mathlib.Core.Bool.{Bool, true, false, not}
use mathlib.Core.List.{List, [], ◌∷◌, ◌++◌, append_assoc}
use Prim.Native.Nat.{ℕ, ◌+◌, min}
use lib.Dec.{eqb}
use lib.ListN.{length}
use borrow.Author.Tests.{eq-eqb}
use Rattle.book.specs.Missing.{Fault}
use Rattle.std.specs.Prelude.{None}
use Rattle.book.specs.declared.Tally.{Tally}
use Rattle.book.specs.Control.{when◌then◌else◌, sweep, first}
use Rattle.book.specs.Kinds.{span, group}
use Rattle.book.specs.Records.{byte_at}
use Rattle.book.specs.Spans.{offsets_by}
use Rattle.book.specs.Refusals.{in_order, misplaced, counted, too_many, beyond, out_of_range, dangling, dangles}
use Rattle.book.proofs.Every.{All}
use Rattle.rows.specs.Rows.{Row, packed_rows}
use Rattle.rows.specs.Write.{first_row}
use Rattle.rows.proofs.Packs.{Sized, first_byte, record_on, records_none}
use Rattle.rows.proofs.Local.{range_local, name_local}
use Rattle.rows.proofs.Seen.{row_group}

-- a sweep past its first member
on_past : {S : Type 0} (bad : S → ℕ → Bool) (on : S → ℕ → S) (end : S → Fault) (t u : S) (o : ℕ) (os ps : List ℕ)
    → os ≡ o ∷ ps → bad t o ≡ false → on t o ≡ u → sweep bad on end u ps ≡ None → sweep bad on end t os ≡ None
unfolding sweep
on_past bad on end t u o os ps l b e h = simp (l, sweep, b, e) h

-- in a book of these cell shapes, and of so many cells and blocks
module _ (is_cell_shape : ℕ → Bool) (cells blocks : ℕ) where
  -- after a record of group p and so many records, whatever stands behind
  pub record Passes (p : ℕ) (n : Tally) (r : Row) : Type 0 where
    pub known : r.known ≡ true
    pub ordered : in_order p (row_group r) ≡ true
    pub few : too_many (counted n (row_group r)) ≡ false
    pub narrow : (behind : List ℕ) → out_of_range (r.bytes ++ behind) 0 ≡ false
    pub named : (behind : List ℕ) → dangling is_cell_shape cells blocks (r.bytes ++ behind) n.shapes 0 ≡ false

  abbrev pub Through : ℕ → Tally → List Row → Type 0
  Through p n [] = p ≡ 4
  Through p n (r ∷ rs) = Passes p n r × Through (min (row_group r) 4) (counted n (row_group r)) rs

  pub through_known : (rs : List Row) (o p : ℕ) (n : Tally) → Through p n rs → first_row (λ r. not r.known) o rs ≡ None
  unfolding first_row
  through_known [] o p n h = refl
  through_known (r ∷ rs) o p n h = simp (first_row, h.0.known) (through_known rs (o + length r.bytes) _ _ h.1)

  -- what each stage finds from an offset on
  pub record Swept (s : List ℕ) (o p : ℕ) (n : Tally) : Type 0 where
    pub ordered : misplaced s p (offsets_by span s o) ≡ None
    pub few : beyond s n (offsets_by span s o) ≡ None
    pub narrow : first (out_of_range s) (offsets_by span s o) ≡ None
    pub named : dangles is_cell_shape cells blocks s n.shapes (offsets_by span s o) ≡ None

  -- the shapes of a tally are counted as those before a record are
  shapes_on : (n : Tally) (g : ℕ) → (counted n g).shapes ≡ (when eqb g 2 then n.shapes + 1 else n.shapes)
  unfolding counted
  shapes_on n g = go (eqb g 2) (eqb g 3) (eqb g 4) (eqb g 5)
    where
      go : (a b c d : Bool)
          → (when a then record { shapes = n.shapes + 1; cells = n.cells; blocks = n.blocks; steps = n.steps }
          else when b then record { shapes = n.shapes; cells = n.cells + 1; blocks = n.blocks; steps = n.steps }
          else when c then record { shapes = n.shapes; cells = n.cells; blocks = n.blocks + 1; steps = 0 }
          else when d then record { shapes = n.shapes; cells = n.cells; blocks = n.blocks; steps = n.steps + 1 }
          else n).shapes ≡ (when a then n.shapes + 1 else n.shapes)
      go true b c d = refl
      go false true c d = refl
      go false false true d = refl
      go false false false true = refl
      go false false false false = refl

  -- past one row
  module _ (r : Row) (rs : List Row) (pre : List ℕ) (p : ℕ) (n : Tally) (z : Sized r) (h : Passes p n r) where
    abbrev s : List ℕ
    s = pre ++ (r.bytes ++ packed_rows rs)

    list : offsets_by span s (length pre) ≡ length pre ∷ offsets_by span s (length (pre ++ r.bytes))
    list = record_on pre r.bytes (packed_rows rs) z.some z.long

    kind : byte_at s (length pre) ≡ byte_at r.bytes 0
    kind = first_byte pre r.bytes (packed_rows rs) z.some z.long

    same : group (byte_at s (length pre)) ≡ row_group r
    same = ap group kind

    past : Swept s (length (pre ++ r.bytes)) (min (row_group r) 4) (counted n (row_group r)) → Swept s (length pre) p n
    unfolding misplaced beyond dangles
    past k =
        record {
          ordered = on_past _ _ _ p _ (length pre) _ _ list (rw same (rw h.ordered refl)) (ap (λ g. min g 4) same) k.ordered;
          few = on_past _ _ _ n _ (length pre) _ _ list (rw same h.few) (ap (counted n) same) k.few;
          narrow = on_past _ _ _ tt _ (length pre) _ _ list (range_local pre (r.bytes ++ packed_rows rs) ∙ h.narrow (packed_rows rs)) refl k.narrow;
          named =
              on_past _ _ _ n.shapes _ (length pre) _ _ list
              (name_local pre (r.bytes ++ packed_rows rs) is_cell_shape cells blocks n.shapes ∙ h.named (packed_rows rs))
              (rw same (sym (shapes_on n (row_group r)))) k.named;
        }

  pub through_swept : (rs : List Row) (pre : List ℕ) (p : ℕ) (n : Tally) → All Sized rs → Through p n rs → Swept (pre ++ packed_rows rs) (length pre) p n
  unfolding misplaced beyond dangles sweep
  through_swept [] pre p n z h =
      record {
        ordered = simp (records_none pre, sweep, eq-eqb p 4 h);
        few = simp (records_none pre);
        narrow = simp (records_none pre);
        named = simp (records_none pre);
      }
  through_swept (r ∷ rs) pre p n z h =
      past r rs pre p n z.0 h.0
      (rw (append_assoc pre r.bytes (packed_rows rs)) at (through_swept rs (pre ++ r.bytes) _ _ z.1 h.1))
