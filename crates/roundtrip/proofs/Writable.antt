-- What a call that wrote says of its tables.
--     Writable, writable     none of the refusals holds
--     output_is              the output is the tables' bytes
--     read_passes            which refusals 1 to 6 do not hold of
-- Assumes nothing.
use mathlib.Core.Path.{◌≡◌, refl}
use mathlib.Core.Bool.{Bool, true, false, not}
use mathlib.Core.List.{List}
use Prim.Native.Nat.{ℕ, ◌≤◌}
use lib.Dec.{eqb, ltb}
use lib.ListN.{length, drop}
use lib.Seq.{take-append_seam}
use borrow.Author.Tests.{ltb-false, le-ltb, eqb-true, not-false}
use Rattle.labels.proofs.Impossible.{impossible}
use Rattle.book.specs.Missing.{Fault}
use Rattle.std.specs.Prelude.{None, Some}
use Rattle.book.specs.Outcome.{Refusal, Passed, Refused}
use Rattle.book.specs.Control.{when◌then◌else◌}
use Rattle.book.specs.Refusals.{order_fault, count_fault, range_fault, name_fault, or_refuse, unreadable}
use Rattle.rows.specs.Rows.{BookTables, rows, bytes_of, total}
use Rattle.rows.specs.Write.{unknown_fault, spare_fault, earlier, unwritable, written_of, written}
use Rattle.rows.proofs.Packs.{known_whole}
use Rattle.roundtrip.specs.RoundTrip.{output}

-- none of the refusals holds, but for the room
pub record Writable (t : BookTables) : Type 0 where
  pub short : length (bytes_of t) ≤ 32768
  pub counted : total t.blocks ≡ length t.steps
  pub known : unknown_fault (rows t) ≡ None
  pub ordered : order_fault (bytes_of t) ≡ None
  pub few : count_fault (bytes_of t) ≡ None
  pub used : spare_fault (rows t) ≡ None
  pub narrow : range_fault (bytes_of t) ≡ None
  pub named : name_fault (bytes_of t) ≡ None

stage : (n : ℕ) (f : Fault) (r : Refusal) → or_refuse n f r ≡ Passed → (f ≡ None) × (r ≡ Passed)
unfolding or_refuse
stage n None r e = (refl, e)
stage n (Some o) r e = impossible cc

test : (n : ℕ) (b : Bool) (r : Refusal) → (when b then Refused n 0 else r) ≡ Passed → (b ≡ false) × (r ≡ Passed)
test n true r e = impossible cc
test n false r e = (refl, e)

neither : (f g : Fault) → earlier f g ≡ None → (f ≡ None) × (g ≡ None)
unfolding earlier
neither None g e = (refl, e)
neither (Some o) None e = impossible cc
neither (Some o) (Some p) e = impossible cc

wrote : (r : Refusal) (s out : List ℕ) → (written_of r s out).refusal ≡ Passed → r ≡ Passed
unfolding written_of
wrote Passed s out e = refl
wrote (Refused n o) s out e = e

module _ (t : BookTables) (out : List ℕ) (e : (written t out).refusal ≡ Passed) where
  passed : unwritable t (length out) ≡ Passed
  passed = wrote (unwritable t (length out)) (bytes_of t) out e

  pub writable : Writable t
  unfolding unwritable
  writable =
      let a = test 1 (ltb 32768 (length (bytes_of t))) _ passed in
      let b = test 2 (not (eqb (total t.blocks) (length t.steps))) _ a.1 in
      let c = stage 2 (unknown_fault (rows t)) _ b.1 in
      let d = stage 3 (order_fault (bytes_of t)) _ c.1 in
      let f = stage 4 (count_fault (bytes_of t)) _ d.1 in
      let g = stage 5 (earlier (spare_fault (rows t)) (range_fault (bytes_of t))) _ f.1 in
      let h = neither (spare_fault (rows t)) (range_fault (bytes_of t)) g.0 in
      let i = stage 6 (name_fault (bytes_of t)) _ g.1 in
      record {
        short = ltb-false _ _ a.0;
        counted = eqb-true _ _ (not-false _ b.0);
        known = c.0;
        ordered = d.0;
        few = f.0;
        used = h.0;
        narrow = h.1;
        named = i.0;
      }

  pub output_is : output (written t out) ≡ bytes_of t
  unfolding written_of
  output_is = rw passed (take-append_seam (bytes_of t) (drop (length (bytes_of t)) out))

pub read_passes : (t : BookTables) → Writable t → unreadable (bytes_of t) ≡ Passed
unfolding unreadable or_refuse
read_passes t w = simp (le-ltb _ _ w.short, known_whole t w.known, w.ordered, w.few, w.narrow, w.named)
