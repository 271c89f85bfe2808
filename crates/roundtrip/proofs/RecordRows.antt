-- The records of a book as rows, each known and with no spare field: what the writer is to put there.
--     record_at, row_at      the bytes of the record at an offset; its row
--     bytes_are            they are its kind, and the bytes behind it
--     Heads, heads         the first record from an offset on stands there
--     packed_records       the records from an offset on, one after the other, are the rest of the book
--     none_first           no such row is at fault
-- Assumes nothing.
use mathlib.Core.Path.{◌≡◌, refl, sym, ap, ◌∙◌}
use mathlib.Core.Bool.{Bool, true, false}
use mathlib.Core.List.{List, [], ◌∷◌, ◌++◌, map}
use Prim.Native.Nat.{ℕ, zero, suc, ◌+◌, ◌<◌, ◌≤◌}
use native.Mathlib.Omega.{arith}
use lib.Dec.{ltb}
use lib.ListN.{length, take, drop, take-append-drop, drop_of_length-le}
use lib.Seq.{drop-cons, drop-drop}
use borrow.Author.Tests.{ltb-true, ltb-false}
use Rattle.labels.proofs.Impossible.{impossible}
use Rattle.std.specs.Prelude.{None}
use Rattle.book.specs.Kinds.{span}
use Rattle.book.specs.Records.{byte_at, next, cut, records_from}
use Rattle.book.specs.Asked.{Whole}
use Rattle.book.proofs.Spans.{uncut_inside}
use Rattle.book.proofs.Records.{records_end, walk}
use Rattle.rows.specs.Rows.{Row, packed_rows}
use Rattle.rows.specs.Write.{first_row}

abbrev pub record_at : List ℕ → ℕ → List ℕ
record_at s o = take (span (byte_at s o)) (drop o s)

unfoldable pub row_at : List ℕ → ℕ → Row
row_at s o = record { bytes = record_at s o; known = true; spare = false }

-- n bytes from the i-th on of the record at o
abbrev pub bytes_from : List ℕ → ℕ → ℕ → ℕ → List ℕ
bytes_from s o zero i = []
bytes_from s o (suc n) i = byte_at s (o + i) ∷ bytes_from s o n (suc i)

part : (s : List ℕ) (o n i : ℕ) → o + i + n ≤ length s → take n (drop (o + i) s) ≡ bytes_from s o n i
part s o zero i h = refl
part s o (suc n) i h =
    let e : suc (o + i) ≡ o + suc i = omega arith in
    ap (take (suc n)) (drop-cons s (o + i) 0 (omega arith))
    ∙ ap {B = List ℕ} (λ l. byte_at s (o + i) ∷ l) (ap (λ j. take n (drop j s)) e ∙ part s o n (suc i) (omega arith))

pub bytes_are : (s : List ℕ) (o k n : ℕ) → byte_at s o ≡ k → span k ≡ suc n → cut s o ≡ false → record_at s o ≡ k ∷ bytes_from s o n 1
bytes_are s o k n e w c =
    let l : span (byte_at s o) ≡ suc n = ap span e ∙ w in
    let i : next s o ≤ length s = uncut_inside span s o c in
    let j : suc o ≡ o + 1 = omega arith in
    ap (λ m. take m (drop o s)) l
    ∙ ap (take (suc n)) (drop-cons s o 0 (omega arith))
    ∙ ap {B = List ℕ} (λ x. x ∷ take n (drop (suc o) s)) e
    ∙ ap {B = List ℕ} (λ l. k ∷ l) (ap (λ j. take n (drop j s)) j ∙ part s o n 1 (omega arith))

-- the first record from a on stands at a
pub record Heads (s : List ℕ) (a o : ℕ) (os : List ℕ) : Type 0 where
  pub inside : a < length s
  pub at : o ≡ a
  pub rest : records_from s (next s a) ≡ os
  pub whole : Whole s (next s a)
  pub within : next s a ≤ length s

pub heads : (s : List ℕ) (a o : ℕ) (os : List ℕ) → records_from s a ≡ o ∷ os → Whole s a → Heads s a o os
heads s a o os e w = go (ltb a (length s)) refl
  where
    go : (b : Bool) → ltb a (length s) ≡ b → Heads s a o os
    go false l = let x : o ∷ os ≡ [] = sym e ∙ records_end s a (ltb-false _ _ l) in impossible cc
    go true l =
        let k = walk s a w (ltb-true _ _ l) in
        let x : o ∷ os ≡ a ∷ records_from s (next s a) = sym e ∙ k.list in
        record { inside = ltb-true _ _ l; at = cc; rest = cc; whole = k.rest; within = k.inside }

module _ (s : List ℕ) where
  pub packed_records : (os : List ℕ) (a : ℕ) → records_from s a ≡ os → Whole s a → a ≤ length s → packed_rows (map (row_at s) os) ≡ drop a s
  unfolding row_at
  packed_records [] a e w h = go (ltb a (length s)) refl
    where
      go : (b : Bool) → ltb a (length s) ≡ b → [] ≡ drop a s
      go false l = sym (drop_of_length-le s (ltb-false _ _ l))
      go true l = let x : [] ≡ a ∷ records_from s (next s a) = sym e ∙ (walk s a w (ltb-true _ _ l)).list in impossible cc
  packed_records (o ∷ os) a e w h =
      let k = heads s a o os e w in
      let r = packed_records os (next s a) k.rest k.whole k.within in
      rw k.at (ap (λ l. record_at s a ++ l) (r ∙ sym (drop-drop (span (byte_at s a)) a s)) ∙ take-append-drop (span (byte_at s a)) (drop a s))

  -- no such row is bad
  pub none_first : (bad : Row → Bool) → ((o : ℕ) → bad (row_at s o) ≡ false) → (os : List ℕ) (a : ℕ) → first_row bad a (map (row_at s) os) ≡ None
  unfolding first_row
  none_first bad f [] a = refl
  none_first bad f (o ∷ os) a = simp (first_row, f o) (none_first bad f os _)
