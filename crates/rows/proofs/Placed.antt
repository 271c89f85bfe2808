-- How large the writer's numbers are.
--     write_place      the place of a refusal
--     write_length     the length of what is written
-- Assumes nothing.
use mathlib.Core.Path.{◌≡◌, refl}
use mathlib.Core.Bool.{Bool, true, false, not}
use mathlib.Core.List.{List, [], ◌∷◌}
use Prim.Native.Nat.{ℕ, ◌+◌, ◌≤◌, min}
use native.Mathlib.Omega.{arith}
use lib.Dec.{eqb, ltb}
use lib.ListN.{length, length-append}
use borrow.Author.Tests.{ltb-false}
use Rattle.labels.proofs.Impossible.{impossible}
use Rattle.book.specs.Missing.{Fault}
use Rattle.std.specs.Prelude.{None, Some}
use Rattle.book.specs.Outcome.{Refusal, Passed, Refused}
use Rattle.book.specs.Control.{when◌then◌else◌}
use Rattle.book.specs.Refusals.{order_fault, count_fault, range_fault, name_fault, or_refuse}
use Rattle.book.proofs.Bounds.{PlacedIn, nowhere_placed, at_placed, order_placed, count_placed, range_placed, name_placed, stage, none_refused}
use Rattle.rows.specs.Rows.{BookTables, Row, rows, packed_rows, bytes_of, total}
use Rattle.rows.specs.Write.{first_row, unknown_fault, spare_fault, earlier, unwritable}

-- a row stands inside the book
first_placed : (bad : Row → Bool) (o l : ℕ) (rs : List Row) → o + length (packed_rows rs) ≤ l → PlacedIn l (first_row bad o rs)
unfolding first_row
first_placed bad o l [] h = nowhere_placed l
first_placed bad o l (r ∷ rs) h = go (bad r) refl (first_placed bad (o + length r.bytes) l rs (omega (arith, length-append r.bytes (packed_rows rs))))
  where
    go : (b : Bool) → bad r ≡ b → PlacedIn l (first_row bad (o + length r.bytes) rs) → PlacedIn l (first_row bad o (r ∷ rs))
    go true e i = simp (first_row, e) (at_placed l o (omega arith))
    go false e i = simp (first_row, e) i

earlier_placed : (l : ℕ) (f g : Fault) → PlacedIn l f → PlacedIn l g → PlacedIn l (earlier f g)
unfolding earlier
earlier_placed l None g p q = q
earlier_placed l (Some o) None p q = p
earlier_placed l (Some o) (Some k) p q = at_placed l (min o k) (let h = p o refl in omega arith)

at_start : (l m n o : ℕ) → Refused m 0 ≡ Refused n o → o ≤ l
at_start l m n o e = let z : 0 ≡ o = cc in omega arith

-- one refusal at 0, or another
one_of : (l m : ℕ) (b : Bool) (r : Refusal) → ((n o : ℕ) → r ≡ Refused n o → o ≤ l) → (n o : ℕ) → (when b then Refused m 0 else r) ≡ Refused n o → o ≤ l
one_of l m true r q n o e = at_start l m n o e
one_of l m false r q n o e = q n o e

module _ (t : BookTables) (room : ℕ) where
  abbrev s : List ℕ
  s = bytes_of t

  after_one : (n o : ℕ)
      → (when not (eqb (total t.blocks) (length t.steps)) then Refused 2 0
      else or_refuse 2 (unknown_fault (rows t))
      (or_refuse 3 (order_fault s)
      (or_refuse 4 (count_fault s)
      (or_refuse 5 (earlier (spare_fault (rows t)) (range_fault s))
      (or_refuse 6 (name_fault s)
      (when ltb room (length s) then Refused 13 0 else Passed))))))
      ≡ Refused n o → o ≤ length s
  after_one =
      one_of (length s) 2 (not (eqb (total t.blocks) (length t.steps))) _
      (stage (length s) 2 (unknown_fault (rows t)) _ (first_placed _ 0 (length s) (rows t) (omega arith))
      (stage (length s) 3 (order_fault s) _ (order_placed s)
      (stage (length s) 4 (count_fault s) _ (count_placed s)
      (stage (length s) 5 (earlier (spare_fault (rows t)) (range_fault s)) _
      (earlier_placed (length s) (spare_fault (rows t)) (range_fault s) (first_placed _ 0 (length s) (rows t) (omega arith)) (range_placed s))
      (stage (length s) 6 (name_fault s) _ (name_placed s)
      (one_of (length s) 13 (ltb room (length s)) Passed (none_refused (length s))))))))

  pub write_place : (n o : ℕ) → unwritable t room ≡ Refused n o → o ≤ 32768
  unfolding unwritable
  write_place n o e = go (ltb 32768 (length s)) refl
    where
      go : (b : Bool) → ltb 32768 (length s) ≡ b → o ≤ 32768
      go true h = let x : Refused 1 0 ≡ Refused n o = simp h at e in at_start 32768 1 n o x
      go false h = omega (arith, ltb-false 32768 (length s) h, after_one n o (simp h at e))

  pub write_length : unwritable t room ≡ Passed → length (bytes_of t) ≤ 32768
  unfolding unwritable
  write_length e = go (ltb 32768 (length s)) refl
    where
      go : (b : Bool) → ltb 32768 (length s) ≡ b → length (bytes_of t) ≤ 32768
      go true h = let x : Refused 1 0 ≡ Passed = simp h at e in impossible cc
      go false h = ltb-false 32768 (length s) h
