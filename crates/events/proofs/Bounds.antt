-- How far a refusal by 9 lies: no place is past the list's end.
--     unplayed_short     the place of a refusal by 9
-- Assumes nothing.
use mathlib.Core.Path.{◌≡◌, refl}
use mathlib.Core.Bool.{Bool, true, false}
use mathlib.Core.List.{List}
use Prim.Native.Nat.{ℕ, ◌≤◌}
use native.Mathlib.Omega.{arith}
use lib.Dec.{ltb}
use lib.ListN.{length}
use borrow.Author.Tests.{ltb-false}
use Rattle.book.specs.Outcome.{Passed, Refused}
use Rattle.book.proofs.Bounds.{PlacedIn, sweep_clean, offsets_below, stage, none_refused}
use Rattle.events.specs.Bytes.{event_span, event_fault, unplayable}

module _ (s : List ℕ) where
  fault_placed : PlacedIn (length s) (event_fault s)
  unfolding event_fault
  fault_placed = sweep_clean _ _ (length s) (offsets_below event_span s 0) tt

  pub unplayed_short : (n o : ℕ) → unplayable s ≡ Refused n o → o ≤ 65536
  unfolding unplayable
  unplayed_short n o e = go (ltb 65536 (length s)) refl
    where
      go : (b : Bool) → ltb 65536 (length s) ≡ b → o ≤ 65536
      go true h = let x : Refused 9 0 ≡ Refused n o = simp h at e in let z : 0 ≡ o = cc in omega arith
      go false h =
          let l = ltb-false 65536 (length s) h in
          let k : o ≤ length s = stage (length s) 9 (event_fault s) Passed fault_placed (none_refused (length s)) n o (simp h at e) in
          omega arith
