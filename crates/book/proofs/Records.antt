-- Laws of the records of a book: those of any span, of the book's.
--     records_end, records_more     the records from an offset on
--     walk, falls                   what a whole record says of the next
-- Assumes nothing.
use mathlib.Core.Path.{◌≡◌}
use mathlib.Core.Bool.{false}
use mathlib.Core.List.{List, [], ◌∷◌}
use Prim.Native.Nat.{ℕ, ◌-◌, ◌≤◌, ◌<◌}
use lib.ListN.{length}
use Rattle.book.specs.Kinds.{span}
use Rattle.book.specs.Records.{next, cut, records_from}
use Rattle.book.specs.Asked.{Whole}
use Rattle.book.proofs.Spans as by

module _ (s : List ℕ) (o : ℕ) where
  pub records_end : length s ≤ o → records_from s o ≡ []
  records_end h = by.offsets_end span s o h

  pub records_more : o < length s → cut s o ≡ false → records_from s o ≡ o ∷ records_from s (next s o)
  records_more h k = by.offsets_more span s o h k

  pub walk : Whole s o → o < length s → by.Walked span s o
  walk w h = by.walk span s o w h

  pub falls : (p : ℕ) → Whole s o → o < length s → p ≡ next s o → length s - p < length s - o
  falls p w h e = by.falls span s o w h p e
