-- Laws of reading: the stages one after the other, and what a book that passes them all has.
--     pass_whole            where refusal 2 does not hold, every record is whole
--     refuse1, .., refuse5  what read answers, from what its stages found
--     clears                the same of a book that refusals 1 to 5 do not hold of
--     Readable, readable    a book that none of refusals 1 to 6 holds of
-- Assumes nothing.
use mathlib.Core.Path.{◌≡◌, refl, sym, ◌∙◌}
use mathlib.Core.Bool.{Bool, true, false}
use mathlib.Core.List.{List}
use Prim.Native.Nat.{ℕ, ◌≤◌, ◌<◌}
use lib.Dec.{ltb}
use lib.ListN.{length}
use borrow.Author.Tests.{lt-ltb, le-ltb, ltb-false}
use Rattle.labels.proofs.Impossible.{impossible}
use Rattle.book.specs.Missing.{Fault}
use Rattle.std.specs.Prelude.{None, Some}
use Rattle.book.specs.Outcome.{Refusal, Passed, Refused}
use Rattle.book.specs.declared.Outline.{Outline}
use Rattle.book.specs.Outline.{Reading}
use Rattle.book.specs.Control.{when◌then◌else◌}
use Rattle.book.specs.Refusals.{cut_fault, order_fault, count_fault, range_fault, name_fault, or_refuse, unreadable}
use Rattle.book.specs.Outline.{outline_of, refused_reading, reading_of, reading}
use Rattle.book.specs.Asked.{Whole, Small, Clear, Outlined}

-- what the stages pass on
pub pass_whole : (s : List ℕ) → cut_fault s ≡ None → Whole s 0
unfolding cut_fault
pass_whole s c2 = c2

-- a refusal of the whole, x
refused : (s : List ℕ) (n o : ℕ) (x : Reading) → x ≡ refused_reading n o → unreadable s ≡ Refused n o → x ≡ reading s
unfolding reading_of
refused s n o x ex e = ex ∙ rw e refl

pub refuse1 : (s : List ℕ) (x : Reading) → 32768 < length s → x ≡ refused_reading 1 0 → x ≡ reading s
unfolding unreadable
refuse1 s x h ex = refused s 1 0 x ex (simp (lt-ltb _ _ h))

module _ (s : List ℕ) (h : length s ≤ 32768) where
  pub refuse2 : (x : Reading) (o : ℕ) → cut_fault s ≡ Some o → x ≡ refused_reading 2 o → x ≡ reading s
  unfolding unreadable or_refuse
  refuse2 x o e ex = refused s 2 o x ex (simp (le-ltb _ _ h, e))

  module _ (c2 : cut_fault s ≡ None) where
    pub refuse3 : (x : Reading) (o : ℕ) → order_fault s ≡ Some o → x ≡ refused_reading 3 o → x ≡ reading s
    unfolding unreadable or_refuse
    refuse3 x o e ex = refused s 3 o x ex (simp (le-ltb _ _ h, c2, e))

    module _ (c3 : order_fault s ≡ None) where
      pub refuse4 : (x : Reading) (o : ℕ) → count_fault s ≡ Some o → x ≡ refused_reading 4 o → x ≡ reading s
      unfolding unreadable or_refuse
      refuse4 x o e ex = refused s 4 o x ex (simp (le-ltb _ _ h, c2, c3, e))

      module _ (c4 : count_fault s ≡ None) where
        pub refuse5 : (x : Reading) (o : ℕ) → range_fault s ≡ Some o → x ≡ refused_reading 5 o → x ≡ reading s
        unfolding unreadable or_refuse
        refuse5 x o e ex = refused s 5 o x ex (simp (le-ltb _ _ h, c2, c3, c4, e))

  -- what one that refusals 2 to 5 do not hold of passes on; f is what refusal 6 finds
  module _ (k : Clear s) where
    pub clear_small : Small s
    unfolding cut_fault
    clear_small = record { short = h; whole = k.whole; few = k.few }

    pub clear_outlined : (t : Outline) → t ≡ outline_of s → Outlined s t
    clear_outlined t et = record { small = clear_small; is = et }

    last : name_fault s ≡ None → unreadable s ≡ Passed
    unfolding unreadable or_refuse
    last e = simp (le-ltb _ _ h, k.whole, k.ordered, k.few, k.narrow, e)

    module _ (f : Fault) (ef : f ≡ name_fault s) where
      pub clear_refused : (x : Reading) (o : ℕ) → f ≡ Some o → x ≡ refused_reading 6 o → x ≡ reading s
      unfolding unreadable or_refuse
      clear_refused x o e ex = refused s 6 o x ex (simp (le-ltb _ _ h, k.whole, k.ordered, k.few, k.narrow, ← ef, e))

      pub clear_read : (t : Outline) → f ≡ None → t ≡ outline_of s → record { refusal = Passed; outline = t } ≡ reading s
      unfolding reading_of
      clear_read t e et = rw (last (sym ef ∙ e), et) refl

pub ruleset clears = (clear_small, clear_outlined, clear_refused, clear_read)

-- none of refusals 1 to 6 holds
pub record Readable (s : List ℕ) : Type 0 where
  pub short : length s ≤ 32768
  pub whole : cut_fault s ≡ None
  pub ordered : order_fault s ≡ None
  pub few : count_fault s ≡ None
  pub narrow : range_fault s ≡ None
  pub named : name_fault s ≡ None

stage : (n : ℕ) (f : Fault) (r : Refusal) → or_refuse n f r ≡ Passed → (f ≡ None) × (r ≡ Passed)
unfolding or_refuse
stage n None r e = (refl, e)
stage n (Some o) r e = impossible cc

first : (b : Bool) (r : Refusal) → (when b then Refused 1 0 else r) ≡ Passed → (b ≡ false) × (r ≡ Passed)
first true r e = impossible cc
first false r e = (refl, e)

pub readable : (s : List ℕ) → unreadable s ≡ Passed → Readable s
unfolding unreadable
readable s e =
    let a = first (ltb 32768 (length s)) _ e in
    let b = stage 2 (cut_fault s) _ a.1 in
    let c = stage 3 (order_fault s) _ b.1 in
    let d = stage 4 (count_fault s) _ c.1 in
    let f = stage 5 (range_fault s) _ d.1 in
    let g = stage 6 (name_fault s) _ f.1 in
    record { short = ltb-false _ _ a.0; whole = b.0; ordered = c.0; few = d.0; narrow = f.0; named = g.0 }
