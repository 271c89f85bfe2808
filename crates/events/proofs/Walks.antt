-- Laws of the events of a list, one after the other, for the loop that runs them: of what they say, beside the laws of any span.
--     EventsWhole, whole_start         from an offset on every event is whole; so it is from 0 in a list that passes
--     events_end, EventWalked, walk    the events from an offset on: none at the end, else the first and the rest
-- Assumes nothing.
use mathlib.Core.Path.{◌≡◌, refl}
use mathlib.Core.Bool.{Bool, true, false}
use mathlib.Core.List.{List, [], ◌∷◌}
use Prim.Native.Nat.{ℕ, ◌≤◌, ◌<◌}
use native.Mathlib.Omega.{arith}
use lib.Dec.{ltb}
use lib.ListN.{length}
use borrow.Author.Tests.{ltb-false}
use Rattle.labels.proofs.Impossible.{impossible}
use Rattle.book.specs.Missing.{Fault}
use Rattle.std.specs.Prelude.{None, Some}
use Rattle.book.specs.Outcome.{Passed, Refused}
use Rattle.book.specs.Control.{first}
use Rattle.book.specs.Refusals.{or_refuse}
use Rattle.book.proofs.Spans as by
use Rattle.events.specs.Bytes.{event_span, next_event, event_cut, offsets_from, event_at, events_from, event_fault, unplayable}

-- o is inside the list, and from o on every event is whole
pub record EventsWhole (l : List ℕ) (o : ℕ) : Type 0 where
  pub inside : o ≤ length l
  pub unfailing : first (event_cut l) (offsets_from l o) ≡ None

pub whole_start : (l : List ℕ) → event_fault l ≡ None → EventsWhole l 0
unfolding event_fault
whole_start l e = record { inside = omega arith; unfailing = e }

-- of a list that passes refusal 9
pub passed_whole : (l : List ℕ) → unplayable l ≡ Passed → EventsWhole l 0
unfolding unplayable or_refuse
passed_whole l e = long (ltb 65536 (length l)) refl (event_fault l) refl
  where
    long : (b : Bool) → ltb 65536 (length l) ≡ b → (f : Fault) → event_fault l ≡ f → EventsWhole l 0
    long true h f k = let z : Refused 9 0 ≡ Passed = simp h at e in impossible cc
    long false h (Some o) k = let z : Refused 9 o ≡ Passed = simp (h, k) at e in impossible cc
    long false h None k = whole_start l k

pub passed_short : (l : List ℕ) → unplayable l ≡ Passed → length l ≤ 65536
unfolding unplayable
passed_short l e = long (ltb 65536 (length l)) refl
  where
    long : (b : Bool) → ltb 65536 (length l) ≡ b → length l ≤ 65536
    long true h = let z : Refused 9 0 ≡ Passed = simp h at e in impossible cc
    long false h = ltb-false _ _ h

pub events_end : (l : List ℕ) (o : ℕ) → length l ≤ o → events_from l o ≡ []
unfolding events_from
events_end l o h = simp (by.offsets_end event_span l o h)

-- the event at o is whole, and so are those after it
pub record EventWalked (l : List ℕ) (o : ℕ) : Type 0 where
  pub further : o < next_event l o
  pub inside : next_event l o ≤ length l
  pub events : events_from l o ≡ event_at l o ∷ events_from l (next_event l o)
  pub rest : EventsWhole l (next_event l o)

pub walk : (l : List ℕ) (o : ℕ) → EventsWhole l o → o < length l → EventWalked l o
unfolding events_from
walk l o w h =
    let k = by.walk event_span l o w.unfailing h in
    record {
      further = omega (arith, k.spanned);
      inside = k.inside;
      events = simp k.list;
      rest = record { inside = k.inside; unfailing = k.rest };
    }
