-- The integrity theorem: a book that the check accepts keeps the three sentences through every list of events.
--     integrity, throughout
-- Assumes nothing.
use mathlib.Core.Path.{◌≡◌, sym}
use mathlib.Core.List.Memᴰ
use mathlib.Core.List.{List, [], ◌∷◌}
use Prim.Native.Nat.{ℕ}
use Rattle.book.specs.Book.{Book, parse}
use Rattle.machine.specs.declared.Event.{Event}
use Rattle.machine.specs.Histories.{History, lists}
use Rattle.machine.specs.States.{State}
use Rattle.machine.specs.Events.{outcome_of, fresh_state, state_after}
use Rattle.integrity.specs.Integrity.{◌is_in◌, Integrity, Throughout, passed}
use Rattle.integrity.proofs.Bridge.{accepted}
use Rattle.integrity.proofs.Sentences.{kept}

pub integrity : Integrity
integrity bytes shapes cells blocks steps e size launch p events =
    kept (parse bytes) (accepted shapes cells blocks steps bytes e) size launch p events

-- a state that a list passes through is the state after a beginning of it
pub record Beginning (size : ℕ) (K : Book) (s t : State History) : Type 0 where
  pub events : List Event
  pub reached : state_after lists size K s events ≡ t

beginning : (size : ℕ) (K : Book) (es : List Event) (s t : State History) → t is_in passed size K s es → Beginning size K s t
unfolding state_after
beginning size K [] s t (Memᴰ.head e) = record { events = []; reached = sym e }
beginning size K [] s t (Memᴰ.tail m) = absurd (Memᴰ.not-nil m)
beginning size K (x ∷ xs) s t (Memᴰ.head e) = record { events = []; reached = sym e }
beginning size K (x ∷ xs) s t (Memᴰ.tail m) =
    let b = beginning size K xs (outcome_of lists size K s x).state t m in
    record { events = x ∷ b.events; reached = b.reached }

pub throughout : Throughout
throughout bytes shapes cells blocks steps e size launch p events s m =
    let b = beginning size (parse bytes) events (fresh_state lists (parse bytes) launch) s m in
    rw b.reached at (integrity bytes shapes cells blocks steps e size launch p b.events)
