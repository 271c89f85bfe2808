-- A list of steps as bytes.
--     steps_are          its events
--     steps_play         refusal 9 does not hold of it
--     chosen_bytes       the numbers of the jobs that a round steps are bytes
-- Assumes nothing.
use mathlib.Core.Path.{◌≡◌, refl, sym, ap, ◌∙◌}
use mathlib.Core.Bool.{false}
use mathlib.Core.List.{List, [], ◌∷◌, map}
use Prim.Native.Nat.{ℕ, zero, suc, ◌+◌, ◌*◌, ◌<◌, ◌≤◌}
use native.Mathlib.Omega.{arith}
use lib.ListN.{length, drop}
use borrow.Author.Tests.{le-ltb}
use Rattle.labels.proofs.Impossible.{impossible}
use Rattle.std.specs.Prelude.{None}
use Rattle.book.specs.Outcome.{Passed}
use Rattle.book.specs.Control.{sweep, first}
use Rattle.book.specs.Spans.{byte_at, Bytes}
use Rattle.book.specs.Book.{Book}
use Rattle.book.specs.Refusals.{or_refuse}
use Rattle.book.proofs.Spans as by
use Rattle.machine.specs.declared.Event.TheVariants.{StepOf}
use Rattle.machine.specs.Histories.{Histories}
use Rattle.machine.specs.States.{State}
use Rattle.events.specs.Bytes.{event_span, next_event, event_cut, offsets_from, event_at, events_from, events_in, event_fault, unplayable}
use Rattle.events.proofs.Scans.{span_80, next_step}
use Rattle.events.proofs.Walks.{events_end}
use Rattle.interpreter.proofs.Events.{step_here}
use Rattle.rotation.specs.Found.{JobFound}
use Rattle.std.specs.Prelude.{Some}
use Rattle.rotation.specs.Round.{next_job, stepped, place_after, chosen_jobs}
use Rattle.rotation.proofs.Kept.{kept}
use Rattle.rotation.proofs.Rounds.{next_inside, chosen_on, chosen_over}
use Rattle.rounds.specs.RoundIsRun.{step_list}

pub steps_long : (js : List ℕ) → length (step_list js) ≡ 2 * length js
steps_long [] = refl
steps_long (j ∷ js) = let e = steps_long js in omega arith

-- what is left of a list from o on begins with x
byte_left : (l : List ℕ) (o x : ℕ) (r : List ℕ) → drop o l ≡ x ∷ r → (byte_at l o ≡ x) × (o < length l) × (drop (o + 1) l ≡ r)
byte_left [] zero x r e = impossible cc
byte_left [] (suc o) x r e = impossible cc
byte_left (y ∷ ys) zero x r e = (cc, omega arith, cc)
byte_left (y ∷ ys) (suc o) x r e =
    let h = byte_left ys o x r e in
    let z : suc o + 1 ≡ suc (o + 1) = omega arith in
    (h.0, omega (arith, h.1), rw z h.2)

nothing_left : (l : List ℕ) (o : ℕ) → drop o l ≡ [] → length l ≤ o
nothing_left [] o e = omega arith
nothing_left (y ∷ ys) zero e = impossible cc
nothing_left (y ∷ ys) (suc o) e = let h = nothing_left ys o e in omega arith

-- from o on these steps stand in the list l
record Stand (l : List ℕ) (o : ℕ) (js : List ℕ) : Type 0 where
  events : events_from l o ≡ map StepOf js
  unfailing : first (event_cut l) (offsets_from l o) ≡ None

events_on : (l : List ℕ) (o j : ℕ) (js : List ℕ) → offsets_from l o ≡ o ∷ offsets_from l (o + 2) → StepOf j ≡ event_at l o → events_from l (o + 2) ≡ map StepOf js
    → events_from l o ≡ StepOf j ∷ map StepOf js
unfolding events_from
events_on l o j js more here rest = rw (more, here, ← rest) refl

stand : (l : List ℕ) (o : ℕ) (js : List ℕ) → drop o l ≡ step_list js → Stand l o js
unfolding sweep
stand l o [] e =
    let h = nothing_left l o e in
    record { events = events_end l o h; unfailing = simp (by.offsets_end event_span l o h) }
stand l o (j ∷ js) e =
    let k = byte_left l o 80 (j ∷ step_list js) e in
    let x = byte_left l (o + 1) j (step_list js) k.2 in
    let next : next_event l o ≡ o + 2 = sym (next_step l o k.0) in
    let on : o + 1 + 1 ≡ o + 2 = omega arith in
    let two : 2 ≡ event_span (byte_at l o) = span_80 (byte_at l o) k.0 in
    let last = x.1 in
    let whole : event_cut l o ≡ false = by.uncut event_span l o (λ z. absurd (omega arith)) (omega arith) in
    let rest = stand l (o + 2) js (rw on at x.2) in
    let more : offsets_from l o ≡ o ∷ offsets_from l (o + 2) = by.offsets_more event_span l o k.1 whole ∙ ap (λ (p : ℕ). o ∷ offsets_from l p) next in
    record {
      events = events_on l o j js more (ap StepOf (sym x.0) ∙ step_here l o k.0) rest.events;
      unfailing = sym (by.fault_more event_span l o _ refl k.1 whole) ∙ ap (λ (p : ℕ). first (event_cut l) (offsets_from l p)) next ∙ rest.unfailing;
    }

pub steps_are : (js : List ℕ) → events_in (step_list js) ≡ map StepOf js
steps_are js = (stand (step_list js) 0 js refl).events

pub steps_play : (js : List ℕ) → length js ≤ 32768 → unplayable (step_list js) ≡ Passed
unfolding unplayable event_fault or_refuse
steps_play js h =
    let e = steps_long js in
    let l : length (step_list js) ≤ 65536 = omega arith in
    simp (le-ltb 65536 (length (step_list js)) l, (stand (step_list js) 0 js refl).unfailing)

module _ (A : Histories) (size : ℕ) (few : size ≤ 256) (K : Book) where
  open A use {H}

  pub chosen_bytes : (n : ℕ) (s : State H) (from : ℕ) → length s.jobs ≤ size → Bytes (step_list (chosen_jobs A size K n s from))
  unfolding chosen_jobs
  chosen_bytes zero s from h = λ i. omega arith
  chosen_bytes (suc n) s from h = go (next_job K s from) refl (λ j. chosen_bytes n (stepped A size K s j) (place_after j))
    where
      go : (x : JobFound) → next_job K s from ≡ x
          → ((j : ℕ) → length (stepped A size K s j).jobs ≤ size → Bytes (step_list (chosen_jobs A size K n (stepped A size K s j) (place_after j))))
          → Bytes (step_list (chosen_jobs A size K (suc n) s from))
      go None e later = rw (chosen_over A size K n s from e) (λ i. omega arith)
      go (Some j) e later = rw (chosen_on A size K n s from j e) bytes
        where
          bytes : Bytes (80 ∷ j ∷ step_list (chosen_jobs A size K n (stepped A size K s j) (place_after j)))
          bytes zero = omega arith
          bytes (suc zero) = let l = next_inside K s from j e in omega arith
          bytes (suc (suc i)) = later j ((kept A size K s j).fits h) i
