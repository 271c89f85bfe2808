-- What a launch label changes, and what it leaves.
--     launched           a run with a launch label, and without one
--     at_bound           a run that is given the bound is the run as it was before
--     default_passes     a run that is given none is never refused by 14
-- Assumes nothing.
use mathlib.Core.Path.{◌≡◌, refl, sym, ap, ◌∙◌}
use mathlib.Core.Bool.{true}
use mathlib.Core.List.{List}
use Prim.Native.Nat.{ℕ}
use native.Mathlib.Omega.{arith}
use lib.Dec.{ltb, eqb}
use lib.ListN.{length}
use borrow.Author.Tests.{le-ltb, le-leb, leb-true}
use Rattle.labels.proofs.Impossible.{impossible}
use Rattle.labels.specs.declared.Label.{Label}
use Rattle.labels.specs.Labels.{reaches, is_above}
use Rattle.book.specs.Missing.{Fault}
use Rattle.std.specs.Prelude.{None, Some}
use Rattle.book.specs.Outcome.{Refusal, Passed, Refused}
use Rattle.book.specs.Control.{both}
use Rattle.book.specs.Book.{parse}
use Rattle.book.specs.Refusals.{cut_fault, order_fault, count_fault, range_fault, name_fault, or_refuse, unreadable}
use Rattle.book.proofs.Tests.{if_both}
use Rattle.machine.specs.Launch.{Launch}
use Rattle.machine.specs.Events.{first_bound, launched_at, launch_label}
use Rattle.machine.proofs.Launched.{default_below}
use Rattle.events.specs.Bytes.{events_in, event_fault, unplayable}
use Rattle.interpreter.specs.Run.{or_next, untabled, unanswered, memory_refusal, unlaunched, refusal_by, unrunnable, played, ran_of, ran}
use Rattle.interpreter.proofs.Ran.{refusal_is}
use Rattle.running.specs.Launches.{earlier, ran_from, Launched, AtBound, DefaultPasses}

-- a last stage that passes plays no part
or_passed : (r : Refusal) → or_next r Passed ≡ r
unfolding or_next
or_passed Passed = refl
or_passed (Refused n o) = refl

or_assoc : (x y z : Refusal) → or_next x (or_next y z) ≡ or_next (or_next x y) z
unfolding or_next
or_assoc Passed y z = refl
or_assoc (Refused n o) y z = refl

same_run : (r : Refusal) (l : Label) (book list cells jobs room : List ℕ) → ran_of r book l list cells jobs room ≡ ran_from r l book list cells jobs room
unfolding ran_of played ran_from
same_run Passed l book list cells jobs room = refl
same_run (Refused n o) l book list cells jobs room = refl

module _ (book list cells jobs room : List ℕ) (launch : Launch) where
  -- 14 is the last stage
  last : unrunnable book launch list (length cells) (length jobs) (length room)
      ≡ or_next (earlier book list cells jobs room) (unlaunched (first_bound (parse book)) launch)
  unfolding refusal_by
  last =
      let memory = memory_refusal (length (events_in list)) (length cells) (length jobs) (length room) in
      ap (or_next (unreadable book)) (or_assoc (unplayable list) memory _) ∙ or_assoc (unreadable book) (or_next (unplayable list) memory) _

  from : (l : Label) (f : Refusal) → launch_label (parse book) launch ≡ l → unlaunched (first_bound (parse book)) launch ≡ f
      → ran book launch list cells jobs room ≡ ran_from (or_next (earlier book list cells jobs room) f) l book list cells jobs room
  from l f el ef =
      ap (λ l. ran_of (unrunnable book launch list (length cells) (length jobs) (length room)) book l list cells jobs room) el
      ∙ ap (λ r. ran_of r book l list cells jobs room) (last ∙ ap (or_next (earlier book list cells jobs room)) ef)
      ∙ same_run (or_next (earlier book list cells jobs room) f) l book list cells jobs room

  from_passed : (l : Label) → launch_label (parse book) launch ≡ l → unlaunched (first_bound (parse book)) launch ≡ Passed
      → ran book launch list cells jobs room ≡ ran_from (earlier book list cells jobs room) l book list cells jobs room
  from_passed l el ef = from l Passed el ef ∙ ap (λ r. ran_from r l book list cells jobs room) (or_passed (earlier book list cells jobs room))

up_to_passes : (b l : Label) → reaches b l ≡ true → unlaunched b (Some l) ≡ Passed
unfolding unlaunched
up_to_passes b l e = simp (le-ltb b.0 l.0 (leb-true l.0 b.0 e))

above_refused : (b l : Label) → is_above l b ≡ true → unlaunched b (Some l) ≡ Refused 14 0
unfolding unlaunched
above_refused b l e = simp e

pub launched : Launched
unfolding launched_at unlaunched
launched =
    record {
      up_to = λ book list cells jobs room l e. from_passed book list cells jobs room (Some l) l refl (up_to_passes (first_bound (parse book)) l e);
      above = λ book list cells jobs room l e. from book list cells jobs room (Some l) l (Refused 14 0) refl (above_refused (first_bound (parse book)) l e);
      none = λ book list cells jobs room. from_passed book list cells jobs room None _ refl refl;
    }

pub at_bound : AtBound
at_bound book list cells jobs room =
    launched.up_to book list cells jobs room (first_bound (parse book)) (le-leb (first_bound (parse book)).0 (first_bound (parse book)).0 (omega arith))

-- not refused by 14
data Other : Refusal → Type 0 where
  passed : Other Passed
  refused : (n o : ℕ) → (n ≡ 14 → ⊥) → Other (Refused n o)

or_other : (r s : Refusal) → Other r → Other s → Other (or_next r s)
unfolding or_next
or_other Passed s p q = q
or_other (Refused n o) s p q = p

stage_other : (n : ℕ) (f : Fault) (r : Refusal) → (n ≡ 14 → ⊥) → Other r → Other (or_refuse n f r)
unfolding or_refuse
stage_other n None r h p = p
stage_other n (Some o) r h p = refused n o h

read_other : (s : List ℕ) → Other (unreadable s)
unfolding unreadable
read_other s =
    if_both Other (ltb 32768 (length s)) (refused 1 0 (λ e. absurd (omega arith)))
    (stage_other 2 (cut_fault s) _ (λ e. absurd (omega arith))
    (stage_other 3 (order_fault s) _ (λ e. absurd (omega arith))
    (stage_other 4 (count_fault s) _ (λ e. absurd (omega arith))
    (stage_other 5 (range_fault s) _ (λ e. absurd (omega arith))
    (stage_other 6 (name_fault s) _ (λ e. absurd (omega arith)) passed)))))

played_other : (s : List ℕ) → Other (unplayable s)
unfolding unplayable
played_other s =
    if_both Other (ltb 65536 (length s)) (refused 9 0 (λ e. absurd (omega arith))) (stage_other 9 (event_fault s) _ (λ e. absurd (omega arith)) passed)

memory_other : (events cells jobs room : ℕ) → Other (memory_refusal events cells jobs room)
unfolding untabled unanswered
memory_other events cells jobs room =
    or_other _ _ (if_both Other (both (eqb cells 576) (eqb jobs 3328)) passed (refused 10 0 (λ e. absurd (omega arith))))
    (if_both Other (ltb room events) (refused 11 0 (λ e. absurd (omega arith))) passed)

default_other : (book list : List ℕ) (cells jobs room : ℕ) → Other (unrunnable book None list cells jobs room)
unfolding refusal_by unlaunched
default_other book list cells jobs room =
    or_other _ _ (read_other book) (or_other _ _ (played_other list) (or_other _ _ (memory_other (length (events_in list)) cells jobs room) passed))

never : {r : Refusal} (o : ℕ) → Other r → r ≡ Refused 14 o → ⊥
never o passed e = impossible cc
never o (refused n k h) e = h cc

pub default_passes : DefaultPasses
default_passes =
    record {
      below = default_below;
      passes = λ book list cells jobs room o e.
          never o (default_other book list (length cells) (length jobs) (length room)) (sym (refusal_is _ book _ list cells jobs room) ∙ e);
    }
