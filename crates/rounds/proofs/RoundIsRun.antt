-- A round is the run on the steps that it chose.
--     round_is_run, lendable
-- Assumes nothing.
use mathlib.Core.Path.{◌≡◌, refl, sym, ap, ◌∙◌}
use mathlib.Core.List.{List}
use Prim.Native.Nat.{ℕ, ◌≤◌}
use native.Mathlib.Omega.{arith}
use lib.ListN.{length, length-map}
use Rattle.labels.specs.declared.Label.{Label}
use Rattle.book.specs.Outcome.{Refusal, Passed, Refused}
use Rattle.book.specs.Book.{parse}
use Rattle.machine.specs.declared.Event.TheVariants.{StepOf}
use Rattle.machine.specs.Histories.{lists}
use Rattle.machine.specs.Events.{table_size, launch_label, fresh_state}
use Rattle.events.specs.Bytes.{events_in}
use Rattle.interpreter.specs.Run.{or_next, refusal_by, unrunnable, played, ran_of}
use Rattle.running.proofs.Refusing.{refuse_none}
use Rattle.rotation.proofs.Rounds.{chosen_few}
use Rattle.scheduler.specs.Rounds.{unroundable, jobs_chosen, rounded_of}
use Rattle.rounds.specs.RoundIsRun.{step_list, RoundIsRun, Lendable}
use Rattle.rounds.proofs.Refusing.{allowed}
use Rattle.rounds.proofs.StepLists.{steps_long, steps_are, steps_play, chosen_bytes}

pub round_refusal_is : (r : Refusal) (book : List ℕ) (l : Label) (cells jobs room : List ℕ) (turns : ℕ) → (rounded_of r book l cells jobs room turns).run.refusal ≡ r
unfolding rounded_of played
round_refusal_is Passed book l cells jobs room turns = refl
round_refusal_is (Refused n o) book l cells jobs room turns = refl

-- no stage of a run refuses
runs : (read list launched : Refusal) (count cells jobs room : ℕ) → read ≡ Passed → list ≡ Passed → launched ≡ Passed → cells ≡ 576 → jobs ≡ 3328 → count ≤ room
    → refusal_by read list launched count cells jobs room ≡ Passed
unfolding refusal_by or_next
runs read list launched count cells jobs room r p l c j h = simp (r, p, l, ← refuse_none count cells jobs room c j h)

pub round_is_run : RoundIsRun
unfolding rounded_of ran_of played
round_is_run book launch cells jobs room turns e =
    let l = launch_label (parse book) launch in
    let js = jobs_chosen book l turns in
    let r = unroundable book launch (length cells) (length jobs) (length room) turns in
    let p : r ≡ Passed = sym (round_refusal_is r book l cells jobs room turns) ∙ e in
    let q = allowed book launch (length cells) (length jobs) (length room) turns p in
    let few : length js ≤ turns = chosen_few lists table_size (parse book) turns (fresh_state lists (parse book) l) 0 in
    let count : length (events_in (step_list js)) ≡ length js = ap length (steps_are js) ∙ length-map js StepOf in
    let ok : unrunnable book launch (step_list js) (length cells) (length jobs) (length room) ≡ Passed
    = runs _ _ _ _ _ _ _ q.0.read_is (steps_play js (omega (arith, q.2))) q.1 q.0.cells_are q.0.jobs_are (omega (arith, q.0.fits)) in
    record { same = rw (p, ok, steps_are js) refl; used = rw p (sym (steps_long js)) }

pub lendable : Lendable
lendable =
    record {
      bytes = λ book launch turns.
          chosen_bytes lists table_size (omega arith) (parse book) turns (fresh_state lists (parse book) (launch_label (parse book) launch)) 0 (omega arith);
      short = λ book launch turns.
          let l = launch_label (parse book) launch in
          let e = steps_long (jobs_chosen book l turns) in
          let h = chosen_few lists table_size (parse book) turns (fresh_state lists (parse book) l) 0 in
          omega arith;
    }
