-- Laws of the exported run and the exported round: what the run or the round gave stands as variables with their equation.
--     launches                    a number as a launch label or none
--     call_refused, .., round_done     what the call answers, and what the lent memory holds; the place of its refusal has 32 bits
-- Assumes nothing.
use mathlib.Core.Path.{◌≡◌, refl, sym, ap, ◌∙◌}
use mathlib.Core.Bool.{Bool, true, false}
use mathlib.Core.List.{List}
use Prim.Native.Nat.{ℕ, ◌≤◌}
use native.Mathlib.Omega.{arith}
use lib.Dec.{ltb, eqb}
use lib.ListN.{length}
use mir.Val.{Fits}
use mir.Syntax.{w32}
use borrow.Author.Tests.{eq-eqb, ne_eqb}
use Rattle.labels.proofs.Impossible.{impossible}
use Rattle.labels.specs.declared.Label.{Label}
use Rattle.labels.specs.Labels.{is_above}
use Rattle.book.specs.Outcome.{Refusal, Passed, Refused}
use Rattle.book.specs.Control.{both}
use Rattle.book.specs.Book.{parse}
use Rattle.book.specs.Refusals.{unreadable}
use Rattle.book.proofs.Bounds.{refused_short}
use Rattle.events.specs.Bytes.{events_in, unplayable}
use Rattle.events.proofs.Bounds.{unplayed_short}
use Rattle.machine.specs.Launch.{Launch}
use Rattle.std.specs.Prelude.{None, Some}
use Rattle.machine.specs.Events.{first_bound, launch_label}
use Rattle.interpreter.specs.Run.{Run, or_next, untabled, unanswered, memory_refusal, unlaunched, refusal_by, unrunnable, ran}
use Rattle.interpreter.proofs.Ran.{refusal_is}
use Rattle.scheduler.specs.Rounds.{overlong, round_refusal, unroundable, Round, rounded}
use Rattle.rounds.proofs.RoundIsRun.{round_refusal_is}
use Rattle.xemdulba.specs.Calls.{label_of, launch_of, Call, ran_by, called, RoundCall, rounded_by, round_called}
use Rattle.xemdulba.proofs.Answers.{answers_fit}

-- l is the number as a label
module _ (n : ℕ) where
  pub launch_none : n ≡ 4294967295 → None ≡ launch_of n
  unfolding launch_of
  launch_none e = simp (eq-eqb _ _ e)

  pub launch_given : (n ≡ 4294967295 → ⊥) → (l : Label) → l ≡ label_of n → Some l ≡ launch_of n
  unfolding launch_of
  launch_given u l e = simp (ne_eqb _ _ u) (ap Some e)

pub ruleset launches = (launch_none, launch_given)

-- a refusal is at most at l
abbrev Short : ℕ → Refusal → Type 0
Short l f = (n o : ℕ) → f ≡ Refused n o → o ≤ l

passed_short : (l : ℕ) → Short l Passed
passed_short l n o e = impossible cc

start_short : (l k : ℕ) → Short l (Refused k 0)
start_short l k n o e = let z : 0 ≡ o = cc in omega arith

next_short : (l : ℕ) (f g : Refusal) → Short l f → Short l g → Short l (or_next f g)
unfolding or_next
next_short l Passed g p q = q
next_short l (Refused n o) g p q = p

tables_short : (l cells jobs : ℕ) → Short l (untabled cells jobs)
unfolding untabled
tables_short l cells jobs = go (both (eqb cells 576) (eqb jobs 3328)) refl
  where
    go : (b : Bool) → both (eqb cells 576) (eqb jobs 3328) ≡ b → Short l (untabled cells jobs)
    go true e = simp e (passed_short l)
    go false e = simp e (start_short l 10)

room_short : (l room count : ℕ) → Short l (unanswered room count)
unfolding unanswered
room_short l room count = go (ltb room count) refl
  where
    go : (b : Bool) → ltb room count ≡ b → Short l (unanswered room count)
    go true e = simp e (start_short l 11)
    go false e = simp e (passed_short l)

launch_short : (l : ℕ) (bound : Label) (launch : Launch) → Short l (unlaunched bound launch)
unfolding unlaunched
launch_short l bound None = passed_short l
launch_short l bound (Some k) = go (is_above k bound) refl
  where
    go : (b : Bool) → is_above k bound ≡ b → Short l (unlaunched bound (Some k))
    go true e = simp e (start_short l 14)
    go false e = simp e (passed_short l)

turns_short : (l turns : ℕ) → Short l (overlong turns)
unfolding overlong
turns_short l turns = go (ltb 4096 turns) refl
  where
    go : (b : Bool) → ltb 4096 turns ≡ b → Short l (overlong turns)
    go true e = simp e (start_short l 15)
    go false e = simp e (passed_short l)

module _ (b : List ℕ) (launch : Launch) where
  read_short : Short 65536 (unreadable b)
  read_short n o e = omega (arith, refused_short b n o e)

  -- f is the refusal of the list
  stages_short : (f : Refusal) → Short 65536 f → (count cells jobs room : ℕ)
      → Short 65536 (refusal_by (unreadable b) f (unlaunched (first_bound (parse b)) launch) count cells jobs room)
  unfolding refusal_by
  stages_short f h count cells jobs room =
      next_short 65536 (unreadable b) _ read_short
      (next_short 65536 f _ h
      (next_short 65536 (memory_refusal count cells jobs room) _
      (next_short 65536 (untabled cells jobs) _ (tables_short 65536 cells jobs) (room_short 65536 room count))
      (launch_short 65536 (first_bound (parse b)) launch)))

  run_short : (list : List ℕ) (cells jobs room : ℕ) → Short 65536 (unrunnable b launch list cells jobs room)
  run_short list cells jobs room = stages_short (unplayable list) (unplayed_short list) (length (events_in list)) cells jobs room

  round_short : (cells jobs room turns : ℕ) → Short 65536 (unroundable b launch cells jobs room turns)
  unfolding round_refusal
  round_short cells jobs room turns = next_short 65536 _ _ (stages_short Passed (passed_short 65536) turns cells jobs room) (turns_short 65536 turns)

-- what the run gave: its refusal, its counts, and the lent memory after it. It was given u, which is what the number k stands for.
module _ (b : List ℕ) (k : ℕ) (u : Launch) (eu : u ≡ launch_of k) (list cells jobs room : List ℕ) (f : Refusal) (n m : ℕ) (cells' jobs' room' : List ℕ)
    (e : ◌≡◌ {A = Run} (record { refusal = f; cell_count = n; job_count = m; cells = cells'; jobs = jobs'; answered = room' }) (ran b u list cells jobs room)) where
  pub call_refused : (i o : ℕ) → f ≡ Refused i o
      → ◌≡◌ {A = Call} (record { result = record { refusal = i; place = o; cells = 0; jobs = 0 }; cells = cells'; jobs = jobs'; answered = room' })
      (called (ran b (launch_of k) list cells jobs room))
  unfolding called ran_by
  call_refused i o ef = rw (← eu) (simp (← e, ef))

  pub call_place : (i o : ℕ) → f ≡ Refused i o → Fits w32 o
  call_place i o ef =
      let r = unrunnable b u list (length cells) (length jobs) (length room) in
      let x : f ≡ r = ap (λ (x : Run). x.refusal) e ∙ refusal_is r b (launch_label (parse b) u) list cells jobs room in
      answers_fit o (omega (arith, run_short b u list (length cells) (length jobs) (length room) i o (sym x ∙ ef)))

  pub call_done : f ≡ Passed
      → ◌≡◌ {A = Call} (record { result = record { refusal = 0; place = 0; cells = n; jobs = m }; cells = cells'; jobs = jobs'; answered = room' })
      (called (ran b (launch_of k) list cells jobs room))
  unfolding called ran_by
  call_done ef = rw (← eu) (simp (← e, ef))

-- what the round gave, likewise
module _ (b : List ℕ) (k : ℕ) (u : Launch) (eu : u ≡ launch_of k) (cells jobs room : List ℕ) (turns : ℕ) (f : Refusal) (n m t : ℕ) (cells' jobs' room' : List ℕ)
    (e : ◌≡◌ {A = Round} (record { run = record { refusal = f; cell_count = n; job_count = m; cells = cells'; jobs = jobs'; answered = room' }; turns = t })
    (rounded b u cells jobs room turns)) where
  pub round_refused : (i o : ℕ) → f ≡ Refused i o
      → ◌≡◌ {A = RoundCall} (record { result = record { refusal = i; place = o; cells = 0; jobs = 0; turns = 0 }; cells = cells'; jobs = jobs'; answered = room' })
      (round_called (rounded b (launch_of k) cells jobs room turns))
  unfolding round_called rounded_by
  round_refused i o ef = rw (← eu) (simp (← e, ef))

  pub round_place : (i o : ℕ) → f ≡ Refused i o → Fits w32 o
  round_place i o ef =
      let r = unroundable b u (length cells) (length jobs) (length room) turns in
      let x : f ≡ r = ap (λ (x : Round). x.run.refusal) e ∙ round_refusal_is r b (launch_label (parse b) u) cells jobs room turns in
      answers_fit o (omega (arith, round_short b u (length cells) (length jobs) (length room) turns i o (sym x ∙ ef)))

  pub round_done : f ≡ Passed
      → ◌≡◌ {A = RoundCall} (record { result = record { refusal = 0; place = 0; cells = n; jobs = m; turns = t }; cells = cells'; jobs = jobs'; answered = room' })
      (round_called (rounded b (launch_of k) cells jobs room turns))
  unfolding round_called rounded_by
  round_done ef = rw (← eu) (simp (← e, ef))
