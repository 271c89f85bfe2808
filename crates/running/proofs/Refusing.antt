-- Laws of the run, for the code: what a callee gave stands as a variable with its equation.
--     memories, launches      the refusals of the memory and of a launch label
--     launch_labels           the label of job 0
--     lends                   the parts of the outline that the loop is lent
--     run_unread, run_unlisted, run_unlent, run_runnable, run_passed      the whole
-- Assumes nothing.
use mathlib.Core.Path.{◌≡◌, refl, sym, ap, ◌∙◌}
use mathlib.Core.Bool.{Bool, true, false}
use mathlib.Core.List.{List}
use Prim.Native.Nat.{ℕ, ◌+◌, ◌-◌, ◌<◌, ◌≤◌}
use native.Mathlib.Omega.{arith}
use lib.Dec.{ltb, eqb}
use lib.ListN.{length, take, drop, get_or}
use borrow.Author.Rules.{Fits-under}
use mir.Val.{Fits}
use mir.Syntax.{w8}
use borrow.Author.Tests.{lt-ltb, le-ltb, ltb-true, ltb-false, eq-eqb, ne_eqb, eqb-true}
use Rattle.labels.proofs.Impossible.{impossible}
use Rattle.labels.specs.declared.Label.{Label}
use Rattle.labels.specs.Labels.{label, lower, is_above}
use Rattle.book.specs.declared.Outline.{Outline}
use Rattle.book.specs.declared.Refused as D
use Rattle.book.specs.declared.Ground.TheVariants.{WrongTables, FewAnswers, HighLaunch}
use Rattle.book.specs.Outcome.{Refusal, Passed, Refused, Given, ground_number, outcome}
use Rattle.book.specs.Control.{both}
use Rattle.book.specs.Book.{parse}
use Rattle.book.specs.Refusals.{unreadable}
use Rattle.book.specs.Outline.{read_by, reading}
use Rattle.machine.specs.Launch.{Launch}
use Rattle.std.specs.Prelude.{None, Some, Ok, Err}
use Rattle.std.specs.Result.{result_and}
use Rattle.machine.specs.Events.{first_bound, launched_at, launch_label}
use Rattle.events.specs.Bytes.{Scanned}
use Rattle.events.specs.Bytes.{events_in, unplayable, scan_by, scan_of, scanned}
use Rattle.interpreter.specs.declared.InUse.{InUse}
use Rattle.interpreter.specs.Loop.{Ready}
use Rattle.running.specs.Runnable.{Runnable}
use Rattle.running.proofs.Drawing.{c_is, outline_cells, outline_starts, outline_drawn, read_is, outline_is, bound_is, label_is}
use Rattle.interpreter.specs.Run.{Run, or_next, untabled, unanswered, memory_refusal, unlaunched, refusal_by, unrunnable, run_by, ran_of, ran}

module _ (count cells jobs room : ℕ) where
  module _ (e : D.Refused) where
    pub refuse_cells : (cells ≡ 576 → ⊥) → e ≡ record { why = WrongTables; place = 0 } → Refused (ground_number e.why) e.place ≡ memory_refusal count cells jobs room
    unfolding or_next untabled both
    refuse_cells n h = rw h (simp (ne_eqb _ _ n))

    pub refuse_jobs : cells ≡ 576 → (jobs ≡ 3328 → ⊥) → e ≡ record { why = WrongTables; place = 0 }
        → Refused (ground_number e.why) e.place ≡ memory_refusal count cells jobs room
    unfolding or_next untabled both
    refuse_jobs c n h = rw h (simp (eq-eqb _ _ c, ne_eqb _ _ n))

    pub refuse_room : cells ≡ 576 → jobs ≡ 3328 → room < count → e ≡ record { why = FewAnswers; place = 0 }
        → Refused (ground_number e.why) e.place ≡ memory_refusal count cells jobs room
    unfolding or_next untabled both unanswered
    refuse_room c j l h = rw h (simp (eq-eqb _ _ c, eq-eqb _ _ j, lt-ltb _ _ l))

  pub refuse_none : cells ≡ 576 → jobs ≡ 3328 → count ≤ room → Passed ≡ memory_refusal count cells jobs room
  unfolding or_next untabled both unanswered
  refuse_none c j h = simp (eq-eqb _ _ c, eq-eqb _ _ j, le-ltb _ _ h)

pub ruleset memories = (refuse_cells, refuse_jobs, refuse_room, refuse_none)

-- the launch label's refusal; f is whether it is above the bound
module _ (bound : Label) (launch : Launch) where
  pub refuse_none_given : launch ≡ None → Passed ≡ unlaunched bound launch
  unfolding unlaunched
  refuse_none_given e = simp e

  module _ (l : Label) (e : launch ≡ Some l) (f : Bool) (ef : f ≡ is_above l bound) where
    pub refuse_above : f ≡ true → (r : D.Refused) → r ≡ record { why = HighLaunch; place = 0 } → Refused (ground_number r.why) r.place ≡ unlaunched bound launch
    unfolding unlaunched
    refuse_above t r h = rw h (simp (e, ← ef, t))

    pub refuse_not_above : f ≡ false → Passed ≡ unlaunched bound launch
    unfolding unlaunched
    refuse_not_above t = simp (e, ← ef, t)

pub ruleset launches = (refuse_none_given, refuse_above, refuse_not_above)

-- the label of job 0
module _ (c bound : Label) (launch : Launch) where
  pub label_given : (l : Label) → launch ≡ Some l → l ≡ launched_at c bound launch
  unfolding launched_at
  label_given l e = simp e

  -- f is whether the bound is above C
  module _ (e : launch ≡ None) (f : Bool) (ef : f ≡ is_above bound c) where
    pub label_low : f ≡ true → label (c.0 + 1) ≡ launched_at c bound launch
    unfolding launched_at lower
    label_low t = let h = ltb-true c.0 bound.0 (sym ef ∙ t) in simp e (ap label (omega arith))

    pub label_bound : f ≡ false → bound ≡ launched_at c bound launch
    unfolding launched_at lower
    label_bound t = let h = ltb-false c.0 bound.0 (sym ef ∙ t) in simp e (ap label (omega arith))

-- C plus 1 is a byte where the bound is above C
pub low_fits : (c bound : Label) → Fits w8 bound.0 → (f : Bool) → f ≡ is_above bound c → f ≡ true → Fits w8 (c.0 + 1)
low_fits c bound w f ef t = let h = ltb-true c.0 bound.0 (sym ef ∙ t) in Fits-under w8 (c.0 + 1) 256 (omega (arith, w.fits)) tt

pub ruleset launch_labels = (label_given, label_low, label_bound)

-- nothing is refused: each stage before the launch label's passed
pub record Passes (read played : Refusal) (count cells jobs room : ℕ) : Type 0 where
  pub read_is : read ≡ Passed
  pub played_is : played ≡ Passed
  pub cells_are : cells ≡ 576
  pub jobs_are : jobs ≡ 3328
  pub fits : count ≤ room

pub passes : (read played launched : Refusal) (count cells jobs room : ℕ) → Passed ≡ refusal_by read played launched count cells jobs room
    → Passes read played count cells jobs room
unfolding refusal_by or_next untabled both unanswered
passes (Refused n o) played launched count cells jobs room e = impossible cc
passes Passed (Refused n o) launched count cells jobs room e = impossible cc
passes Passed Passed launched count cells jobs room e = go (eqb cells 576) refl (eqb jobs 3328) refl (ltb room count) refl
  where
    go : (a : Bool) → eqb cells 576 ≡ a → (b : Bool) → eqb jobs 3328 ≡ b → (c : Bool) → ltb room count ≡ c
        → Passes Passed Passed count cells jobs room
    go true p true q false r =
        record { read_is = refl; played_is = refl; cells_are = eqb-true cells 576 p; jobs_are = eqb-true jobs 3328 q; fits = ltb-false room count r }
    go true p true q true r =
        let x : Passed ≡ Refused 11 0 = simp (p, q, r) at e in impossible cc
    go true p false q c r = let x : Passed ≡ Refused 10 0 = simp (p, q) at e in impossible cc
    go false p b q c r = let x : Passed ≡ Refused 10 0 = simp p at e in impossible cc

-- the parts of the outline that the loop is lent
module _ (b : List ℕ) (t : Outline) (list cells jobs before : List ℕ) (y : Runnable b t list cells jobs before) where
  pub lent_cells : t.counts.cells ≤ length t.offsets
  lent_cells = outline_cells b t y.readable y.outlined

  pub lent_starts : t.counts.blocks ≤ length t.starts
  lent_starts = outline_starts b t y.readable y.outlined

  pub lent_ready : Ready b t.c t.shapes (take (t.counts.cells - 0) (drop 0 t.offsets)) (take (t.counts.blocks - 0) (drop 0 t.starts))
      list cells jobs before
  lent_ready =
      let d = outline_drawn b t y.readable y.outlined in
      record {
        readable = d.readable;
        c_is = c_is b t y.outlined;
        shapes_are = d.shapes_are;
        offsets_are = d.offsets_are;
        starts_are = d.starts_are;
        lent = y.lent;
      }

-- what a scan gave
scan_is : (list : List ℕ) (r : Scanned) → r ≡ scanned list → r.refusal ≡ unplayable list
unfolding scan_of
scan_is list r e = ap (λ (s : Scanned). s.refusal) e ∙ go (unplayable list)
  where
    go : (x : Refusal) → (scan_of x (length (events_in list))).refusal ≡ x
    go Passed = refl
    go (Refused n o) = refl

count_is : (list : List ℕ) (r : Scanned) → r ≡ scanned list → unplayable list ≡ Passed → r.count ≡ length (events_in list)
unfolding scan_of
count_is list r e p = ap (λ (s : Scanned). s.count) e ∙ simp p

-- the first of two refusals
pub and_is : {A B : Type 0} (x : Given A) (y : Given B) → outcome (result_and x y) ≡ or_next (outcome x) (outcome y)
unfolding or_next
and_is (Ok a) y = refl
and_is (Err e) y = refl

pub ok_passes : {A : Type 0} (x : Given A) (a : A) → x ≡ Ok a → outcome x ≡ Passed
ok_passes x a e = ap outcome e

both_pass : (u v w : Refusal) → u ≡ Passed → v ≡ Passed → w ≡ or_next u (or_next v w)
unfolding or_next
both_pass u v w p q = simp (p, q)

module _ (b : List ℕ) (launch : Launch) (list cells jobs before : List ℕ) where
  out : (r : Given InUse) (e : D.Refused) → r ≡ Err e
      → Refused (ground_number e.why) e.place ≡ unrunnable b launch list (length cells) (length jobs) (length before)
      → run_by r cells jobs before ≡ ran b launch list cells jobs before
  unfolding ran_of
  out r e er h = ap (λ r. run_by r cells jobs before) er ∙ simp (← h)

  -- r is what the run gives
  pub run_unread : (r : Given InUse) (e : D.Refused) → r ≡ Err e → read_by (Err e) ≡ reading b → run_by r cells jobs before ≡ ran b launch list cells jobs before
  unfolding refusal_by or_next
  run_unread r e er h =
      let k : Refused (ground_number e.why) e.place ≡ unreadable b = read_is b (read_by (Err e)) h in
      out r e er (simp (← k))

  -- t is the outline
  module _ (t : Outline) (et : read_by (Ok t) ≡ reading b) where
    readable : unreadable b ≡ Passed
    readable = sym (read_is b (read_by (Ok t)) et)

    pub run_unlisted : (r : Given InUse) (e : D.Refused) → r ≡ Err e → scan_by (Err e) ≡ scanned list
        → run_by r cells jobs before ≡ ran b launch list cells jobs before
    unfolding refusal_by or_next
    run_unlisted r e er h =
        let k : Refused (ground_number e.why) e.place ≡ unplayable list = scan_is list (scan_by (Err e)) h in
        out r e er (simp (readable, ← k))

    -- n is the number of events, x the memory's refusal, y that of the launch label, z the first of both
    module _ (n : ℕ) (en : scan_by (Ok n) ≡ scanned list)
        (x : Given (Unit {0})) (ex : outcome x ≡ memory_refusal n (length cells) (length jobs) (length before))
        (y : Given (Unit {0})) (ey : outcome y ≡ unlaunched (label (get_or t.bounds 0 0)) launch)
        (z : Given (Unit {0})) (ez : z ≡ result_and x y) where
      playable : unplayable list ≡ Passed
      playable = sym (scan_is list (scan_by (Ok n)) en)

      whole : outcome z ≡ unrunnable b launch list (length cells) (length jobs) (length before)
      unfolding refusal_by
      whole =
          let a : outcome z ≡ or_next (memory_refusal n (length cells) (length jobs) (length before)) (unlaunched (label (get_or t.bounds 0 0)) launch)
          = ap outcome ez ∙ and_is x y ∙ rw (ex, ey) refl in
          let m : n ≡ length (events_in list) = count_is list (scan_by (Ok n)) en playable in
          let k : label (get_or t.bounds 0 0) ≡ first_bound (parse b) = bound_is b (read_by (Ok t)) et readable in
          a ∙ rw (m, k) (both_pass _ _ _ readable playable)

      pub run_unlent : (r : Given InUse) (e : D.Refused) → r ≡ Err e → z ≡ Err e → run_by r cells jobs before ≡ ran b launch list cells jobs before
      run_unlent r e er h = out r e er (ap outcome (sym h) ∙ whole)

      module _ (u : Unit {0}) (h : z ≡ Ok u) where
        none : Passed ≡ unrunnable b launch list (length cells) (length jobs) (length before)
        none = ap outcome (sym h) ∙ whole

        pub run_runnable : Runnable b t list cells jobs before
        run_runnable =
            let p = passes _ _ (unlaunched (first_bound (parse b)) launch) _ _ _ _ none in
            record {
              readable = p.read_is;
              outlined = outline_is b (read_by (Ok t)) et p.read_is;
              lent = record { playable = p.played_is; room = p.fits; cells_sized = p.cells_are; jobs_sized = p.jobs_are };
            }

        -- l is the label of job 0
        pub run_passed : (l : Label) → l ≡ launched_at t.c (label (get_or t.bounds 0 0)) launch → (x : Run)
            → x ≡ ran_of Passed b l list cells jobs before → x ≡ ran b launch list cells jobs before
        run_passed l el x ex =
            ex ∙ ap (λ l. ran_of Passed b l list cells jobs before) (label_is b (read_by (Ok t)) et readable launch l el)
            ∙ ap (λ f. ran_of f b (launch_label (parse b) launch) list cells jobs before) none

pub ruleset lends = (lent_cells, lent_starts, lent_ready)
