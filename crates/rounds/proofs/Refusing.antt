-- Laws of a round, for the code: what a callee gave stands as a variable with its equation.
--     turns_over, turns_few      the refusal of the number of turns
--     lends            the parts of the outline that the loop is lent
--     round_unread, .., round_passed      the whole
-- Assumes nothing.
use mathlib.Core.Path.{◌≡◌, refl, sym, ap, ◌∙◌}
use mathlib.Core.Bool.{Bool, true, false}
use mathlib.Core.List.{List}
use Prim.Native.Nat.{ℕ, ◌-◌, ◌<◌, ◌≤◌}
use lib.Dec.{ltb}
use lib.ListN.{length, take, drop, get_or}
use borrow.Author.Tests.{lt-ltb, le-ltb, ltb-false}
use Rattle.labels.proofs.Impossible.{impossible}
use Rattle.labels.specs.declared.Label.{Label}
use Rattle.labels.specs.Labels.{label}
use Rattle.book.specs.declared.Outline.{Outline}
use Rattle.std.specs.Prelude.{Ok, Err}
use Rattle.std.specs.Result.{result_and}
use Rattle.book.specs.declared.Refused as D
use Rattle.book.specs.declared.Ground.TheVariants.{ManyTurns}
use Rattle.book.specs.Outcome.{Refusal, Passed, Refused, Given, ground_number, outcome}
use Rattle.book.specs.Book.{parse}
use Rattle.book.specs.Refusals.{unreadable}
use Rattle.book.specs.Outline.{read_by, reading}
use Rattle.machine.specs.Launch.{Launch}
use Rattle.machine.specs.Events.{first_bound, launched_at, launch_label}
use Rattle.interpreter.specs.Run.{or_next, memory_refusal, unlaunched, refusal_by}
use Rattle.running.proofs.Drawing.{outline_cells, outline_starts, outline_drawn, read_is, outline_is, bound_is, label_is}
use Rattle.running.proofs.Refusing.{Passes, passes, and_is}
use Rattle.scheduler.specs.declared.TurnsUsed.{TurnsUsed}
use Rattle.scheduler.specs.Rounds.{overlong, round_refusal, unroundable, Round, round_by, rounded_of, rounded}
use Rattle.scheduler.specs.Scheduled.{Schedulable}
use Rattle.rounds.specs.Roundable.{Roundable}

module _ (turns : ℕ) where
  pub turns_over : 4096 < turns → (e : D.Refused) → e ≡ record { why = ManyTurns; place = 0 } → Refused (ground_number e.why) e.place ≡ overlong turns
  unfolding overlong
  turns_over h e q = rw q (simp (lt-ltb _ _ h))

  pub turns_few : turns ≤ 4096 → Passed ≡ overlong turns
  unfolding overlong
  turns_few h = simp (le-ltb _ _ h)

-- both stages passed
pub both_passed : (x y : Refusal) → or_next x y ≡ Passed → (x ≡ Passed) × (y ≡ Passed)
unfolding or_next
both_passed Passed y e = (refl, e)
both_passed (Refused n o) y e = impossible cc

pub turns_fit : (turns : ℕ) → overlong turns ≡ Passed → turns ≤ 4096
unfolding overlong
turns_fit turns e = go (ltb 4096 turns) refl
  where
    go : (t : Bool) → ltb 4096 turns ≡ t → turns ≤ 4096
    go true q = let x : Refused 15 0 ≡ Passed = simp q at e in impossible cc
    go false q = ltb-false 4096 turns q

-- the parts of the outline that the loop is lent
module _ (b : List ℕ) (t : Outline) (cells jobs before : List ℕ) (turns : ℕ) (y : Roundable b t cells jobs before turns) where
  pub lent_cells : t.counts.cells ≤ length t.offsets
  lent_cells = outline_cells b t y.readable y.outlined

  pub lent_starts : t.counts.blocks ≤ length t.starts
  lent_starts = outline_starts b t y.readable y.outlined

  pub lent_schedulable : Schedulable b t.shapes (take (t.counts.cells - 0) (drop 0 t.offsets)) (take (t.counts.blocks - 0) (drop 0 t.starts))
      cells jobs before turns
  lent_schedulable =
      record {
        drawn = outline_drawn b t y.readable y.outlined;
        cells_sized = y.cells_sized;
        jobs_sized = y.jobs_sized;
        room = y.room;
        few = y.few;
      }

pub ruleset lends = (lent_cells, lent_starts, lent_schedulable)

-- what a round that is not refused has
pub allowed : (book : List ℕ) (launch : Launch) (cells jobs room turns : ℕ) → unroundable book launch cells jobs room turns ≡ Passed
    → Passes (unreadable book) Passed turns cells jobs room × (unlaunched (first_bound (parse book)) launch ≡ Passed) × (turns ≤ 4096)
unfolding round_refusal refusal_by
allowed book launch cells jobs room turns e =
    let p = both_passed _ _ e in
    let q = passes (unreadable book) Passed (unlaunched (first_bound (parse book)) launch) turns cells jobs room (sym p.0) in
    (q, last_passed _ _ _ p.0, turns_fit turns p.1)
  where
    last_passed : (x y z : Refusal) → or_next x (or_next Passed (or_next y z)) ≡ Passed → z ≡ Passed
    last_passed x y z e = (both_passed y z (both_passed Passed (or_next y z) (both_passed x (or_next Passed (or_next y z)) e).1).1).1

after_read : (u v w : Refusal) → u ≡ Passed → or_next v w ≡ or_next (or_next u (or_next Passed v)) w
unfolding or_next
after_read u v w p = simp p

module _ (b : List ℕ) (launch : Launch) (cells jobs before : List ℕ) (turns : ℕ) where
  out : (r : Given TurnsUsed) (e : D.Refused) → r ≡ Err e
      → Refused (ground_number e.why) e.place ≡ unroundable b launch (length cells) (length jobs) (length before) turns
      → round_by r cells jobs before ≡ rounded b launch cells jobs before turns
  unfolding rounded_of
  out r e er h = ap (λ r. round_by r cells jobs before) er ∙ simp (← h)

  -- r is what the round gives
  pub round_unread : (r : Given TurnsUsed) (e : D.Refused) → r ≡ Err e → read_by (Err e) ≡ reading b
      → round_by r cells jobs before ≡ rounded b launch cells jobs before turns
  unfolding round_refusal refusal_by or_next
  round_unread r e er h =
      let k : Refused (ground_number e.why) e.place ≡ unreadable b = read_is b (read_by (Err e)) h in
      out r e er (simp (← k))

  -- t is the outline, x the memory's refusal, y that of the launch label, z that of the turns; v is the first of the first two, w that of all
  module _ (t : Outline) (et : read_by (Ok t) ≡ reading b)
      (x : Given (Unit {0})) (ex : outcome x ≡ memory_refusal turns (length cells) (length jobs) (length before))
      (y : Given (Unit {0})) (ey : outcome y ≡ unlaunched (label (get_or t.bounds 0 0)) launch)
      (z : Given (Unit {0})) (ez : outcome z ≡ overlong turns)
      (v : Given (Unit {0})) (ev : v ≡ result_and x y) (w : Given (Unit {0})) (ew : w ≡ result_and v z) where
    readable : unreadable b ≡ Passed
    readable = sym (read_is b (read_by (Ok t)) et)

    whole : outcome w ≡ unroundable b launch (length cells) (length jobs) (length before) turns
    unfolding round_refusal refusal_by
    whole =
        let k : label (get_or t.bounds 0 0) ≡ first_bound (parse b) = bound_is b (read_by (Ok t)) et readable in
        ap outcome ew ∙ and_is v z ∙ rw (ev, and_is x y, ex, ey, ez, k) (after_read (unreadable b) _ _ readable)

    pub round_unlent : (r : Given TurnsUsed) (e : D.Refused) → r ≡ Err e → w ≡ Err e → round_by r cells jobs before ≡ rounded b launch cells jobs before turns
    round_unlent r e er h = out r e er (ap outcome (sym h) ∙ whole)

    module _ (u : Unit {0}) (h : w ≡ Ok u) where
      none : Passed ≡ unroundable b launch (length cells) (length jobs) (length before) turns
      none = ap outcome (sym h) ∙ whole

      pub round_roundable : Roundable b t cells jobs before turns
      round_roundable =
          let p = allowed b launch (length cells) (length jobs) (length before) turns (sym none) in
          record {
            readable = p.0.read_is;
            outlined = outline_is b (read_by (Ok t)) et p.0.read_is;
            cells_sized = p.0.cells_are;
            jobs_sized = p.0.jobs_are;
            room = p.0.fits;
            few = p.2;
          }

      -- l is the label of job 0
      pub round_passed : (l : Label) → l ≡ launched_at t.c (label (get_or t.bounds 0 0)) launch → (x : Round)
          → x ≡ rounded_of Passed b l cells jobs before turns → x ≡ rounded b launch cells jobs before turns
      round_passed l el x ex =
          ex ∙ ap (λ l. rounded_of Passed b l cells jobs before turns) (label_is b (read_by (Ok t)) et readable launch l el)
          ∙ ap (λ f. rounded_of f b (launch_label (parse b) launch) cells jobs before turns) none
