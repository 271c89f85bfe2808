-- Laws of the loop over the turns, for the code: what a callee gave stands as a variable with its equation.
--     Rounding                         what holds at each turn
--     SomeJob, SomeTurn                where the next job was found; where the cell of its step was looked up
--     round_start, .., round_bounds    the laws of a turn
--     goes_on, moves, launches         what holds behind it
-- Assumes nothing.
use mathlib.Core.Path.{◌≡◌, refl, sym, ap, ◌∙◌}
use mathlib.Core.Bool.{true}
use mathlib.Core.List.{List, [], ◌∷◌, map}
use Prim.Native.Nat.{ℕ, suc, ◌+◌, ◌*◌, ◌-◌, ◌<◌, ◌≤◌}
use native.Mathlib.Omega.{arith}
use borrow.Author.Rules.{Fits-under}
use borrow.Author.Tests.{ltb-true, lt-ltb}
use mir.Val.{Fits}
use mir.Syntax.{w64}
use lib.ListN.{length, take, get_or, set, replicate, length-set, length-map}
use Rattle.labels.specs.declared.Label.{Label}
use Rattle.labels.specs.Labels.{label}
use Rattle.book.specs.Outcome.{Passed}
use Rattle.book.specs.Book.{parse}
use Rattle.book.specs.Stretch.{step_end}
use Rattle.book.proofs.Readable.{readable}
use Rattle.machine.specs.Histories.{sources}
use Rattle.machine.specs.declared.Event.{Event}
use Rattle.machine.specs.declared.Event.TheVariants.{StepOf}
use Rattle.machine.specs.States.{State}
use Rattle.machine.specs.Acts.{fresh_job}
use Rattle.machine.specs.Events.{table_size, Outcome}
use Rattle.acts.specs.declared.StoredCell.{StoredCell}
use Rattle.acts.specs.declared.StoredJob.{StoredJob}
use Rattle.acts.specs.declared.Stored.{Stored}
use Rattle.acts.specs.Views.{job_of}
use Rattle.tables.specs.Bytes.{saved_cells, saved_jobs}
use Rattle.tables.specs.Asked.{NarrowJobs}
use Rattle.tables.specs.Opening.{start_in, opened_cells}
use Rattle.interpreter.specs.Run.{Run, played}
use Rattle.interpreter.specs.Loop.{Holds, opening}
use Rattle.interpreter.proofs.Lands.{jobs_in_use}
use Rattle.interpreter.proofs.Going.{Going, Turned, going_start, going_turn, turn_state, going_count, going_end}
use Rattle.interpreter.proofs.Narrows.{played_narrow}
use Rattle.interpreter.proofs.Opened.{opened}
use Rattle.interpreter.proofs.Finishing.{finish_is}
use Rattle.interpreter.proofs.Stepping.{Stepping}
use Rattle.interpreter.proofs.Playing.{first_label, first_launched}
use Rattle.rotation.specs.declared.Pending.{Pending}
use Rattle.rotation.specs.Found.{JobFound}
use Rattle.std.specs.Prelude.{Some, None}
use Rattle.rotation.specs.Round.{first_place, scan, has_step, next_job, stepped, chosen_jobs}
use Rattle.rotation.specs.Scans.{is_pending}
use Rattle.rotation.proofs.Ring.{first_inside, scan_hits, scan_same}
use Rattle.rotation.proofs.Rounds.{next_passes, next_inside, chosen_on, chosen_over}
use Rattle.rotation.proofs.Images.{chosen_fresh}
use Rattle.scheduler.specs.Rounds.{Round, jobs_chosen, rounded_of}
use Rattle.scheduler.specs.Scheduled.{Schedulable, Pends}
use Rattle.scheduler.proofs.Waiting.{has_step_lem, pends_start, pends_moved, pends_launched}

-- the steps that a round of at most so many turns chooses, from a state and a place on, over sources
abbrev steps_from : List ℕ → ℕ → State Label → ℕ → List Event
steps_from b n s from = map StepOf (chosen_jobs sources table_size (parse b) n s from)

-- job 0 was launched at this label; of the memory lent for the tables only its length matters
pub record Rounding (b : List ℕ) (launch : Label) (shapes offsets starts room_cells room_jobs before : List ℕ) (turns : ℕ) (now : List ℕ) (cells : List StoredCell)
    (n : ℕ) (jobs : List StoredJob) (m : ℕ) (pending : List Pending) (from at most : ℕ) : Type 0 where
  pub setting : Schedulable b shapes offsets starts room_cells room_jobs before turns
  pub left : List Event
  pub going : Going b launch (steps_from b turns (opening b launch) 0) left before now cells n jobs m at
  pub left_is : left ≡ steps_from b (most - at) going.state from
  pub pends : Pends b jobs m pending
  pub long : length now ≡ length before
  pub at_most : at ≤ most
  pub few : most ≤ turns

-- the same round, its label by another name
at_label : {b : List ℕ} {k launch : Label} {shapes offsets starts room_cells room_jobs before : List ℕ} {turns : ℕ} {now : List ℕ} {cells : List StoredCell} {n : ℕ}
    {jobs : List StoredJob} {m : ℕ} {pending : List Pending} {from at most : ℕ} → k ≡ launch
    → Rounding b launch shapes offsets starts room_cells room_jobs before turns now cells n jobs m pending from at most
    → Rounding b k shapes offsets starts room_cells room_jobs before turns now cells n jobs m pending from at most
at_label e w = rw e w

pub round_start : (b shapes offsets starts room_cells room_jobs before : List ℕ) (turns : ℕ) → Schedulable b shapes offsets starts room_cells room_jobs before turns
    → (l : Label) (cells : List StoredCell) (none j : StoredJob) (start : ℕ) → length cells ≡ 64 → take (length offsets) cells ≡ opened_cells b offsets
    → start ≡ start_in starts 0 (length b) → (job_of j ≡ fresh_job sources 0 l l) × (j.at ≡ start) × (j.position ≡ 0) × (j.block ≡ 0)
    → (idle y : Pending) → y.past ≡ step_end b start
    → Rounding b (first_label (set (replicate 64 none) 0 j)) shapes offsets starts room_cells room_jobs before turns before cells (length offsets)
    (set (replicate 64 none) 0 j) 1 (set (replicate 64 idle) 0 y) 0 0 turns
unfolding going_start
round_start b shapes offsets starts room_cells room_jobs before turns y l cells none j start long e es f idle p ep =
    let h = opened b shapes offsets starts y.drawn l cells none j start long e es f.0 f.1 f.2 f.3 in
    at_label (first_launched j l f.0)
    (record {
      setting = y;
      left = steps_from b turns (opening b l) 0;
      going = going_start b l (steps_from b turns (opening b l) 0) before cells (length offsets) (set (replicate 64 none) 0 j) 1 h;
      left_is = ap (λ (k : ℕ). steps_from b k (opening b l) 0) (omega arith);
      pends = pends_start b none j idle p start f.1 ep;
      long = refl;
      at_most = omega arith;
      few = omega arith;
    })

-- where an entry of the array that is scanned lies
pub pending_fits : (i : ℕ) → i < 64 → Fits w64 (i * 2)
pending_fits i h = Fits-under w64 (i * 2) 128 (omega arith) tt

-- the book is no longer than refusal 1 allows
pub short_enough : {b shapes offsets starts room_cells room_jobs before : List ℕ} {turns : ℕ} → Schedulable b shapes offsets starts room_cells room_jobs before turns
    → length b ≤ 32768
short_enough {b} y = let r = readable b y.drawn.readable in omega (arith, r.short)

-- what is not 0 is above it
some_number : (u : ℕ) → (u ≡ 0 → ⊥) → 0 < u
some_number u z = omega arith

-- a job that is not in use
abbrev no_job : StoredJob
no_job = record { registers = []; at = 0; block = 0; position = 0; label = label 0; source = label 0 }

module _ {b : List ℕ} {launch : Label} {shapes offsets starts room_cells room_jobs before : List ℕ} {turns : ℕ} {now : List ℕ} {cells : List StoredCell} {n : ℕ}
    {jobs : List StoredJob} {m : ℕ} {pending : List Pending} {from at most : ℕ}
    (w : Rounding b launch shapes offsets starts room_cells room_jobs before turns now cells n jobs m pending from at most) where
  -- the same round, with these answers, cells and jobs, at this place and turn, to last to this one
  abbrev RoundAt : List ℕ → List StoredCell → ℕ → List StoredJob → ℕ → List Pending → ℕ → ℕ → ℕ → Type 0
  RoundAt = Rounding b launch shapes offsets starts room_cells room_jobs before turns

  abbrev holds : Holds b w.going.state cells n jobs m
  holds = w.going.holds

  pub round_short : length b ≤ 32768
  round_short = short_enough w.setting

  -- every job of the array is where the book says
  pub round_small : (i : ℕ) (d : StoredJob) → i < m → (get_or jobs i d).position < 65535
  round_small i d h = let p = holds.placed i d h in omega (arith, p.behind, p.inside, round_short)

  pub round_entry : (i : ℕ) → i < m → i < 64
  round_entry i h = omega (arith, holds.jobs_fit)

  pub round_sized : (n ≤ 64) × (length room_cells ≡ 576)
  round_sized = (holds.cells_fit, w.setting.cells_sized)

  pub round_turns : at < 4097
  round_turns = omega (arith, w.at_most, w.few, w.setting.few)

  pub round_fits : at < most → at < length now
  round_fits h = omega (arith, w.long, w.few, w.setting.room)

  pub round_falls : at < most → most - (at + 1) < most - at
  round_falls h = omega arith

  pub round_stops : at < most → at - at < most - at
  round_stops h = omega arith

  -- where the scan begins
  module _ (begin : ℕ) (eb : begin ≡ first_place from m) where
    pub round_begins : (begin < m) × (m ≤ 64)
    round_begins = (rw eb (first_inside from m holds.some_job), holds.jobs_fit)

    -- what it finds
    module _ (h : at < most) (found : JobFound) (ef : found ≡ scan (is_pending pending) m m begin) where
      found_is : next_job (parse b) w.going.state from ≡ found
      unfolding next_job
      found_is =
          ap (λ (m : ℕ). scan (has_step (parse b) w.going.state) m m (first_place from m)) (jobs_in_use holds)
          ∙ rw (← eb)
          (sym (scan_same (is_pending pending) (has_step (parse b) w.going.state) m
          (λ i r. has_step_lem holds i no_job r _ (w.pends.each i (record { past = 0 }) no_job r)) m begin round_begins.0)
          ∙ sym ef)

      more : most - at ≡ suc (most - (at + 1))
      more = omega arith

      pub round_over : found ≡ None → RoundAt now cells n jobs m pending from at at
      unfolding chosen_jobs
      round_over e =
          record {
            setting = w.setting;
            left = w.left;
            going = w.going;
            left_is =
                w.left_is ∙ ap (λ (k : ℕ). steps_from b k w.going.state from) more
                ∙ ap (map StepOf) (chosen_over sources table_size (parse b) (most - (at + 1)) w.going.state from (found_is ∙ e))
                ∙ ap (λ (k : ℕ). steps_from b k w.going.state from) (none at);
            pends = w.pends;
            long = w.long;
            at_most = omega arith;
            few = omega (arith, w.few);
          }
        where
          none : (k : ℕ) → 0 ≡ k - k
          none k = omega arith

      pub round_next : (i : ℕ) → found ≡ Some i → next_job (parse b) w.going.state from ≡ Some i
      round_next i e = found_is ∙ e

    -- the job there has a step left
    pub round_here : (p : Pending) → ((get_or pending begin p).past ≡ 0 → ⊥) → next_job (parse b) w.going.state from ≡ Some begin
    unfolding next_job
    round_here p z =
        let u = w.pends.each begin p no_job round_begins.0 in
        let one : m ≡ suc (m - 1) = omega (arith, holds.some_job) in
        let left : has_step (parse b) w.going.state begin ≡ true = sym (has_step_lem holds begin no_job round_begins.0 _ u) ∙ lt-ltb 0 _ (some_number _ z) in
        ap (λ (m : ℕ). scan (has_step (parse b) w.going.state) m m (first_place from m)) (jobs_in_use holds)
        ∙ rw (← eb)
        (ap (λ (k : ℕ). scan (has_step (parse b) w.going.state) m k begin) one ∙ scan_hits (has_step (parse b) w.going.state) m (m - 1) begin left)

  -- job i is next
  module _ (i : ℕ) (next : next_job (parse b) w.going.state from ≡ Some i) where
    pub round_inside : i < m
    round_inside = let l = next_inside (parse b) w.going.state from i next in omega (arith, jobs_in_use holds)

    -- its step ends at u
    module _ (p : Pending) (u : ℕ) (eu : u ≡ (get_or pending i p).past) where
      pub round_ends : (d : StoredJob) → u ≡ step_end b (get_or jobs i d).at
      round_ends d = eu ∙ w.pends.each i p d round_inside

      pub round_stands : u ≡ 0 → ⊥
      round_stands z =
          let l : 0 < u
          = ltb-true 0 u (has_step_lem holds i no_job round_inside u (round_ends no_job) ∙ next_passes (parse b) w.going.state from i next) in
          absurd (omega arith)

    -- the turn is done
    module _ (h : at < most) {a : ℕ} {cells' : List StoredCell} {n' : ℕ} {jobs' : List StoredJob} {m' : ℕ} {pending' : List Pending} where
      pub round_on : Turned b w.going.state (StepOf i) a cells' n' jobs' m' → Pends b jobs' m' pending'
          → RoundAt (set now at a) cells' n' jobs' m' pending' (i + 1) (at + 1) most
      round_on t p =
          let more : most - at ≡ suc (most - (at + 1)) = omega arith in
          let chosen : w.left ≡ StepOf i ∷ steps_from b (most - (at + 1)) (stepped sources table_size (parse b) w.going.state i) (suc i)
          = w.left_is ∙ ap (λ (k : ℕ). steps_from b k w.going.state from) more
          ∙ ap (map StepOf) (chosen_on sources table_size (parse b) (most - (at + 1)) w.going.state from i next) in
          let on : suc i ≡ i + 1 = omega arith in
          let fits : at < length before = let f = round_fits h in omega (arith, w.long) in
          record {
            setting = w.setting;
            left = steps_from b (most - (at + 1)) (stepped sources table_size (parse b) w.going.state i) (suc i);
            going = going_turn w.going chosen fits t;
            left_is =
                ap (λ (s : State Label). steps_from b (most - (at + 1)) s (suc i)) (ap (λ (o : Outcome Label). o.state) t.lands ∙ turn_state w.going chosen fits t)
                ∙ ap (steps_from b (most - (at + 1)) (going_turn w.going chosen fits t).state) on;
            pends = p;
            long = length-set now at a ∙ w.long;
            at_most = omega arith;
            few = w.few;
          }

  -- behind the last turn
  module _ (h : most ≤ at) where
    over : w.left ≡ []
    unfolding chosen_jobs
    over =
        let z : most - at ≡ 0 = omega (arith, w.at_most) in
        w.left_is ∙ ap (λ (k : ℕ). steps_from b k w.going.state from) z

    pub round_begun : (m ≤ 64) × (length room_jobs ≡ 3328) × NarrowJobs jobs m
    round_begun = (
      holds.jobs_fit,
      w.setting.jobs_sized,
      played_narrow b launch _ before now cells n jobs m w.setting.drawn.readable (going_end w.going over),
    )

    steps_are : (l : Label) → steps_from b turns (opening b l) 0 ≡ map StepOf (jobs_chosen b l turns)
    steps_are l = ap (map StepOf) (chosen_fresh table_size (parse b) turns l)

    pub round_end : (l : Label) → launch ≡ l → (x y : List ℕ) → x ≡ saved_cells shapes (take n cells) → y ≡ saved_jobs (take m jobs)
        → ◌≡◌ {A = Round}
        (record { run = record { refusal = Passed; cell_count = n; job_count = m; cells = x; jobs = y; answered = now }; turns = at })
        (rounded_of Passed b l room_cells room_jobs before turns)
    unfolding rounded_of
    round_end l el x y ex ey =
        let ran : ◌≡◌ {A = Run} (record { refusal = Passed; cell_count = n; job_count = m; cells = x; jobs = y; answered = now })
        (played b launch (map StepOf (jobs_chosen b launch turns)) before)
        = finish_is b launch shapes (steps_from b turns (opening b launch) 0) before w.setting.drawn.shapes_are cells n jobs m now (going_end w.going over) x y ex ey
        ∙ ap (λ (es : List Event). played b launch es before) (steps_are launch) in
        let used : at ≡ length (jobs_chosen b launch turns)
        = going_count w.going over ∙ ap length (steps_are launch) ∙ length-map (jobs_chosen b launch turns) StepOf in
        rw (← el) (rw (ran, used) refl)

  pub round_bounds : (n ≤ 64) × (m ≤ 64) × (at ≤ 4096)
  round_bounds = (holds.cells_fit, holds.jobs_fit, omega (arith, round_turns))

-- a turn whose job was found, whatever it is called there
pub record SomeJob : Type 0 where
  pub b : List ℕ
  pub launch : Label
  pub shapes : List ℕ
  pub offsets : List ℕ
  pub starts : List ℕ
  pub room_cells : List ℕ
  pub room_jobs : List ℕ
  pub before : List ℕ
  pub turns : ℕ
  pub now : List ℕ
  pub cells : List StoredCell
  pub n : ℕ
  pub jobs : List StoredJob
  pub m : ℕ
  pub pending : List Pending
  pub from : ℕ
  pub at : ℕ
  pub most : ℕ
  pub i : ℕ
  pub w : Rounding b launch shapes offsets starts room_cells room_jobs before turns now cells n jobs m pending from at most
  pub h : at < most
  pub next : next_job (parse b) w.going.state from ≡ Some i

-- the same where the cell of its step was looked up
pub record SomeTurn : Type 0 where
  pub of : SomeJob
  pub d : StoredJob
  pub z : ℕ
  pub u : ℕ
  pub t : Stored
  pub q : ℕ
  pub known : Stepping of.b of.starts of.w.going.state of.cells of.n of.jobs of.m of.i d z u t q

-- behind it
pub goes_on : (s : SomeTurn) {a : ℕ} {cells : List StoredCell} {n : ℕ} {jobs : List StoredJob} {m : ℕ} {pending : List Pending}
    → Turned s.of.b s.of.w.going.state (StepOf s.of.i) a cells n jobs m → Pends s.of.b jobs m pending
    → Rounding s.of.b s.of.launch s.of.shapes s.of.offsets s.of.starts s.of.room_cells s.of.room_jobs s.of.before s.of.turns
    (set s.of.now s.of.at a) cells n jobs m pending (s.of.i + 1) (s.of.at + 1) s.of.most
goes_on s t p = round_on s.of.w s.of.i s.of.next s.of.h t p

-- what is scanned, where the job that was stepped is g, and its next step stands at u
module _ (s : SomeTurn) (g : StoredJob) (y : Pending) (eg : g.at ≡ s.u) (ey : y.past ≡ step_end s.of.b s.u) where
  pub moves : Pends s.of.b (set s.of.jobs s.of.i g) s.of.m (set s.of.pending s.of.i y)
  moves = pends_moved s.of.w.pends s.of.w.going.holds.jobs_long g y s.u eg ey s.of.i s.known.r s.of.w.going.holds.jobs_fit

  -- and a job is new
  pub launches : (child : StoredJob) (c : Pending) (start : ℕ) → child.at ≡ start → c.past ≡ step_end s.of.b start → s.of.m < 64
      → Pends s.of.b (set (set s.of.jobs s.of.i g) s.of.m child) (s.of.m + 1) (set (set s.of.pending s.of.i y) s.of.m c)
  launches child c start ea ec l = pends_launched moves (length-set s.of.jobs s.of.i g ∙ s.of.w.going.holds.jobs_long) child c start ea ec l
