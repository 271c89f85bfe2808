-- Laws of the loop over the events, for the code: what a callee gave stands as a variable with its equation.
--     first_label   the label that job 0 has at the start
--     Playing      what holds at each turn
--     SomeStep     where a step's cell was looked up
--     plays        the laws
-- Assumes nothing.
use mathlib.Core.Path.{◌≡◌, refl, sym, ap, ◌∙◌}
use mathlib.Core.Bool.{Bool, false}
use mathlib.Core.List.{List, [], ◌∷◌, map}
use Prim.Native.Nat.{ℕ, ◌+◌, ◌*◌, ◌-◌, ◌<◌, ◌≤◌}
use native.Mathlib.Omega.{arith}
use borrow.Author.Rules.{Fits-under}
use mir.Val.{Fits}
use mir.Syntax.{w64}
use lib.ListN.{length, take, get_or, set, replicate, length-set, length-map}
use Rattle.labels.specs.declared.Label.{Label}
use Rattle.labels.specs.Labels.{label}
use Rattle.book.specs.Outcome.{Passed}
use Rattle.book.specs.Spans.{byte_at}
use Rattle.book.specs.Stretch.{step_end}
use Rattle.book.specs.Book.{parse, blocks_of, block_at}
use Rattle.book.specs.Outline.{shape_in, start_at}
use Rattle.book.proofs.Decoded as Decoded
use Rattle.book.proofs.Readable.{readable}
use Rattle.machine.specs.Histories.{sources}
use Rattle.machine.specs.declared.Event.{Event}
use Rattle.machine.specs.declared.Event.TheVariants.{StepOf}
use Rattle.machine.specs.States.{State}
use Rattle.machine.specs.States as States
use Rattle.machine.specs.Acts.{fresh_job}
use Rattle.events.specs.Bytes.{next_event, event_at, events_from, events_in}
use Rattle.events.proofs.Scans.{next_step}
use Rattle.events.proofs.Walks.{EventsWhole, walk, events_end, passed_whole, passed_short}
use Rattle.acts.specs.declared.StoredCell.{StoredCell}
use Rattle.acts.specs.declared.StoredJob.{StoredJob}
use Rattle.acts.specs.declared.Stored.{Stored}
use Rattle.acts.specs.Views.{job_of}
use Rattle.outsiders.specs.Outside.{such}
use Rattle.tables.specs.Bytes.{saved_cells, saved_jobs}
use Rattle.tables.specs.Asked.{NarrowJobs}
use Rattle.tables.specs.Opening.{start_in, opened_cells}
use Rattle.interpreter.specs.Loop.{Ready}
use Rattle.interpreter.specs.Run.{Run, played, ran_of}
use Rattle.interpreter.proofs.Lands.{cells_in_use, step_past, step_none}
use Rattle.interpreter.proofs.Events.{step_here, act_here, act_none}
use Rattle.interpreter.proofs.Going.{Going, Turned, going_start, answer_fits, going_turn, going_end}
use Rattle.interpreter.proofs.Narrows.{played_narrow}
use Rattle.interpreter.proofs.Opened.{ready_drawn, opened}
use Rattle.interpreter.proofs.Finishing.{finish_is}
use Rattle.interpreter.proofs.Stepping.{Stepping}

-- The loop does not look at the launch label, so its invariant is given the array of jobs as it was at the start.
abbrev pub first_label : List StoredJob → Label
first_label [] = label 0
first_label (j ∷ js) = j.label

pub first_launched : (j : StoredJob) (l : Label) → job_of j ≡ fresh_job sources 0 l l → j.label ≡ l
first_launched j l e = ap (λ (j : States.Job Label). j.label) e

-- job 0 was launched at this label; of the memory lent for the tables only its length matters
pub record Playing (b : List ℕ) (c launch : Label) (shapes offsets starts list room_cells room_jobs before now : List ℕ) (cells : List StoredCell)
    (n : ℕ) (jobs : List StoredJob) (m o at : ℕ) : Type 0 where
  pub setting : Ready b c shapes offsets starts list room_cells room_jobs before
  pub going : Going b launch (events_in list) (events_from list o) before now cells n jobs m at
  pub whole : EventsWhole list o
  pub long : length now ≡ length before
  pub cells_fit : n ≤ 64
  pub inside : o ≤ length list
  pub at_most : at ≤ o

-- the same run, its label by another name
at_label : {b : List ℕ} {c k launch : Label} {shapes offsets starts list room_cells room_jobs before now : List ℕ} {cells : List StoredCell} {n : ℕ}
    {jobs : List StoredJob} {m o at : ℕ} → k ≡ launch → Playing b c launch shapes offsets starts list room_cells room_jobs before now cells n jobs m o at
    → Playing b c k shapes offsets starts list room_cells room_jobs before now cells n jobs m o at
at_label e w = rw e w

pub playing_start : (b : List ℕ) (c : Label) (shapes offsets starts list room_cells room_jobs before : List ℕ)
    → Ready b c shapes offsets starts list room_cells room_jobs before → (l : Label)
    → (cells : List StoredCell) (none j : StoredJob) (start : ℕ) → length cells ≡ 64 → take (length offsets) cells ≡ opened_cells b offsets
    → start ≡ start_in starts 0 (length b) → (job_of j ≡ fresh_job sources 0 l l) × (j.at ≡ start) × (j.position ≡ 0) × (j.block ≡ 0)
    → Playing b c (first_label (set (replicate 64 none) 0 j)) shapes offsets starts list room_cells room_jobs before before cells (length offsets)
    (set (replicate 64 none) 0 j) 1 0 0
playing_start b c shapes offsets starts list room_cells room_jobs before y l cells none j start long e es f =
    let h = opened b shapes offsets starts (ready_drawn y) l cells none j start long e es f.0 f.1 f.2 f.3 in
    at_label (first_launched j l f.0)
    (record {
      setting = y;
      going = going_start b l (events_in list) before cells (length offsets) (set (replicate 64 none) 0 j) 1 h;
      whole = passed_whole list y.lent.playable;
      long = refl;
      cells_fit = h.cells_fit;
      inside = omega arith;
      at_most = omega arith;
    })

-- where an entry of the array of jobs lies
pub entry_fits : (i : ℕ) → i < 64 → Fits w64 (i * 80)
entry_fits i h = Fits-under w64 (i * 80) 5120 (omega arith) tt

pub blocks_count : (b starts : List ℕ) → starts ≡ map start_at (blocks_of b) → length starts ≡ length (parse b).blocks
unfolding parse
blocks_count b starts e = ap length e ∙ length-map (blocks_of b) start_at ∙ sym (length-map (blocks_of b) (block_at b))

module _ {b : List ℕ} {c launch : Label} {shapes offsets starts list room_cells room_jobs before now : List ℕ} {cells : List StoredCell} {n : ℕ} {jobs : List StoredJob}
    {m o at : ℕ}
    (w : Playing b c launch shapes offsets starts list room_cells room_jobs before now cells n jobs m o at) where
  -- the same run, with these answers, cells and jobs, at this offset and place
  abbrev RunAt : List ℕ → List StoredCell → ℕ → List StoredJob → ℕ → ℕ → ℕ → Type 0
  RunAt = Playing b c launch shapes offsets starts list room_cells room_jobs before

  -- every job of the array is where the book says
  pub playing_small : (i : ℕ) (d : StoredJob) → i < m → (get_or jobs i d).position < 65535
  playing_small i d h =
      let p = w.going.holds.placed i d h in
      let r = readable b w.setting.readable in
      omega (arith, p.behind, p.inside, r.short)

  pub playing_sized : (n ≤ 64) × (length room_cells ≡ 576)
  playing_sized = (w.cells_fit, w.setting.lent.cells_sized)

  pub playing_begun : length list ≤ o → (m ≤ 64) × (length room_jobs ≡ 3328) × NarrowJobs jobs m
  playing_begun h =
      let p = going_end w.going (events_end list o h) in
      (w.going.holds.jobs_fit, w.setting.lent.jobs_sized, played_narrow b launch _ before now cells n jobs m w.setting.readable p)

  pub playing_end : (l : Label) → launch ≡ l → (x y : List ℕ) → length list ≤ o → x ≡ saved_cells shapes (take n cells) → y ≡ saved_jobs (take m jobs)
      → ◌≡◌ {A = Run} (record { refusal = Passed; cell_count = n; job_count = m; cells = x; jobs = y; answered = now })
      (ran_of Passed b l list room_cells room_jobs before)
  unfolding ran_of played
  playing_end l el x y h ex ey =
      rw (← el)
      (finish_is b launch shapes (events_in list) before w.setting.shapes_are cells n jobs m now
      (going_end w.going (events_end list o h)) x y ex ey)

  pub playing_fit : (n ≤ 64) × (m ≤ 64)
  playing_fit = (w.cells_fit, w.going.holds.jobs_fit)

  pub playing_entry : (i : ℕ) → i < m → i < 64
  playing_entry i h = omega (arith, w.going.holds.jobs_fit)

  module _ (h : o < length list) where
    pub playing_few : at < 65536
    playing_few = omega (arith, w.at_most, passed_short list w.setting.lent.playable)

    pub playing_off : o < 65536
    playing_off = omega (arith, passed_short list w.setting.lent.playable)

    pub playing_fits : at < length now
    playing_fits = let f = answer_fits w.going (walk list o w.whole h).events w.setting.lent.room in omega (arith, w.long)

    pub playing_falls : (p : ℕ) → p ≡ next_event list o → length list - p < length list - o
    playing_falls p ep = let k = walk list o w.whole h in omega (arith, ep, k.further, k.inside)

    -- the event e, the offset p past it, and what holds behind it
    pub further : (e : Event) → e ≡ event_at list o → (p : ℕ) → p ≡ next_event list o → {a : ℕ} {cells' : List StoredCell} {n' : ℕ} {jobs' : List StoredJob} {m' : ℕ}
        → Turned b w.going.state e a cells' n' jobs' m'
        → RunAt (set now at a) cells' n' jobs' m' p (at + 1)
    further e ee p ep {a} {cells'} {n'} {jobs'} {m'} t =
        let k = walk list o w.whole h in
        record {
          setting = w.setting;
          going = going_turn w.going (k.events ∙ rw (ee, ep) refl) (answer_fits w.going k.events w.setting.lent.room) t;
          whole = rw ep k.rest;
          long = length-set now at a ∙ w.long;
          cells_fit = t.holds.cells_fit;
          inside = omega (arith, ep, k.inside);
          at_most = omega (arith, ep, k.further, w.at_most);
        }

    -- a step's job stands in the list
    pub playing_whole : get_or list o 0 ≡ 80 → o + 1 < length list
    playing_whole here = let k = walk list o w.whole h in omega (arith, next_step list o here, k.inside)

    -- a step of job i
    module _ (here : get_or list o 0 ≡ 80) (i : ℕ) (ei : i ≡ byte_at list (o + 1)) where
      pub event : StepOf i ≡ event_at list o
      event = ap StepOf ei ∙ step_here list o here

      pub playing_step_falls : length list - (o + 2) < length list - o
      playing_step_falls = playing_falls (o + 2) (next_step list o here)

      -- behind it
      pub onward : {a : ℕ} {cells' : List StoredCell} {n' : ℕ} {jobs' : List StoredJob} {m' : ℕ} → Turned b w.going.state (StepOf i) a cells' n' jobs' m'
          → RunAt (set now at a) cells' n' jobs' m' (o + 2) (at + 1)
      onward t = further (StepOf i) event (o + 2) (next_step list o here) t

      pub playing_past : m ≤ i → RunAt (set now at 3) cells n jobs m (o + 2) (at + 1)
      playing_past r = onward (record { state = w.going.state; lands = step_past w.going.holds i r; holds = w.going.holds })

      -- its next step stands at z, if its end u is not 0
      module _ (r : i < m) (d : StoredJob) (z : ℕ) (ez : z ≡ (get_or jobs i d).at) (u : ℕ) (eu : u ≡ step_end b z) where
        pub playing_over : u ≡ 0 → RunAt (set now at 2) cells n jobs m (o + 2) (at + 1)
        playing_over e =
            onward
            (record {
              state = w.going.state;
              lands = step_none w.going.holds i d r (rw (← ez) (sym (Decoded.step_none b z u eu e)));
              holds = w.going.holds;
            })

    module _ (p : ℕ) (ep : p ≡ next_event list o) where
      -- an outsider's event
      module _ (here : get_or list o 0 ≡ 80 → ⊥) (e : Event) (ee : e ≡ event_at list o) (f : Bool) (ef : f ≡ such c (shape_in shapes) (length starts) n e) where
        pub known : f ≡ such (parse b).c (shape_in shapes) (length starts) n e
        known = rw (← w.setting.c_is) ef

        pub playing_none : f ≡ false → RunAt (set now at 3) cells n jobs m p (at + 1)
        playing_none t =
            further e ee p ep
            (record {
              state = w.going.state;
              lands =
                  act_none b (shape_in shapes) w.setting.shapes_are (length starts) (blocks_count b starts w.setting.starts_are) w.going.state e
                  (act_here list o e here ee) n (cells_in_use w.going.holds) f known t;
              holds = w.going.holds;
            })

-- a step of the list whose cell was looked up, whatever it is called there
pub record SomeStep : Type 0 where
  pub b : List ℕ
  pub c : Label
  pub launch : Label
  pub shapes : List ℕ
  pub offsets : List ℕ
  pub starts : List ℕ
  pub list : List ℕ
  pub room_cells : List ℕ
  pub room_jobs : List ℕ
  pub before : List ℕ
  pub now : List ℕ
  pub cells : List StoredCell
  pub n : ℕ
  pub jobs : List StoredJob
  pub m : ℕ
  pub o : ℕ
  pub at : ℕ
  pub i : ℕ
  pub d : StoredJob
  pub z : ℕ
  pub u : ℕ
  pub t : Stored
  pub q : ℕ
  pub w : Playing b c launch shapes offsets starts list room_cells room_jobs before now cells n jobs m o at
  pub h : o < length list
  pub here : get_or list o 0 ≡ 80
  pub ei : i ≡ byte_at list (o + 1)
  pub known : Stepping b starts w.going.state cells n jobs m i d z u t q

-- behind it
pub goes_on : (s : SomeStep) {a : ℕ} {cells : List StoredCell} {n : ℕ} {jobs : List StoredJob} {m : ℕ}
    → Turned s.b s.w.going.state (StepOf s.i) a cells n jobs m
    → Playing s.b s.c s.launch s.shapes s.offsets s.starts s.list s.room_cells s.room_jobs s.before (set s.now s.at a) cells n jobs m
    (s.o + 2) (s.at + 1)
goes_on s t = onward s.w s.h s.here s.i s.ei t

pub ruleset plays = (
  playing_start,
  playing_small,
  playing_sized,
  playing_begun,
  playing_end,
  playing_fit,
  playing_entry,
  playing_few,
  playing_fits,
  playing_falls,
  playing_step_falls,
  playing_past,
  playing_over,
  playing_none,
)
