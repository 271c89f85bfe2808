-- Laws of an outsider's act that is such, for the code, where its effect is known.
--     Acting, SomeAct                       what is known there; the same as one record
--     acting_blocked, .., acting_launch     what holds behind the event
-- Assumes nothing.
use mathlib.Core.Path.{◌≡◌, sym, ap, ◌∙◌}
use mathlib.Core.Bool.{Bool, true}
use mathlib.Core.List.{List}
use Prim.Native.Nat.{ℕ, ◌+◌, ◌<◌}
use native.Mathlib.Omega.{arith}
use lib.ListN.{length, get_or, set}
use Rattle.labels.specs.declared.Label.{Label}
use Rattle.book.specs.Outline.{shape_in}
use Rattle.machine.specs.Histories.{sources}
use Rattle.machine.specs.declared.Event.{Event}
use Rattle.machine.specs.States.{State}
use Rattle.machine.specs.Acts.{fresh_job}
use Rattle.events.specs.Bytes.{next_event, event_at}
use Rattle.acts.specs.declared.StoredCell.{StoredCell}
use Rattle.acts.specs.declared.StoredJob.{StoredJob}
use Rattle.acts.specs.declared.Stored.{Stored}
use Rattle.acts.specs.declared.Act.{Act}
use Rattle.acts.specs.declared.Act.TheVariants.{Blocked, Give, Lower, Store, Create, Launch}
use Rattle.acts.specs.Views.{job_of, nearby, effect_of, answer_of, clamped}
use Rattle.outsiders.specs.Outside.{such, aimed_at, outside}
use Rattle.interpreter.proofs.Nearby.{Allowed, store_inside, create_room, launch_room}
use Rattle.tables.specs.Opening.{start_in}
use Rattle.interpreter.specs.Loop.{Holds}
use Rattle.interpreter.proofs.Lands.{state_of, afterwards, cells_in_use, jobs_in_use, in_table, act_done, act_fits}
use Rattle.interpreter.proofs.Events.{act_here, act_some}
use Rattle.interpreter.proofs.Holding.{holds_entry, holds_store, holds_create, holds_launch}
use Rattle.interpreter.proofs.Starts.{placed_fresh}
use Rattle.interpreter.proofs.Stepping.{allowed_at, answering}
use Rattle.interpreter.proofs.Playing.{Playing, blocks_count, further, known}

-- the loop's variables, the offset p past the event e, the cell k that it reaches and its entry q of the table
pub record Acting (b : List ℕ) (c launch : Label) (shapes offsets starts list room_cells room_jobs before now : List ℕ) (cells : List StoredCell) (n : ℕ)
    (jobs : List StoredJob) (m o at p : ℕ) (e : Event) (f : Bool) (k q : ℕ) : Type 0 where
  pub w : Playing b c launch shapes offsets starts list room_cells room_jobs before now cells n jobs m o at
  pub h : o < length list
  pub ep : p ≡ next_event list o
  pub here : get_or list o 0 ≡ 80 → ⊥
  pub ee : e ≡ event_at list o
  pub ef : f ≡ such c (shape_in shapes) (length starts) n e
  pub t : f ≡ true
  pub ek : k ≡ aimed_at e
  pub eq : q ≡ clamped k

-- an act, whatever it is called there
pub record SomeAct : Type 0 where
  pub b : List ℕ
  pub c : Label
  pub launch : Label
  pub shapes : List ℕ
  pub offsets : List ℕ
  pub starts : List ℕ
  pub list : List ℕ
  pub room_cells : List ℕ
  pub room_jobs : List ℕ
  pub before : List ℕ
  pub now : List ℕ
  pub cells : List StoredCell
  pub n : ℕ
  pub jobs : List StoredJob
  pub m : ℕ
  pub o : ℕ
  pub at : ℕ
  pub p : ℕ
  pub e : Event
  pub f : Bool
  pub k : ℕ
  pub q : ℕ
  pub known : Acting b c launch shapes offsets starts list room_cells room_jobs before now cells n jobs m o at p e f k q

module _ {b : List ℕ} {c launch : Label} {shapes offsets starts list room_cells room_jobs before now : List ℕ} {cells : List StoredCell} {n : ℕ} {jobs : List StoredJob}
    {m o at p : ℕ} {e : Event} {f : Bool} {k q : ℕ}
    (act : Acting b c launch shapes offsets starts list room_cells room_jobs before now cells n jobs m o at p e f k q) where
  abbrev state : State Label
  state = act.w.going.state

  abbrev holds : Holds b state cells n jobs m
  holds = act.w.going.holds

  -- the cell there, what it does, x, and its answer, a
  module _ (dc cell : StoredCell) (ec : cell ≡ get_or cells q dc) (x : Act)
      (ex : effect_of (aimed_at e) x ≡ outside (nearby (record { cell = cell; cells = n; jobs = m })) e) (a : ℕ) (ea : a ≡ answer_of x) where
    -- behind the event, with these tables
    abbrev Onward : List StoredCell → ℕ → List StoredJob → ℕ → Type 0
    Onward cells' n' jobs' m' = Playing b c launch shapes offsets starts list room_cells room_jobs before (set now at a) cells' n' jobs' m' p (at + 1)

    sight : cell ≡ get_or cells (clamped (aimed_at e)) dc
    sight = ec ∙ ap (λ q. get_or cells q dc) (act.eq ∙ ap clamped act.ek)

    acted : (cells' : List StoredCell) (n' : ℕ) (jobs' : List StoredJob) (m' : ℕ)
        → Holds b (state_of state state k x) cells' n' jobs' m' → Onward cells' n' jobs' m'
    acted cells' n' jobs' m' v =
        further act.w act.h e act.ee p act.ep
        (record {
          state = state_of state state k x;
          lands = (act_done holds e dc cell sight x ex _
              (act_some b (shape_in shapes) act.w.setting.shapes_are (length starts) (blocks_count b starts act.w.setting.starts_are) state e
              (act_here list o e act.here act.ee) n (cells_in_use holds) f (known act.w act.h p act.ep act.here e act.ee f act.ef) act.t)
              ∙ ap (λ k. afterwards state state k x) (sym act.ek)
              ∙ ap (λ a. answering a (state_of state state k x)) (sym ea));
          holds = v;
        })

    allowed : Allowed state (effect_of k x)
    allowed = allowed_at state x k _ act.ek (act_fits holds e dc cell sight x ex)

    pub acting_blocked : x ≡ Blocked → Onward cells n jobs m
    unfolding state_of
    acting_blocked d = acted cells n jobs m (rw d holds)

    pub acting_give : (z : ℕ) (v : Stored) → x ≡ Give z v → Onward cells n jobs m
    unfolding state_of
    acting_give z v d = acted cells n jobs m (rw d holds)

    pub acting_lower : (l s : Label) → x ≡ Lower l s → Onward cells n jobs m
    unfolding state_of
    acting_lower l s d = acted cells n jobs m (rw d holds)

    pub acting_store : (z : StoredCell) → x ≡ Store z → Onward (set cells q z) n jobs m
    unfolding state_of effect_of
    acting_store z d =
        let u = store_inside state (rw d at allowed) in
        let qk : q ≡ k = act.eq ∙ in_table holds k (omega (arith, cells_in_use holds)) in
        acted (set cells q z) n jobs m
        (rw d (holds_entry cells z q k qk (holds_store holds z k)))

    module _ (z : ℕ) (y : StoredCell) (d : x ≡ Create z y) where
      pub acting_room : n < 64
      unfolding effect_of
      acting_room = let u = create_room state (rw d at allowed) in omega (arith, cells_in_use holds)

      pub acting_create : Onward (set cells n y) (n + 1) jobs m
      unfolding state_of
      acting_create =
          acted (set cells n y) (n + 1) jobs m
          (rw d (holds_create holds y acting_room))

    module _ (z : ℕ) (l s : Label) (d : x ≡ Launch z l s) where
      pub acting_free : m < 64
      unfolding effect_of
      acting_free = let u = launch_room state (rw d at allowed) in omega (arith, jobs_in_use holds)

      pub acting_launch : (start : ℕ) (child : StoredJob) → start ≡ start_in starts z (length b)
          → (job_of child ≡ fresh_job sources z l s) × (child.at ≡ start) × (child.position ≡ 0) × (child.block ≡ z) → Onward cells n (set jobs m child) (m + 1)
      unfolding state_of
      acting_launch start child st ch =
          acted cells n (set jobs m child) (m + 1)
          (rw d
          (holds_launch holds z l s child acting_free ch.0
          (placed_fresh b act.w.setting.readable starts act.w.setting.starts_are child z ch.3 ch.2 (ch.1 ∙ st))))
