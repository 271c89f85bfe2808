-- `play` meets its contract. The list of the spec has an answer for each need, in the order of the code; what is known at a step, and at an outsider's event,
-- is gathered in `Known`, and each arm is a law of `Stepping` or `Acting` over it. Assumes nothing.
mod Known
use mathlib.Core.Path.{refl}
use mathlib.Core.List.{[], ◌∷◌}
use borrow.Author.Rules.{rules}
use Rattle.tables.proofs.Saved.{jobs_start, jobs_narrow, jobs_room, jobs_on, jobs_end}
use Rattle.interpreter.proofs.Opened.{ready_drawn, open_listed}
use Rattle.interpreter.proofs.Playing.{first_launched, entry_fits, playing_start, playing_small, playing_sized, playing_begun, playing_end, playing_fit, playing_entry}
use Rattle.interpreter.proofs.Playing.{playing_few, playing_off, playing_whole, playing_fits, playing_falls, playing_step_falls, playing_past, playing_over, playing_none, goes_on}
use Rattle.interpreter.proofs.Stepping.{step_stands, step_creates, step_gives, step_changes, step_lowers, step_launches, step_waits, step_room}
use Rattle.interpreter.proofs.Stepping.{step_free, step_give, step_lower, step_store, step_create, step_launch}
use Rattle.interpreter.proofs.Acting.{acting_blocked, acting_give, acting_lower, acting_store, acting_room, acting_create, acting_free, acting_launch}
use Rattle.interpreter.proofs.play.Proof.Known.{InvLoop, μ_loop, InvLoop2, μ_loop2, stepping, acting}
use Rattle.interpreter.proofs.play.Statement.{statement}
use Rattle.interpreter.proofs.play.Tie as tie

pub play_spec : {M : Type 1} → statement M
play_spec =
    tie.close
    (tie.spec
    InvLoop
    μ_loop
    InvLoop2
    μ_loop2
    -- the tables at the start
    (λ c κs. open_listed _ _ _ _ (ready_drawn c.requires))
    (λ c κs. search rules) (λ c κs. search rules) (λ c κs. search rules) (λ c. search rules)
    (λ c.
    playing_start _ _ _ _ _ _ _ _ _ c.requires _ _ _ _ _
    (search rules) c.open_cells-held.ensures c.start_of.ensures
    c.fresh-first.ensures)
    -- an event: its answer's place and its kind
    (λ c. let f = playing_few c.loop-o.invariant c.loop-o-test.true in search rules)
    (λ c. search rules)
    -- a step: the job, and where its next step stands
    (λ c. let f = playing_off c.loop-o.invariant c.loop-o-test.true in search rules)
    (λ c. playing_whole c.loop-o.invariant c.loop-o-test.true c.if-kind-eq-STEP.true)
    (λ c. search rules)
    (λ c. let f = playing_off c.loop-o.invariant c.loop-o-test.true in search rules)
    (λ c. entry_fits _ (playing_entry c.loop-o.invariant _ c.if-i-m.true))
    (λ c. let f = playing_entry c.loop-o.invariant _ c.if-i-m.true in search rules)
    (λ c κs. search rules)
    -- no step left
    (λ c.
    let f = playing_fits c.loop-o.invariant c.loop-o-test.true in
    search rules)
    (λ c.
    playing_step_falls c.loop-o.invariant c.loop-o-test.true c.if-kind-eq-STEP.true _ refl)
    (λ c.
    playing_over c.loop-o.invariant c.loop-o-test.true c.if-kind-eq-STEP.true _
    refl c.if-i-m.true _ _ refl _ c.step_end-past.ensures
    c.if-past-eq0.true)
    (λ c κs. search rules)
    -- the job, the register that names its cell, and that cell
    (λ c.
    let f = playing_entry c.loop-o.invariant _ c.if-i-m.true in
    search rules)
    (λ c.
    let f = playing_entry c.loop-o.invariant _ c.if-i-m.true in
    search rules)
    (λ c κs. step_stands _ _ _ c.step_end-past.ensures c.if-past-eq0.false)
    (λ c. search rules) (λ c κs. search rules) (λ c. search rules) (λ c. search rules)
    -- new: done
    (λ c κs.
    let s = stepping c.before in
    step_creates s.known _ c.byte-k.ensures c.if-k-eq-NEW.true)
    (λ c. search rules)
    (λ c κs. let s = stepping c.before.before.before.before in (playing_small s.w _ _ s.known.r, s.w.cells_fit))
    (λ c. let s = stepping c.before.before.before.before.before in let f = playing_entry s.w _ s.known.r in search rules)
    (λ c. let s = stepping c.before.before.before.before.before in let f = playing_entry s.w _ s.known.r in search rules)
    (λ c.
    let s = stepping c.before.before.before.before.before in
    let f = step_room s.known _ _ refl _ _ c.create-x.ensures _ _ c.in-Create.is in
    search rules)
    (λ c.
    let s = stepping c.before.before.before.before.before in
    let f = step_room s.known _ _ refl _ _ c.create-x.ensures _ _ c.in-Create.is in
    search rules)
    (λ c.
    let s = stepping c.before.before.before.before.before in
    let f = step_room s.known _ _ refl _ _ c.create-x.ensures _ _ c.in-Create.is in
    search rules)
    (λ c. let s = stepping c.before.before.before.before.before in let f = playing_fits s.w s.h in search rules)
    (λ c. let s = stepping c.before.before.before.before.before in playing_step_falls s.w s.h s.here _ s.ei)
    (λ c.
    let s = stepping c.before.before.before.before.before in
    goes_on s (step_create s.known _ _ refl _ _ c.create-x.ensures _ _ _ c.in-Create.is c.names-t.ensures))
    -- blocked
    (λ c. let s = stepping c.before.before.before in let f = playing_fits s.w s.h in search rules)
    (λ c. let s = stepping c.before.before.before in playing_step_falls s.w s.h s.here _ s.ei)
    (λ c.
    let s = stepping c.before.before.before in
    goes_on s (step_waits s.known _ _ refl _ _ c.create-x.ensures c.in_default.not-Create))
    -- put, name, code, add, read: done
    (λ c κs.
    let s = stepping c.before.before in
    step_gives s.known _ c.byte-k.ensures c.if-k-eq-NEW.false c.if-k-lt-WRITE.true)
    (λ c. search rules)
    (λ c κs. let s = stepping c.before.before.before.before.before in playing_small s.w _ _ s.known.r)
    (λ c. let s = stepping c.before.before.before.before.before.before in let f = playing_entry s.w _ s.known.r in search rules)
    (λ c.
    let s = stepping c.before.before.before.before.before.before in
    let f = playing_entry s.w _ s.known.r in
    search rules)
    (λ c.
    let s = stepping c.before.before.before.before.before.before in
    let f = playing_fits s.w s.h in
    search rules)
    (λ c. let s = stepping c.before.before.before.before.before.before in playing_step_falls s.w s.h s.here _ s.ei)
    (λ c.
    let s = stepping c.before.before.before.before.before.before in
    goes_on s (step_give s.known _ _ refl _ _ c.give-x.ensures _ _ _ c.in-Give.is c.gets-t.ensures))
    -- blocked
    (λ c. let s = stepping c.before.before.before.before in let f = playing_fits s.w s.h in search rules)
    (λ c. let s = stepping c.before.before.before.before in playing_step_falls s.w s.h s.here _ s.ei)
    (λ c.
    let s = stepping c.before.before.before.before in
    goes_on s (step_waits s.known _ _ refl _ _ c.give-x.ensures c.in_default-x.not-Give))
    -- write, relabel: done
    (λ c κs.
    let s = stepping c.before.before.before in
    step_changes s.known _ c.byte-k.ensures c.if-k-lt-WRITE.false c.if-k-lt-LOWER.true)
    (λ c. search rules)
    (λ c κs. let s = stepping c.before.before.before.before.before.before in playing_small s.w _ _ s.known.r)
    (λ c.
    let s = stepping c.before.before.before.before.before.before.before in
    let f = playing_entry s.w _ s.known.r in
    search rules)
    (λ c.
    let s = stepping c.before.before.before.before.before.before.before in
    let f = playing_entry s.w _ s.known.r in
    search rules)
    (λ c. search rules) (λ c. search rules)
    (λ c.
    let s = stepping c.before.before.before.before.before.before.before in
    let f = playing_fits s.w s.h in
    search rules)
    (λ c.
    let s = stepping c.before.before.before.before.before.before.before in
    playing_step_falls s.w s.h s.here _ s.ei)
    (λ c.
    let s = stepping c.before.before.before.before.before.before.before in
    goes_on s (step_store s.known _ _ refl _ _ c.change-x.ensures _ _ c.in-Store.is c.moved-t.ensures))
    -- blocked
    (λ c. let s = stepping c.before.before.before.before.before in let f = playing_fits s.w s.h in search rules)
    (λ c. let s = stepping c.before.before.before.before.before in playing_step_falls s.w s.h s.here _ s.ei)
    (λ c.
    let s = stepping c.before.before.before.before.before in
    goes_on s (step_waits s.known _ _ refl _ _ c.change-x.ensures c.in_default-x-2.not-Store))
    -- lower: done
    (λ c κs.
    let s = stepping c.before.before.before.before in
    step_lowers s.known _ c.byte-k.ensures c.if-k-eq-LOWER.true)
    (λ c. search rules)
    (λ c κs. let s = stepping c.before.before.before.before.before.before.before in playing_small s.w _ _ s.known.r)
    (λ c.
    let s = stepping c.before.before.before.before.before.before.before.before in
    let f = playing_entry s.w _ s.known.r in
    search rules)
    (λ c.
    let s = stepping c.before.before.before.before.before.before.before.before in
    let f = playing_entry s.w _ s.known.r in
    search rules)
    (λ c.
    let s = stepping c.before.before.before.before.before.before.before.before in
    let f = playing_fits s.w s.h in
    search rules)
    (λ c.
    let s = stepping c.before.before.before.before.before.before.before.before in
    playing_step_falls s.w s.h s.here _ s.ei)
    (λ c.
    let s = stepping c.before.before.before.before.before.before.before.before in
    goes_on s (step_lower s.known _ _ refl _ _ c.lower-x.ensures _ _ _ c.in-Lower.is c.lowered-t.ensures))
    -- blocked
    (λ c. let s = stepping c.before.before.before.before.before.before in let f = playing_fits s.w s.h in search rules)
    (λ c. let s = stepping c.before.before.before.before.before.before in playing_step_falls s.w s.h s.here _ s.ei)
    (λ c.
    let s = stepping c.before.before.before.before.before.before in
    goes_on s (step_waits s.known _ _ refl _ _ c.lower-x.ensures c.in_default-x-3.not-Lower))
    -- start, exec: done
    (λ c κs.
    let s = stepping c.before.before.before.before in
    step_launches s.known _ c.byte-k.ensures c.if-k-lt-LOWER.false c.if-k-eq-LOWER.false)
    (λ c. search rules)
    (λ c κs. let s = stepping c.before.before.before.before.before.before.before in playing_small s.w _ _ s.known.r)
    (λ c.
    let s = stepping c.before.before.before.before.before.before.before.before in
    let f = playing_entry s.w _ s.known.r in
    search rules)
    (λ c.
    let s = stepping c.before.before.before.before.before.before.before.before in
    let f = playing_entry s.w _ s.known.r in
    search rules)
    (λ c κs. search rules) (λ c κs. search rules)
    (λ c.
    let s = stepping c.before.before.before.before.before.before.before.before.before.before in
    let f = step_free s.known _ _ refl _ _ c.launch-x.ensures _ _ _ c.in-Launch.is in
    search rules)
    (λ c.
    let s = stepping c.before.before.before.before.before.before.before.before.before.before in
    let f = step_free s.known _ _ refl _ _ c.launch-x.ensures _ _ _ c.in-Launch.is in
    search rules)
    (λ c.
    let s = stepping c.before.before.before.before.before.before.before.before.before.before in
    let f = step_free s.known _ _ refl _ _ c.launch-x.ensures _ _ _ c.in-Launch.is in
    search rules)
    (λ c.
    let s = stepping c.before.before.before.before.before.before.before.before.before.before in
    let f = playing_fits s.w s.h in
    search rules)
    (λ c.
    let s = stepping c.before.before.before.before.before.before.before.before.before.before in
    playing_step_falls s.w s.h s.here _ s.ei)
    (λ c.
    let s = stepping c.before.before.before.before.before.before.before.before.before.before in
    goes_on s (step_launch s.known _ _ refl _ _ c.launch-x.ensures _ _ _ _
    c.in-Launch.is c.moved-t-in-Launch.ensures _ _
    c.start_of-in-Launch.ensures c.fresh-child.ensures))
    -- blocked
    (λ c. let s = stepping c.before.before.before.before.before.before in let f = playing_fits s.w s.h in search rules)
    (λ c. let s = stepping c.before.before.before.before.before.before in playing_step_falls s.w s.h s.here _ s.ei)
    (λ c.
    let s = stepping c.before.before.before.before.before.before in
    goes_on s (step_waits s.known _ _ refl _ _ c.launch-x.ensures c.in_default-x-4.not-Launch))
    -- no such job
    (λ c. let f = playing_fits c.loop-o.invariant c.loop-o-test.true in search rules)
    (λ c.
    playing_step_falls c.loop-o.invariant c.loop-o-test.true c.if-kind-eq-STEP.true _ refl)
    (λ c.
    playing_past c.loop-o.invariant c.loop-o-test.true c.if-kind-eq-STEP.true _ refl c.if-i-m.false)
    -- an outsider's event: its cell, what it does, and the answer
    (λ c κs. search rules) (λ c κs. search rules) (λ c κs. search rules) (λ c κs. search rules) (λ c κs. search rules)
    (λ c. search rules) (λ c. search rules) (λ c κs. search rules) (λ c κs. search rules)
    (λ c.
    let f = playing_fits c.loop-o.invariant c.loop-o-test.true in
    search rules)
    (λ c. search rules)
    -- it is blocked, or leaves the tables as they are
    (λ c. let s = (acting c.before.before.before).known in playing_falls s.w s.h _ s.ep)
    (λ c.
    let a = (acting c.before.before.before).known in
    acting_blocked a _ _ refl _ c.act_outside-x.ensures _ c.answer.ensures c.in-Blocked.is)
    (λ c. search rules)
    (λ c. let s = (acting c.before.before.before).known in playing_falls s.w s.h _ s.ep)
    (λ c.
    let a = (acting c.before.before.before).known in
    acting_give a _ _ refl _ c.act_outside-x.ensures _ c.answer.ensures _ _ c.in-Give-x.is)
    (λ c. search rules)
    (λ c. let s = (acting c.before.before.before).known in playing_falls s.w s.h _ s.ep)
    (λ c.
    let a = (acting c.before.before.before).known in
    acting_lower a _ _ refl _ c.act_outside-x.ensures _ c.answer.ensures _ _ c.in-Lower-x.is)
    -- it stores
    (λ c. search rules) (λ c. search rules) (λ c. search rules)
    (λ c. let s = (acting c.before.before.before).known in playing_falls s.w s.h _ s.ep)
    (λ c.
    let a = (acting c.before.before.before).known in
    acting_store a _ _ refl _ c.act_outside-x.ensures _ c.answer.ensures _
    c.in-Store-x.is)
    -- it makes a cell
    (λ c. search rules)
    (λ c.
    let a = (acting c.before.before.before).known in
    let f = acting_room a _ _ refl _ c.act_outside-x.ensures _
    c.answer.ensures _ _ c.in-Create-x.is in
    search rules)
    (λ c.
    let a = (acting c.before.before.before).known in
    let f = acting_room a _ _ refl _ c.act_outside-x.ensures _
    c.answer.ensures _ _ c.in-Create-x.is in
    search rules)
    (λ c.
    let a = (acting c.before.before.before).known in
    let f = acting_room a _ _ refl _ c.act_outside-x.ensures _
    c.answer.ensures _ _ c.in-Create-x.is in
    search rules)
    (λ c. let s = (acting c.before.before.before).known in playing_falls s.w s.h _ s.ep)
    (λ c.
    let a = (acting c.before.before.before).known in
    acting_create a _ _ refl _ c.act_outside-x.ensures _ c.answer.ensures _ _
    c.in-Create-x.is)
    -- it starts a job
    (λ c. search rules) (λ c κs. search rules) (λ c κs. search rules)
    (λ c.
    let a = (acting c.before.before.before.before.before).known in
    let f = acting_free a _ _ refl _ c.act_outside-x.ensures _
    c.answer.ensures _ _ _ c.in-Launch-x.is in
    search rules)
    (λ c.
    let a = (acting c.before.before.before.before.before).known in
    let f = acting_free a _ _ refl _ c.act_outside-x.ensures _
    c.answer.ensures _ _ _ c.in-Launch-x.is in
    search rules)
    (λ c.
    let a = (acting c.before.before.before.before.before).known in
    let f = acting_free a _ _ refl _ c.act_outside-x.ensures _
    c.answer.ensures _ _ _ c.in-Launch-x.is in
    search rules)
    (λ c. let s = (acting c.before.before.before.before.before).known in playing_falls s.w s.h _ s.ep)
    (λ c.
    let a = (acting c.before.before.before.before.before).known in
    acting_launch a _ _ refl _ c.act_outside-x.ensures _
    c.answer.ensures _ _ _ c.in-Launch-x.is _ _
    c.start_of-in-Launch-x.ensures c.fresh-child-in-Launch-x.ensures)
    -- no such event
    (λ c.
    let f = playing_fits c.loop-o.invariant c.loop-o-test.true in
    search rules)
    (λ c.
    playing_falls c.loop-o.invariant c.loop-o-test.true _ c.next_event-o.ensures)
    (λ c.
    playing_none c.loop-o.invariant c.loop-o-test.true _ c.next_event-o.ensures
    c.if-kind-eq-STEP.false _ c.event_at-e.ensures _
    c.is_such-such.ensures c.if-such.false)
    -- the tables are saved
    (λ c κs. playing_sized c.loop-o.invariant)
    (λ c.
    let f = playing_begun c.loop-o.invariant c.loop-o-test.false in
    jobs_start _ _ _ f.0 (search rules) f.1 f.2)
    (λ c. search rules) (λ c. search rules)
    (λ c κs.
    let f = jobs_room _ _ _ _ c.loop-y.invariant c.loop-y-test.true in
    (jobs_narrow _ _ _ _ c.loop-y.invariant _ c.loop-y-test.true, f.0, f.1))
    (λ c. search rules) (λ c. search rules)
    (λ c.
    jobs_on _ _ _ _ c.loop-y.invariant _ _ c.loop-y-test.true
    c.save_job.ensures (search rules))
    (λ c. search rules) (λ c κs. search rules) (λ c. search rules) (λ c. search rules) (λ c. search rules)
    (λ c.
    let head = c in
    let w = head.loop-o.invariant in
    let begun = c in
    let saved = jobs_end _ _ _ _ c.loop-y.invariant _ c.loop-y-test.false c.clear_from.ensures in (
      playing_end w _ (first_launched begun.fresh-first.result _ begun.fresh-first.ensures.0) _ _ c.loop-o-test.false
          c.save_cells.ensures saved,
      playing_fit w,
    )))
