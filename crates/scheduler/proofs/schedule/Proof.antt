-- `schedule` meets its contract. The list of the spec has an answer for each need, in the order of the code; what is known at a step is gathered in `Known`,
-- and each arm is a law of `Stepping`, of the crate `interpreter`, over it. Assumes nothing.
mod Known
use mathlib.Core.Path.{refl}
use mathlib.Core.List.{[], ◌∷◌}
use borrow.Author.Rules.{rules}
use Rattle.tables.proofs.Saved.{jobs_start, jobs_narrow, jobs_room, jobs_on, jobs_end}
use Rattle.interpreter.proofs.Opened.{open_listed}
use Rattle.interpreter.proofs.Playing.{first_launched}
use Rattle.interpreter.proofs.Stepping.{step_stands, step_creates, step_gives, step_changes, step_lowers, step_launches, step_waits, step_room}
use Rattle.interpreter.proofs.Stepping.{step_free, step_give, step_lower, step_store, step_create, step_launch}
use Rattle.scheduler.proofs.Scheduling.{round_start, pending_fits, short_enough, round_short, round_small, round_entry, round_sized, round_turns, round_fits, round_falls, round_stops}
use Rattle.scheduler.proofs.Scheduling.{round_begins, round_over, round_inside, round_ends, round_stands, round_begun, round_end, round_bounds, goes_on, moves, launches}
use Rattle.scheduler.proofs.schedule.Proof.Known.{InvLoop, μ_loop, InvLoop2, μ_loop2, chosen, stepping}
use Rattle.scheduler.proofs.schedule.Statement.{statement}
use Rattle.scheduler.proofs.schedule.Tie as tie

pub schedule_spec : {M : Type 1} → statement M
schedule_spec =
    tie.close
    (tie.spec
    InvLoop
    μ_loop
    InvLoop2
    μ_loop2
    -- the tables at the start
    (λ c κs. open_listed _ _ _ _ c.requires.drawn)
    (λ c κs. search rules)
    (λ c κs. search rules)
    (λ c κs. search rules)
    (λ c. search rules)
    (λ c κs. short_enough c.requires)
    (λ c. search rules)
    (λ c. round_start _ _ _ _ _ _ _ _ c.requires _ _ _ _ _ (search
    rules) c.open_cells-held.ensures c.start_of-start.ensures c.fresh-first.ensures _ _ c.pend-ready.ensures)
    -- the next job
    (λ c κs. search rules)
    (λ c. pending_fits _ (round_entry c.loop-at.invariant _ (round_begins c.loop-at.invariant _ c.first_place-begin.ensures).0))
    (λ c. let f = round_begins c.loop-at.invariant _ c.first_place-begin.ensures in let l = f.0 in let r = f.1 in search rules)
    -- it has no step left: the others are looked at
    (λ c κs. round_begins c.loop-at.invariant _ c.first_place-begin.ensures)
    (λ c. search rules)
    (λ c. round_stops c.loop-at.invariant c.loop-at-test.true)
    (λ c. round_over c.loop-at.invariant _ c.first_place-begin.ensures c.loop-at-test.true _ c.next_of-found.ensures c.in-None.is)
    (λ c. search rules)
    -- the job, and its step
    (λ c. let f = round_turns c.loop-at.invariant in search rules)
    (λ c.
    let f = round_entry c.loop-at.invariant _ (round_inside c.loop-at.invariant _ (chosen c.before
    ).next) in
    search rules)
    (λ c. pending_fits _ (round_entry c.loop-at.invariant _ (round_inside c.loop-at.invariant _ (chosen c.before).next)))
    (λ c.
    let f = round_entry c.loop-at.invariant _ (round_inside c.loop-at.invariant _ (chosen c.before
    ).next) in
    search rules)
    (λ c κs. search rules)
    (λ c.
    let f = round_entry c.loop-at.invariant _ (round_inside c.loop-at.invariant _ (chosen c.before.before).next) in
    search rules)
    (λ c.
    let f = round_entry c.loop-at.invariant _ (round_inside c.loop-at.invariant _ (chosen c.before.before).next) in
    search rules)
    (λ c κs. search rules)
    (λ c κs.
    let n = (chosen c.before.before.before.before).next in
    step_stands _ _ _ (round_ends c.loop-at.invariant _ n _ _ c.offset_of-past.ensures _) (round_stands c.loop-at.invariant _ n _ _ c.offset_of-past.ensures))
    (λ c. search rules)
    (λ c κs. search rules)
    (λ c. search rules)
    (λ c. search rules)
    -- new: done
    (λ c κs.
    let s = stepping c.before in
    step_creates s.known _ c.byte-k.ensures c.if-k-eq-NEW.true)
    (λ c. search rules)
    (λ c κs.
    let s = stepping c.before.before.before.before in
    (round_small s.of.w _ _ s.known.r, s.of.w.going.holds.cells_fit))
    (λ c. let s = stepping c.before.before.before.before.before in let f = round_entry s.of.w _ s.known.r in search rules)
    (λ c. let s = stepping c.before.before.before.before.before in let f = round_entry s.of.w _ s.known.r in search rules)
    (λ c.
    let s = stepping c.before.before.before.before.before in
    let f = step_room s.known _ _ refl _ _ c.create-x.ensures _ _ c.in-Create.is in
    search rules)
    (λ c.
    let s = stepping c.before.before.before.before.before in
    let f = step_room s.known _ _ refl _ _ c.create-x.ensures _ _ c.in-Create.is in
    search rules)
    (λ c.
    let s = stepping c.before.before.before.before.before in
    let f = step_room s.known _ _ refl _ _ c.create-x.ensures _ _ c.in-Create.is in
    search rules)
    (λ c κs. let s = stepping c.before.before.before.before.before in round_short s.of.w)
    (λ c.
    let s = stepping c.before.before.before.before.before.before in
    let f = round_entry s.of.w _ s.known.r in
    search rules)
    (λ c.
    let s = stepping c.before.before.before.before.before.before in
    let f = round_entry s.of.w _ s.known.r in
    search rules)
    (λ c. let s = stepping c.before.before.before.before.before.before in let f = round_fits s.of.w s.of.h in search rules)
    (λ c. let s = stepping c.before.before.before.before.before.before in round_falls s.of.w s.of.h)
    (λ c.
    let s = stepping c.before.before.before.before.before.before in
    goes_on s (step_create s.known _ _ refl _ _ c.create-x.ensures _ _ _ c.in-Create.is
    c.names-t.ensures) (moves s _ _ c.names-t.ensures.1 c.pend-p.ensures))
    -- blocked
    (λ c. let s = stepping c.before.before.before in let f = round_fits s.of.w s.of.h in search rules)
    (λ c. let s = stepping c.before.before.before in round_falls s.of.w s.of.h)
    (λ c.
    let s = stepping c.before.before.before in
    goes_on s (step_waits s.known _ _ refl _ _ c.create-x.ensures c.in_default.not-Create) s.of.w.pends)
    -- put, name, code, add, read: done
    (λ c κs.
    let s = stepping c.before.before in
    step_gives s.known _ c.byte-k.ensures c.if-k-eq-NEW.false c.if-k-lt-WRITE.true)
    (λ c. search rules)
    (λ c κs. let s = stepping c.before.before.before.before.before in round_small s.of.w _ _ s.known.r)
    (λ c.
    let s = stepping c.before.before.before.before.before.before in
    let f = round_entry s.of.w _ s.known.r in
    search rules)
    (λ c.
    let s = stepping c.before.before.before.before.before.before in
    let f = round_entry s.of.w _ s.known.r in
    search rules)
    (λ c κs. let s = stepping c.before.before.before.before.before.before in round_short s.of.w)
    (λ c.
    let s = stepping c.before.before.before.before.before.before.before in
    let f = round_entry s.of.w _ s.known.r in
    search rules)
    (λ c.
    let s = stepping c.before.before.before.before.before.before.before in
    let f = round_entry s.of.w _ s.known.r in
    search rules)
    (λ c.
    let s = stepping c.before.before.before.before.before.before.before in
    let f = round_fits s.of.w s.of.h in
    search rules)
    (λ c. let s = stepping c.before.before.before.before.before.before.before in round_falls s.of.w s.of.h)
    (λ c.
    let s = stepping c.before.before.before.before.before.before.before in
    goes_on s (step_give s.known _ _ refl _ _ c.give-x.ensures _ _ _ c.in-Give.is c.gets-t.ensures) (moves s _ _ c.gets-t.ensures.1 c.pend-p-in-Give.ensures))
    -- blocked
    (λ c. let s = stepping c.before.before.before.before in let f = round_fits s.of.w s.of.h in search rules)
    (λ c. let s = stepping c.before.before.before.before in round_falls s.of.w s.of.h)
    (λ c.
    let s = stepping c.before.before.before.before in
    goes_on s (step_waits s.known _ _ refl _ _ c.give-x.ensures c.in_default-x.not-Give) s.of.w.pends)
    -- write, relabel: done
    (λ c κs.
    let s = stepping c.before.before.before in
    step_changes s.known _ c.byte-k.ensures c.if-k-lt-WRITE.false c.if-k-lt-LOWER.true)
    (λ c. search rules)
    (λ c κs. let s = stepping c.before.before.before.before.before.before in round_small s.of.w _ _ s.known.r)
    (λ c.
    let s = stepping c.before.before.before.before.before.before.before in
    let f = round_entry s.of.w _ s.known.r in
    search rules)
    (λ c.
    let s = stepping c.before.before.before.before.before.before.before in
    let f = round_entry s.of.w _ s.known.r in
    search rules)
    (λ c. search rules)
    (λ c. search rules)
    (λ c κs. let s = stepping c.before.before.before.before.before.before.before in round_short s.of.w)
    (λ c.
    let s = stepping c.before.before.before.before.before.before.before.before in
    let f = round_entry s.of.w _ s.known.r in
    search rules)
    (λ c.
    let s = stepping c.before.before.before.before.before.before.before.before in
    let f = round_entry s.of.w _ s.known.r in
    search rules)
    (λ c.
    let s = stepping c.before.before.before.before.before.before.before.before in
    let f = round_fits s.of.w s.of.h in
    search rules)
    (λ c. let s = stepping c.before.before.before.before.before.before.before.before in round_falls s.of.w s.of.h)
    (λ c.
    let s = stepping c.before.before.before.before.before.before.before.before in
    goes_on s (step_store s.known _ _ refl _ _ c.change-x.ensures _ _ c.in-Store.is c.moved-t.ensures) (moves s _ _ c.moved-t.ensures.1 c.pend-p-in-Store.ensures))
    -- blocked
    (λ c. let s = stepping c.before.before.before.before.before in let f = round_fits s.of.w s.of.h in search rules)
    (λ c. let s = stepping c.before.before.before.before.before in round_falls s.of.w s.of.h)
    (λ c.
    let s = stepping c.before.before.before.before.before in
    goes_on s (step_waits s.known _ _ refl _ _ c.change-x.ensures c.in_default-x-2.not-Store) s.of.w.pends)
    -- lower: done
    (λ c κs.
    let s = stepping c.before.before.before.before in
    step_lowers s.known _ c.byte-k.ensures c.if-k-eq-LOWER.true)
    (λ c. search rules)
    (λ c κs. let s = stepping c.before.before.before.before.before.before.before in round_small s.of.w _ _ s.known.r)
    (λ c.
    let s = stepping c.before.before.before.before.before.before.before.before in
    let f = round_entry s.of.w _ s.known.r in
    search rules)
    (λ c.
    let s = stepping c.before.before.before.before.before.before.before.before in
    let f = round_entry s.of.w _ s.known.r in
    search rules)
    (λ c κs. let s = stepping c.before.before.before.before.before.before.before.before in round_short s.of.w)
    (λ c.
    let s = stepping c.before.before.before.before.before.before.before.before.before in
    let f = round_entry s.of.w _ s.known.r in
    search rules)
    (λ c.
    let s = stepping c.before.before.before.before.before.before.before.before.before in
    let f = round_entry s.of.w _ s.known.r in
    search rules)
    (λ c.
    let s = stepping c.before.before.before.before.before.before.before.before.before in
    let f = round_fits s.of.w s.of.h in
    search rules)
    (λ c. let s = stepping c.before.before.before.before.before.before.before.before.before in round_falls s.of.w s.of.h)
    (λ c.
    let s = stepping c.before.before.before.before.before.before.before.before.before in
    goes_on s (step_lower s.known _ _ refl _ _ c.lower-x.ensures _ _ _ c.in-Lower.is c.lowered-t.ensures) (moves s _ _ c.lowered-t.ensures.1 c.pend-p-in-Lower.ensures))
    -- blocked
    (λ c. let s = stepping c.before.before.before.before.before.before in let f = round_fits s.of.w s.of.h in search rules)
    (λ c. let s = stepping c.before.before.before.before.before.before in round_falls s.of.w s.of.h)
    (λ c.
    let s = stepping c.before.before.before.before.before.before in
    goes_on s (step_waits s.known _ _ refl _ _ c.lower-x.ensures c.in_default-x-3.not-Lower) s.of.w.pends)
    -- start, exec, choose: done
    (λ c κs.
    let s = stepping c.before.before.before.before in
    step_launches s.known _ c.byte-k.ensures c.if-k-lt-LOWER.false c.if-k-eq-LOWER.false)
    (λ c. search rules)
    (λ c κs. let s = stepping c.before.before.before.before.before.before.before in round_small s.of.w _ _ s.known.r)
    (λ c.
    let s = stepping c.before.before.before.before.before.before.before.before in
    let f = round_entry s.of.w _ s.known.r in
    search rules)
    (λ c.
    let s = stepping c.before.before.before.before.before.before.before.before in
    let f = round_entry s.of.w _ s.known.r in
    search rules)
    (λ c κs. let s = stepping c.before.before.before.before.before.before.before.before in round_short s.of.w)
    (λ c.
    let s = stepping c.before.before.before.before.before.before.before.before.before in
    let f = round_entry s.of.w _ s.known.r in
    search rules)
    (λ c.
    let s = stepping c.before.before.before.before.before.before.before.before.before in
    let f = round_entry s.of.w _ s.known.r in
    search rules)
    (λ c κs. search rules)
    (λ c κs. search rules)
    (λ c.
    let s = stepping c.before.before.before.before.before.before.before.before.before.before.before in
    let f = step_free s.known _ _ refl _ _ c.launch-x.ensures _ _ _ c.in-Launch.is in
    search rules)
    (λ c.
    let s = stepping c.before.before.before.before.before.before.before.before.before.before.before in
    let f = step_free s.known _ _ refl _ _ c.launch-x.ensures _ _ _ c.in-Launch.is in
    search rules)
    (λ c κs.
    let s = stepping c.before.before.before.before.before.before.before.before.before.before.before in
    round_short s.of.w)
    (λ c.
    let s = stepping c.before.before.before.before.before.before.before.before.before.before.before.before in
    let f = step_free s.known _ _ refl _ _ c.launch-x.ensures _ _ _ c.in-Launch.is in
    search rules)
    (λ c.
    let s = stepping c.before.before.before.before.before.before.before.before.before.before.before.before in
    let f = step_free s.known _ _ refl _ _ c.launch-x.ensures _ _ _ c.in-Launch.is in
    search rules)
    (λ c.
    let s = stepping c.before.before.before.before.before.before.before.before.before.before.before.before in
    let f = step_free s.known _ _ refl _ _ c.launch-x.ensures _ _ _ c.in-Launch.is in
    search rules)
    (λ c.
    let s = stepping c.before.before.before.before.before.before.before.before.before.before.before.before in
    let f = round_fits s.of.w s.of.h in
    search rules)
    (λ c.
    let s = stepping c.before.before.before.before.before.before.before.before.before.before.before.before in
    round_falls s.of.w s.of.h)
    (λ c.
    let s = stepping c.before.before.before.before.before.before.before.before.before.before.before.before in
    goes_on s
    (step_launch s.known _ _ refl _ _ c.launch-x.ensures _ _ _ _ c.in-Launch.is c.moved-t-in-Launch.ensures _ _ c.start_of-opens.ensures
    c.fresh-child.ensures)
    (launches s _ _ c.moved-t-in-Launch.ensures.1 c.pend-p-in-Launch.ensures _ _ _ c.fresh-child.ensures.1 c.pend-c.ensures
    (step_free s.known _ _ refl _ _ c.launch-x.ensures _ _ _ c.in-Launch.is)))
    -- blocked
    (λ c. let s = stepping c.before.before.before.before.before.before in let f = round_fits s.of.w s.of.h in search rules)
    (λ c. let s = stepping c.before.before.before.before.before.before in round_falls s.of.w s.of.h)
    (λ c.
    let s = stepping c.before.before.before.before.before.before in
    goes_on s (step_waits s.known _ _ refl _ _ c.launch-x.ensures c.in_default-x-4.not-Launch) s.of.w.pends)
    -- the tables are saved
    (λ c κs. round_sized c.loop-at.invariant)
    (λ c.
    let f = round_begun c.loop-at.invariant c.loop-at-test.false in
    jobs_start _ _ _ f.0 (search rules) f.1 f.2)
    (λ c. search rules)
    (λ c. search rules)
    (λ c κs.
    let f = jobs_room _ _ _ _ c.loop-y.invariant c.loop-y-test.true in
    (jobs_narrow _ _ _ _ c.loop-y.invariant _ c.loop-y-test.true, f.0, f.1))
    (λ c. search rules)
    (λ c. search rules)
    (λ c. jobs_on _ _ _ _ c.loop-y.invariant _ _ c.loop-y-test.true c.save_job.ensures (search rules))
    (λ c. search rules)
    (λ c κs. search rules)
    (λ c. search rules)
    (λ c. search rules)
    (λ c. search rules)
    (λ c.
    let w = c.loop-at.invariant in
    let saved = jobs_end _ _ _ _ c.loop-y.invariant _ c.loop-y-test.false c.clear_from.ensures in
    let label = first_launched c.fresh-first.result _ c.fresh-first.ensures.0 in (
      round_end w c.loop-at-test.false _ label _ _ c.save_cells.ensures saved,
      round_bounds w,
    )))
