-- `run` meets its contract. The refusals one after the other, and then what `finish` says. Assumes nothing.
use Rattle.std.proofs.Common.{Err, rules, ◌≡◌}
use Rattle.running.proofs.Refusing.{run_unread, run_unlisted, run_unlent, run_runnable, run_passed}
use Rattle.running.proofs.run.Goals as goal

pub returns-in_err-t-clause-answers_after : goal.returns-in_err-t-clause-answers_after
returns-in_err-t-clause-answers_after c =
    let h : c.from_residual.result ≡ Err _ = search rules in
    run_unread _ _ _ _ _ _ _ _ h c.in_err-t.ensures

pub returns-in_err-count-clause-answers_after : goal.returns-in_err-count-clause-answers_after
returns-in_err-count-clause-answers_after c =
    let h : c.from_residual-in_err-count.result ≡ Err _ = search rules in
    run_unlisted _ _ _ _ _ _ _ c.in_ok-t.ensures _ _ h c.in_err-count.ensures

pub returns-in_err-and-clause-answers_after : goal.returns-in_err-and-clause-answers_after
returns-in_err-and-clause-answers_after c =
    let h : c.from_residual-in_err-and.result ≡ Err _ = search rules in
    run_unlent _ _ _ _ _ _ _ c.in_ok-t.ensures _ c.in_ok-count.ensures _ c.refuse_memory-held.ensures _ c.refuse_launch-launched.ensures
    _ c.and.ensures _ _ h c.in_err-and.was

pub finish-used-requires : goal.finish-used-requires
finish-used-requires c =
    run_runnable _ _ _ _ _ _ _ c.in_ok-t.ensures _ c.in_ok-count.ensures _ c.refuse_memory-held.ensures _ c.refuse_launch-launched.ensures
    _ c.and.ensures _ c.in_ok-and.was

pub returns-clause-answers_after : goal.returns-clause-answers_after
returns-clause-answers_after c =
    run_passed _ _ _ _ _ _ _ c.in_ok-t.ensures _ c.in_ok-count.ensures _ c.refuse_memory-held.ensures _ c.refuse_launch-launched.ensures
    _ c.and.ensures _ c.in_ok-and.was _ c.launch_label-label.ensures _ c.finish-used.ensures.answers_after
