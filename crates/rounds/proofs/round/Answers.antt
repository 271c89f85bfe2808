-- `round` meets its contract. The refusals one after the other, and then what `finish` says. Assumes nothing.
use Rattle.std.proofs.Common.{Err, rules, ◌≡◌}
use Rattle.rounds.proofs.Refusing.{round_unread, round_unlent, round_roundable, round_passed}
use Rattle.rounds.proofs.round.Goals as goal

pub returns-in_err-t-clause-answers_after : goal.returns-in_err-t-clause-answers_after
returns-in_err-t-clause-answers_after c =
    let h : c.from_residual.result ≡ Err _ = search rules in
    round_unread _ _ _ _ _ _ _ _ h c.in_err-t.ensures

pub returns-in_err-and-clause-answers_after : goal.returns-in_err-and-clause-answers_after
returns-in_err-and-clause-answers_after c =
    let h : c.from_residual-in_err-and.result ≡ Err _ = search rules in
    round_unlent _ _ _ _ _ _ _ c.in_ok-t.ensures _ c.refuse_memory-held.ensures _ c.refuse_launch-launched.ensures _ c.refuse_turns-few.ensures
    _ c.and.ensures _ c.and-2.ensures _ _ h c.in_err-and.was

pub finish-used-requires : goal.finish-used-requires
finish-used-requires c =
    round_roundable _ _ _ _ _ _ _ c.in_ok-t.ensures _ c.refuse_memory-held.ensures _ c.refuse_launch-launched.ensures _ c.refuse_turns-few.ensures
    _ c.and.ensures _ c.and-2.ensures _ c.in_ok-and.was

pub returns-clause-answers_after : goal.returns-clause-answers_after
returns-clause-answers_after c =
    round_passed _ _ _ _ _ _ _ c.in_ok-t.ensures _ c.refuse_memory-held.ensures _ c.refuse_launch-launched.ensures _ c.refuse_turns-few.ensures
    _ c.and.ensures _ c.and-2.ensures _ c.in_ok-and.was _ c.launch_label-label.ensures _ c.finish-used.ensures.answers_after
