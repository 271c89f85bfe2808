-- What `play`'s proof knows at the places that its arms share.
--     InvLoop, μ_loop, InvLoop2, μ_loop2      the invariants and measures of the loop over the events and of the loop that saves the jobs
--     Looked, stepping                          where a step's cell was looked up
--     Aimed, acting                             where an outsider's was
-- Assumes nothing.
use mathlib.Core.Path.{refl}
use Prim.Native.Nat.{◌-◌}
use lib.ListN.{length}
use Rattle.tables.proofs.Saved.{JobsIn}
use Rattle.interpreter.proofs.Playing.{first_label, Playing, SomeStep}
use Rattle.interpreter.proofs.Acting.{SomeAct}
use Rattle.interpreter.proofs.play.Tie as tie

abbrev pub InvLoop : tie.invariant-loop-o
InvLoop book c shapes offsets starts list cells jobs answers₀ held₀ begun₀ n₀ m₀ o₀ at₀ answers held begun n m o at =
    Playing book c (first_label begun₀) shapes offsets starts list cells jobs answers₀ answers held n begun m o at

abbrev pub μ_loop : tie.decreases-loop-o
μ_loop book c shapes offsets starts list cells jobs answers₀ held₀ begun₀ n₀ m₀ o₀ at₀ answers held begun n m o at =
    length list - o

abbrev pub InvLoop2 : tie.invariant-loop-y
InvLoop2 book shapes offsets starts list cells jobs₀ answers begun n m o at y₀ jobs y = JobsIn begun m jobs y

abbrev pub μ_loop2 : tie.decreases-loop-y
μ_loop2 book shapes offsets starts list cells jobs₀ answers begun n m o at y₀ jobs y = m - y

-- what is known where a step's cell was looked up
abbrev pub Looked : Type 0
Looked = tie.After-cell-1 InvLoop μ_loop InvLoop2 μ_loop2

abbrev pub stepping : Looked → SomeStep
stepping p =
    let turn = p in
    let begun = p in
    let w = begun.loop-o.invariant in
    record {
      b = _;
      c = _;
      launch = _;
      shapes = _;
      offsets = _;
      starts = _;
      list = _;
      room_cells = _;
      room_jobs = _;
      before = _;
      now = _;
      cells = _;
      n = _;
      jobs = _;
      m = _;
      o = _;
      at = _;
      i = _;
      d = _;
      z = _;
      u = _;
      t = _;
      q = _;
      w = w;
      h = begun.loop-o-test.true;
      here = begun.if-kind-eq-STEP.true;
      ei = refl;
      known = record {
        holds = w.going.holds;
        readable = w.setting.readable;
        starts_are = w.setting.starts_are;
        r = turn.if-i-m.true;
        ez = refl;
        eu = turn.step_end-past.ensures;
        un = turn.if-past-eq0.false;
        et = p.target_of-u.ensures;
        eq = p.clamp-q.ensures.0;
      };
    }

-- what is known where an outsider's cell was looked up
abbrev pub Aimed : Type 0
Aimed = tie.After-cell-then-such-1 InvLoop μ_loop InvLoop2 μ_loop2

abbrev pub acting : Aimed → SomeAct
acting p =
    let such = p in
    let begun = p in
    record {
      b = _;
      c = _;
      launch = _;
      shapes = _;
      offsets = _;
      starts = _;
      list = _;
      room_cells = _;
      room_jobs = _;
      before = _;
      now = _;
      cells = _;
      n = _;
      jobs = _;
      m = _;
      o = _;
      at = _;
      p = _;
      e = _;
      f = _;
      k = _;
      q = _;
      known = record {
        w = begun.loop-o.invariant;
        h = begun.loop-o-test.true;
        ep = such.next_event-o.ensures;
        here = begun.if-kind-eq-STEP.false;
        ee = such.event_at-e.ensures;
        ef = such.is_such-such.ensures;
        t = such.if-such.true;
        ek = p.aimed_at-k.ensures;
        eq = p.clamp-q-then-such.ensures.0;
      };
    }
