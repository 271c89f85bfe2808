-- What `schedule`'s proof knows at the places that its arms share.
--     InvLoop, μ_loop, InvLoop2, μ_loop2      the invariants and measures of the loop over the turns and of the loop that saves the jobs
--     Joined, chosen                            where the next job was found
--     Looked, stepping                          where the cell of its step was looked up
-- Assumes nothing.
use mathlib.Core.Path.{refl, sym, ap, ◌∙◌}
use Prim.Native.Nat.{◌-◌}
use Rattle.tables.proofs.Saved.{JobsIn}
use Rattle.interpreter.proofs.Playing.{first_label}
use Rattle.std.specs.Prelude.{Some}
use Rattle.scheduler.proofs.Scheduling.{Rounding, SomeJob, SomeTurn, round_next, round_here, round_inside, round_ends, round_stands}
use Rattle.scheduler.proofs.schedule.Lts.{then-pending-begin-eq0+in-Some, else-pending-begin-eq0}
use Rattle.scheduler.proofs.schedule.Tie as tie

abbrev pub InvLoop : tie.invariant-loop-at
InvLoop book shapes offsets starts cells jobs answers₀ turns held₀ begun₀ start pending₀ n₀ m₀ from₀ at₀ most₀ answers held begun pending n m from at most =
    Rounding book (first_label begun₀) shapes offsets starts cells jobs answers₀ turns answers held n begun m pending from at most

abbrev pub μ_loop : tie.decreases-loop-at
μ_loop book shapes offsets starts cells jobs answers₀ turns held₀ begun₀ start pending₀ n₀ m₀ from₀ at₀ most₀ answers held begun pending n m from at most =
    most - at

abbrev pub InvLoop2 : tie.invariant-loop-y
InvLoop2 book shapes offsets starts cells jobs₀ answers turns begun start n m from at most y₀ jobs y = JobsIn begun m jobs y

abbrev pub μ_loop2 : tie.decreases-loop-y
μ_loop2 book shapes offsets starts cells jobs₀ answers turns begun start n m from at most y₀ jobs y = m - y

-- the next job was found at once, or by the scan
abbrev pub Joined : Type 0
Joined = tie.Joined-pending-begin-eq0 InvLoop μ_loop InvLoop2 μ_loop2

abbrev pub chosen : Joined → SomeJob
chosen c =
    let w = c.loop-at.invariant in
    let h = c.loop-at-test.true in
    let eb = c.first_place-begin.ensures in
    record {
      b = _;
      launch = _;
      shapes = _;
      offsets = _;
      starts = _;
      room_cells = _;
      room_jobs = _;
      before = _;
      turns = _;
      now = _;
      cells = _;
      n = _;
      jobs = _;
      m = _;
      pending = _;
      from = _;
      at = _;
      most = _;
      i = c.if-pending-begin-eq0.i;
      w = w;
      h = h;
      next = elim c.if-pending-begin-eq0.branch [
        | then-pending-begin-eq0+in-Some x ↦ round_next w _ eb h _ x.next_of-found.ensures _ x.in-Some.is ∙ ap Some (sym x.i-is)
        | else-pending-begin-eq0 x ↦ round_here w _ eb _ x.if-pending-begin-eq0.false ∙ ap Some (sym x.i-is)
      ];
    }

-- what is known where a step's cell was looked up
abbrev pub Looked : Type 0
Looked = tie.After-cell-1 InvLoop μ_loop InvLoop2 μ_loop2

abbrev pub stepping : Looked → SomeTurn
stepping p =
    let turn = p in
    let s = chosen p.before.before.before.before.before.before.before.before in
    record {
      of = s;
      d = _;
      z = _;
      u = _;
      t = _;
      q = _;
      known = record {
        holds = s.w.going.holds;
        readable = s.w.setting.drawn.readable;
        starts_are = s.w.setting.drawn.starts_are;
        r = round_inside s.w _ s.next;
        ez = refl;
        eu = round_ends s.w _ s.next _ _ turn.offset_of-past.ensures _;
        un = round_stands s.w _ s.next _ _ turn.offset_of-past.ensures;
        et = p.target_of-u.ensures;
        eq = p.clamp-q.ensures.0;
      };
    }
