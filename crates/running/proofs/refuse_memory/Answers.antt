-- `refuse_memory` meets its contract. Assumes nothing.
use Rattle.running.proofs.Refusing.{refuse_cells, refuse_jobs, refuse_room, refuse_none}
use Rattle.running.proofs.refuse_memory.Goals as goal

pub returns-then-cells-ne-TABLE_BYTES : goal.returns-then-cells-ne-TABLE_BYTES
returns-then-cells-ne-TABLE_BYTES c = refuse_cells _ _ _ _ _ c.if-cells-ne-TABLE_BYTES.true c.at.ensures

pub returns-then-jobs-ne-TABLE_BYTES : goal.returns-then-jobs-ne-TABLE_BYTES
returns-then-jobs-ne-TABLE_BYTES c = refuse_jobs _ _ _ _ _ c.if-cells-ne-TABLE_BYTES.false c.if-jobs-ne-TABLE_BYTES.true c.at-then-jobs-ne-TABLE_BYTES.ensures

pub returns-then-room-count : goal.returns-then-room-count
returns-then-room-count c =
    refuse_room _ _ _ _ _ c.if-cells-ne-TABLE_BYTES.false c.if-jobs-ne-TABLE_BYTES.false c.if-room-count.true c.at-then-room-count.ensures

pub returns : goal.returns
returns c = refuse_none _ _ _ _ c.if-cells-ne-TABLE_BYTES.false c.if-jobs-ne-TABLE_BYTES.false c.if-room-count.false
