-- The records of the cells behind stand in the front.
use Rattle.std.proofs.Common.{◌≡◌, ◌*◌, take, map}
use Rattle.tables.specs.Bytes.{packed, cell_bytes, cell_record_in}
use Rattle.tables.proofs.save_cells.Given as goal

abbrev pub invariant-loop-i : goal.invariant-loop-i
invariant-loop-i l = take (l.i * 9) l.out ≡ packed cell_bytes (map (cell_record_in l.shapes) (take l.i l.c-items))
