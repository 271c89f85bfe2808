-- `save_cells` meets its contract. Assumes nothing.
use Rattle.std.proofs.Common.{rules, [], arith, ◌≡◌, ◌*◌, map, take}
use Rattle.std.proofs.lemmas.Grind.{common_steps}
use Rattle.tables.specs.Bytes.{packed, cell_bytes, cell_record_in, saved_cells, cell_table}
use Rattle.tables.proofs.Filling.{packed_on, padded}
use Rattle.tables.proofs.save_cells.Goals as goal

pub loop-i-preserved : goal.loop-i-preserved
loop-i-preserved c =
    packed_on (cell_record_in c.args.shapes.now) cell_bytes [] _ _ _ _ _ _ _ _ c.loop-i.invariant (search rules)
    (rw c.shape_in-shape.ensures at c.cell_bytes-b.ensures) (search rules) c.copy_in.ensures (omega arith)

pub returns : goal.returns
unfolding saved_cells cell_table
returns c =
    let front : take (c.args.n * 9) c.loop-i.out ≡ packed cell_bytes (map (cell_record_in c.args.shapes.now) (take c.args.n c.args.cells)) =
    grind (arith, common_steps) in
    padded _ _ _ _ _ front (search rules) (search rules) c.clear_from.ensures
