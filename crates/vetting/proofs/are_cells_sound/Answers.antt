-- `are_cells_sound` meets its contract. Assumes nothing.
use Rattle.std.proofs.Common.{rules, length}
use Rattle.std.proofs.lemmas.Iterator.{YieldsList-from_slice}
use Rattle.book.specs.Records.{number_at}
use Rattle.rows.specs.Rows.{cell_row_in}
use Rattle.vetting.specs.Asked.{shapes_of}
use Rattle.vetting.proofs.Vetted.{CellPasses, all_passed, cells_sound}
use Rattle.vetting.proofs.are_cells_sound.Goals as goal

pub returns-then-cells-le-MOST_CELLS : goal.returns-then-cells-le-MOST_CELLS
unfolding cell_row_in number_at
returns-then-cells-le-MOST_CELLS c =
    let passes = CellPasses (shapes_of c.args.shapes.now) (length c.args.cells.now) c.args.blocks in
    λ e. cells_sound _ _ _ c.if-cells-le-MOST_CELLS.true
    (all_passed _ _ _ passes c.all.ensures.ran (YieldsList-from_slice _ c.iter.ensures.rest) (λ x q k. search rules) e)
