-- `are_shapes_sound` meets its contract. Assumes nothing.
use Rattle.std.proofs.Common.{rules}
use Rattle.std.proofs.lemmas.Iterator.{YieldsList-from_slice}
use Rattle.std.proofs.lemmas.Iterator.Consumers.{YieldsList-from_enumerate}
use Rattle.rows.specs.Rows.{shape_row_in}
use Rattle.vetting.proofs.Vetted.{ShapePasses, all_passed, shapes_sound}
use Rattle.vetting.proofs.are_shapes_sound.Goals as goal

pub returns-then-shapes-le-MOST_SHAPES : goal.returns-then-shapes-le-MOST_SHAPES
unfolding shape_row_in
returns-then-shapes-le-MOST_SHAPES c =
    λ e. shapes_sound _ c.if-shapes-le-MOST_SHAPES.true
    (all_passed _ _ _ ShapePasses c.all.ensures.ran (YieldsList-from_enumerate (YieldsList-from_slice c.args.shapes.now (cc)) (cc)) (λ x q k. search rules) e)
