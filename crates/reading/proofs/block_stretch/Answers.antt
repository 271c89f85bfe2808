-- `block_stretch` meets its contract. The stretch that was found lies in the book. Assumes nothing.
use Prim.Native.Nat.{◌+◌, ◌≤◌}
use lib.ListN.{length}
use native.Mathlib.Omega.{arith}
use Rattle.std.proofs.Common.{rules}
use Rattle.book.proofs.Outcomes.{unwrapped_inside, unwrapped_is, unwrapped_start}
use Rattle.reading.proofs.block_stretch.Goals as goal

pub overflow_add-end : goal.overflow_add-end
overflow_add-end c =
    let h = unwrapped_inside _ _ _ c.find_block.ensures _ _ c.none.ensures c.unwrap_or-f.ensures in
    search rules

pub slice_bounds-result-end : goal.slice_bounds-result-end
slice_bounds-result-end c =
    let h = unwrapped_inside _ _ _ c.find_block.ensures _ _ c.none.ensures c.unwrap_or-f.ensures in
    omega arith

pub returns-clause-result_value : goal.returns-clause-result_value
returns-clause-result_value c = unwrapped_is _ _ _ c.find_block.ensures _ _ c.none.ensures c.unwrap_or-f.ensures
