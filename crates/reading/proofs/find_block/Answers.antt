-- `find_block` meets its contract. The block's entries of the outline are its start and length, by what a readable book has. Assumes nothing.
use Prim.Native.Nat.{◌<◌}
use mathlib.Core.Path.{refl, ap, ◌∙◌}
use native.Mathlib.Omega.{arith}
use Rattle.std.proofs.Common.{Err, rules, ◌≡◌}
use Rattle.book.specs.Stretch.{found_by}
use Rattle.book.proofs.Blocks.{found_room, found_refused, found_missing, found_there}
use Rattle.reading.proofs.find_block.Goals as goal

pub returns-in_err-t : goal.returns-in_err-t
returns-in_err-t c =
    let h : c.from_residual.result ≡ Err _ = search rules in
    ap found_by h ∙ found_refused _ _ c.in_err-t.ensures _ _ _ _ refl refl

pub offset_bounds-t-block : goal.offset_bounds-t-block
offset_bounds-t-block c = let h : c.args.block < 64 = found_room _ _ c.in_ok-t.ensures _ refl c.if-block-t.true in search rules

pub bounds-t-block : goal.bounds-t-block
bounds-t-block c = let h : c.args.block < 64 = found_room _ _ c.in_ok-t.ensures _ refl c.if-block-t.true in omega arith

pub offset_bounds-t-block-then-block-t : goal.offset_bounds-t-block-then-block-t
offset_bounds-t-block-then-block-t c = let h : c.args.block < 64 = found_room _ _ c.in_ok-t.ensures _ refl c.if-block-t.true in search rules

pub bounds-t-block-then-block-t : goal.bounds-t-block-then-block-t
bounds-t-block-then-block-t c = let h : c.args.block < 64 = found_room _ _ c.in_ok-t.ensures _ refl c.if-block-t.true in omega arith

pub returns-then-block-t : goal.returns-then-block-t
returns-then-block-t c = found_there _ _ c.in_ok-t.ensures _ refl c.if-block-t.true

pub returns : goal.returns
returns c = ap (λ e. found_by (Err e)) c.at.ensures ∙ found_missing _ _ c.in_ok-t.ensures _ refl _ c.if-block-t.false refl
