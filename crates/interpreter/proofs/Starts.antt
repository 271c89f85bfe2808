-- Where a block starts.
--     placed_fresh      a job at the start of its block stands where the book says
-- Assumes nothing.
use mathlib.Core.Path.{◌≡◌, refl, sym, ap, ◌∙◌}
use mathlib.Core.Bool.{Bool, true, false}
use mathlib.Core.List.{List, [], map}
use Prim.Native.Nat.{ℕ, ◌+◌, ◌<◌, ◌≤◌}
use native.Mathlib.Omega.{arith}
use lib.Dec.{ltb}
use lib.ListN.{length, get_or, length-map, get_or-eq_default}
use borrow.Author.Tests.{ltb-true, ltb-false}
use Rattle.book.specs.Outcome.{Passed}
use Rattle.book.specs.Control.{sweep}
use Rattle.book.specs.Book.{Block, parse, blocks_of, block_at, step_at, steps_from}
use Rattle.book.specs.Refusals.{unreadable}
use Rattle.book.specs.Outline.{start_at, bound_at, length_at}
use Rattle.book.specs.Asked.{Whole}
use Rattle.book.proofs.Records.{records_end}
use Rattle.book.proofs.Steps.{steps_end_lem}
use Rattle.book.proofs.Blocks.{nth}
use Rattle.book.proofs.Readable.{readable}
use Rattle.book.proofs.Stretches.{block}
use Rattle.machine.specs.Events.{no_block, block_of}
use Rattle.acts.specs.declared.StoredJob.{StoredJob}
use Rattle.tables.specs.Opening.{start_in}
use Rattle.interpreter.specs.Loop.{Placed}

end_whole : (b : List ℕ) → Whole b (length b)
unfolding sweep
end_whole b = simp (records_end b (length b) (omega arith))

module _ (b : List ℕ) (ok : unreadable b ≡ Passed) (starts : List ℕ) (e : starts ≡ map start_at (blocks_of b)) (j : StoredJob) (x : ℕ) (eb : j.block ≡ x)
    (ep : j.position ≡ 0) where
  count : length starts ≡ length (blocks_of b)
  count = ap length e ∙ length-map (blocks_of b) start_at

  steps_of : x < length (blocks_of b) → (block_of (parse b) x).steps ≡ map (step_at b) (steps_from b (get_or (blocks_of b) x 0 + 2))
  unfolding parse block_at
  steps_of h = ap (λ (k : Block). k.steps) (nth (block_at b) no_block (blocks_of b) x h)

  no_steps : length (blocks_of b) ≤ x → (block_of (parse b) x).steps ≡ []
  unfolding parse
  no_steps h =
      ap (λ (k : Block). k.steps) (get_or-eq_default (map (block_at b) (blocks_of b)) no_block (omega (arith, length-map (blocks_of b) (block_at b))))

  pub placed_fresh : j.at ≡ start_in starts x (length b) → Placed b j
  placed_fresh ea = go (ltb x (length starts)) refl
    where
      go : (t : Bool) → ltb x (length starts) ≡ t → Placed b j
      go true q =
          let h : x < length (blocks_of b) = omega (arith, ltb-true x (length starts) q, count) in
          let r = readable b ok in
          let k = block b (map (bound_at b) (blocks_of b)) starts (map (length_at b) (blocks_of b))
          (record { short = r.short; whole = r.whole; bound = refl; start = e; long = refl }) x (omega (arith, length-map (blocks_of b) (bound_at b))) in
          let s : j.at ≡ get_or (blocks_of b) x 0 + 2 = ea ∙ simp q (ap (λ (l : List ℕ). get_or l x 0) e ∙ nth start_at 0 (blocks_of b) x h) in
          record {
            inside = rw s k.inside;
            whole = rw s k.whole;
            left = rw (s, eb, ep) (sym (steps_of h));
            behind = omega (arith, ep);
          }
      go false q =
          let h : length (blocks_of b) ≤ x = omega (arith, ltb-false x (length starts) q, count) in
          let s : j.at ≡ length b = ea ∙ simp q in
          record {
            inside = omega (arith, s);
            whole = rw s (end_whole b);
            left = rw (s, eb, ep, steps_end_lem b (length b) (omega arith)) (sym (no_steps h));
            behind = omega (arith, ep);
          }
