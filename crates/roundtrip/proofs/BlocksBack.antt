-- The blocks and their steps, given back.
--     block_view, block_views      what is read of a block's record: its bound, and the steps that follow
--     BlocksBack, blocks_back     what is read of the rows of blocks and steps gives them back
-- Assumes nothing.
use mathlib.Core.Path.{◌≡◌, refl, sym, ap, subst, ◌∙◌}
use mathlib.Core.List.{List, [], ◌∷◌, ◌++◌, map, append_assoc, append-nil}
use Prim.Native.Nat.{ℕ, ◌+◌, ◌<◌}
use native.Mathlib.Omega.{arith}
use lib.ListN.{length, take, drop, length-append, length-drop, length-map, take-append-drop}
use lib.Seq.{length-take-le}
use Rattle.labels.specs.Labels.{label}
use Rattle.book.specs.declared.Step.{Step}
use Rattle.book.specs.Kinds.{span, group}
use Rattle.book.specs.Records.{byte_at}
use Rattle.book.specs.Book.{Block, steps_from, step_at, block_at}
use Rattle.book.proofs.Every.{All, all_map, all_both}
use Rattle.book.proofs.Groups.{block_span}
use Rattle.rows.specs.Rows.{Row, BlockRow, StepRow, row_of, block_row, step_row, block_rows, packed_rows, total}
use Rattle.rows.specs.Parsed.{step_row_of, block_row_of, step_rows_of}
use Rattle.rows.proofs.Packs.{all_front, all_behind, of_rows}
use Rattle.rows.proofs.Local.{byte_local}
use Rattle.rows.proofs.Seen.{block_group_lem, Views, viewed, step_views, Kept, seen, seen_hit, seen_other, run, run_is, run_miss, run_table}
use Rattle.rows.proofs.ReadRows.{steps_not}
use Rattle.roundtrip.proofs.Fine.{Fine}
use Rattle.roundtrip.proofs.Tables.{step_kept}

-- the number of a step's row has 32 bits
abbrev pub Holds : StepRow → Type 0
Holds r = r.number < 4294967296

-- the steps that follow, as they are read of the rows
abbrev steps_seen : List Row → List Step
steps_seen rs = run 5 step_at (viewed step_at) rs

abbrev pub block_view : Row → List Row → Block
block_view r rs = record { bound = label (byte_at (r.bytes ++ packed_rows rs) 1); steps = steps_seen rs }

abbrev pub blocks_seen : List Row → List Block
blocks_seen rs = seen 4 block_at block_view rs

pub block_views : Views 4 block_at block_view
unfolding block_at steps_from
block_views pre r rs e h =
    let n : length (pre ++ r.bytes) ≡ length pre + 2 = omega (arith, length-append pre r.bytes, block_span (byte_at r.bytes 0) e, h.0.long) in
    let steps = rw (append_assoc pre r.bytes (packed_rows rs), n) at (run_is 5 step_at (viewed step_at) step_views rs (pre ++ r.bytes) h.1) in
    rw (byte_local pre (r.bytes ++ packed_rows rs) 1) (ap (λ (l : List Step). record { bound = label (byte_at (r.bytes ++ packed_rows rs) 1); steps = l }) steps)

-- steps are given back
steps_kept : (ss : List StepRow) → All Holds ss → All Fine (map step_row ss) → All (Kept 5 step_at (viewed step_at) step_row step_row_of) ss
steps_kept ss b h = all_both _ _ _ (λ a n k. k n) ss b (of_rows Fine step_row (λ a. Holds a → Kept 5 step_at (viewed step_at) step_row step_row_of a) (λ a f. step_kept a f) ss h)

-- where the counts add up, no step stands before the first block
none_first : (bs : List BlockRow) (ss : List StepRow) → total bs ≡ length ss → steps_seen (block_rows bs ss) ≡ []
unfolding block_rows total run
none_first [] [] e = refl
none_first [] (s ∷ ss) e = absurd (omega arith)
none_first (b ∷ bs) ss e =
    run_miss 5 step_at (viewed step_at) (block_row b) (map step_row (take b.steps ss) ++ block_rows bs (drop b.steps ss)) (λ q. let w = block_group_lem b in omega arith)

pub record BlocksBack (bs : List BlockRow) (ss : List StepRow) : Type 0 where
  pub blocks : map block_row_of (blocks_seen (block_rows bs ss)) ≡ bs
  pub steps : step_rows_of (blocks_seen (block_rows bs ss)) ≡ ss

-- a block that counts the steps `front`, before the rows `rest`
module _ (b : BlockRow) (front : List StepRow) (rest : List Row) (n : length front ≡ b.steps) (none : steps_seen rest ≡ [])
    (h : All Fine (map step_row front)) (k : All Holds front) where
  abbrev tail : List Row
  tail = map step_row front ++ rest

  steps_here : map step_row_of (steps_seen tail) ≡ front
  steps_here =
      run_table 5 step_at (viewed step_at) step_row step_row_of front rest (steps_kept front k h)
      ∙ ap (λ (l : List Step). front ++ map step_row_of l) none
      ∙ append-nil front

  counted : length (steps_seen tail) ≡ b.steps
  counted = sym (length-map (steps_seen tail) step_row_of) ∙ ap length steps_here ∙ n

  here : blocks_seen (block_row b ∷ tail) ≡ block_view (block_row b) tail ∷ blocks_seen rest
  here =
      seen_hit 4 block_at block_view (block_row b) tail (block_group_lem b)
      ∙ ap (λ (l : List Block). block_view (block_row b) tail ∷ l)
      (seen_other 4 block_at block_view step_row front rest (steps_not 4 (λ e. omega arith) front (all_map (λ r f. f.known) (map step_row front) h)))

  same : block_row_of (block_view (block_row b) tail) ≡ b
  unfolding row_of group span
  same = ap (λ (n : ℕ). record { bound = b.bound; steps = n }) counted

  block_on : map block_row_of (blocks_seen (block_row b ∷ tail)) ≡ b ∷ map block_row_of (blocks_seen rest)
  block_on = ap (map block_row_of) here ∙ ap (λ (c : BlockRow). c ∷ map block_row_of (blocks_seen rest)) same

  steps_on : step_rows_of (blocks_seen (block_row b ∷ tail)) ≡ front ++ step_rows_of (blocks_seen rest)
  unfolding step_rows_of
  steps_on = ap step_rows_of here ∙ ap (λ (l : List StepRow). l ++ step_rows_of (blocks_seen rest)) steps_here

pub blocks_back : (bs : List BlockRow) (ss : List StepRow) → total bs ≡ length ss → All Holds ss → All Fine (block_rows bs ss)
    → BlocksBack bs ss
unfolding block_rows total seen step_rows_of
blocks_back [] [] e k h = record { blocks = refl; steps = refl }
blocks_back [] (s ∷ ss) e k h = absurd (omega arith)
blocks_back (b ∷ bs) ss e k h =
    let front = take b.steps ss in
    let behind = drop b.steps ss in
    let rest = block_rows bs behind in
    let n = length-take-le b.steps ss (omega arith) in
    let t : total bs ≡ length behind = omega (arith, length-drop b.steps ss) in
    let none = none_first bs behind t in
    let parts = take-append-drop b.steps ss in
    let q = subst (All Holds) (sym parts) k in
    let f = all_front Fine (map step_row front) rest h.1 in
    let kf = all_front Holds front behind q in
    let i = blocks_back bs behind t (all_behind Holds front behind q) (all_behind Fine (map step_row front) rest h.1) in
    record {
      blocks = block_on b front rest n none f kf ∙ ap (λ (l : List BlockRow). b ∷ l) i.blocks;
      steps = steps_on b front rest n none f kf ∙ ap (λ (l : List StepRow). front ++ l) i.steps ∙ parts;
    }
