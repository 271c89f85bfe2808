-- From the invariant of the machine that keeps sources to the sentences, and to the records.
--     kept        for a parsed book
-- Assumes nothing.
use mathlib.Core.Path.{◌≡◌, ap, ◌∙◌}
use mathlib.Core.Bool.{true}
use mathlib.Core.List.Memᴰ
use mathlib.Core.List.{List, [], ◌∷◌}
use Prim.Native.Nat.{ℕ, ◌<◌, ◌≤◌}
use native.Mathlib.Omega.{arith}
use borrow.Author.Tests.{leb-true, ltb-true, le-leb}
use Rattle.labels.specs.declared.Label.{Label}
use Rattle.labels.specs.declared.Trust.{Trust}
use Rattle.labels.specs.Labels.{reaches, is_above, is_high, is_met}
use Rattle.book.specs.Book.{Book}
use Rattle.book.proofs.Every.{map_all, map_from}
use Rattle.typing.specs.Shapes as T
use Rattle.machine.specs.declared.Event.{Event}
use Rattle.machine.specs.Histories.{History, lists, lowest, source, sources}
use Rattle.machine.specs.States.{Cell, Job, State}
use Rattle.machine.specs.Events.{stated_trust, first_bound, fresh_state, state_after}
use Rattle.machine.specs.Images.{cell_image, job_image, state_image}
use Rattle.machine.specs.Records.{cell_record, job_record}
use Rattle.machine.proofs.Sources.{source_law}
use Rattle.integrity.specs.Integrity.{◌is_in◌, Kept}
use Rattle.integrity.proofs.Trees.{cell, tree_cell}
use Rattle.integrity.proofs.Numbers.{lower_number, normal_high}
use Rattle.integrity.proofs.Invariant.{shape_of, tree_of, Good, CellOk, JobOk, Invariant}
use Rattle.integrity.proofs.Runs.{state_after_ok}
use Rattle.integrity.proofs.Begins.{Accepted, fresh_state_ok}

-- a label at most the lowest is at most each
lowest_all : (n : ℕ) (l : Label) (ls : List Label) (x : Label) → n ≤ (lowest l ls).0 → x is_in (l ∷ ls) → n ≤ x.0
lowest_all n l [] x h (Memᴰ.head e) = rw e h
lowest_all n l [] x h (Memᴰ.tail m) = absurd (Memᴰ.not-nil m)
lowest_all n l (m ∷ ms) x h (Memᴰ.head e) = let y = lower_number l (lowest m ms) in rw e (omega arith)
lowest_all n l (m ∷ ms) x h (Memᴰ.tail i) = let y = lower_number l (lowest m ms) in lowest_all n m ms x (omega arith) i

module _ (K : Book) (a : Accepted K) (size : ℕ) (l : Label) (p : reaches (first_bound K) l ≡ true) (es : List Event) where
  abbrev end : State History
  end = state_after lists size K (fresh_state lists K l) es

  invariant : Invariant K (state_image source end)
  invariant =
      rw ((source_law size K).after_image l es)
      (state_after_ok K size a.sound a.blocks es (fresh_state sources K l) (fresh_state_ok K a l (leb-true _ _ p)))

  good : (c : Cell History) → c is_in end.cells → (h : is_high (stated_trust K c.shape) K.c ≡ true)
      → Good K (state_image source end).cells (cell_image source c) (tree_of K (T.content_of K.c (shape_of K) c.shape)) (stated_trust K c.shape).0
  good c m h =
      let n : (T.counted_trust K.c (shape_of K) c.shape).0 ≡ (stated_trust K c.shape).0 = ap (λ (t : Trust). t.0) (normal_high K.c (stated_trust K c.shape) h) in
      map_all (cell_image source) (CellOk K _) end.cells c invariant.cells m _ _
      (tree_cell K.c (shape_of K) a.sound c.shape (a.cellular c.shape (ltb-true _ _ h)) ∙ ap (cell (tree_of K (T.content_of K.c (shape_of K) c.shape))) n)

  label_kept : (c : Cell History) → c is_in end.cells → is_high (stated_trust K c.shape) K.c ≡ true → (stated_trust K c.shape).0 ≤ c.label.0
  label_kept c m h = let g = (good c m h).label in let x : K.c.0 < (stated_trust K c.shape).0 = ltb-true _ _ h in omega arith

  source_kept : (c : Cell History) → c is_in end.cells → is_high (stated_trust K c.shape) K.c ≡ true
      → (stated_trust K c.shape).0 ≤ (source c.content.history).0
  source_kept c m h = let g = (good c m h).source in let x : K.c.0 < (stated_trust K c.shape).0 = ltb-true _ _ h in omega arith

  job_kept : (j : Job History) → j is_in end.jobs → is_above j.label K.c ≡ true → j.label.0 ≤ (source j.history).0
  job_kept j m h =
      let g = (map_all (job_image source) (JobOk K _) end.jobs j invariant.jobs m).matches.source in
      let x : K.c.0 < j.label.0 = ltb-true _ _ h in
      omega arith

  pub kept : Kept K end
  kept =
      record {
        sentences =
            record {
              values = λ c m h x i. le-leb _ _ (lowest_all _ _ _ x (source_kept c m h) i);
              labels = λ c m h. le-leb _ _ (label_kept c m h);
              jobs = λ j m h x i. le-leb _ _ (lowest_all _ _ _ x (job_kept j m h) i);
            };
        recorded =
            record {
              labels =
                  map_from (cell_record K) (λ r. is_high r.trust K.c ≡ true → is_met r.trust r.label ≡ true) end.cells
                  (λ c m h. le-leb _ _ (label_kept c m h));
              sources =
                  map_from (cell_record K) (λ r. is_high r.trust K.c ≡ true → is_met r.trust r.value.source ≡ true) end.cells
                  (λ c m h. le-leb _ _ (source_kept c m h));
              jobs =
                  map_from job_record (λ r. is_above r.label K.c ≡ true → reaches r.source r.label ≡ true) end.jobs
                  (λ j m h. le-leb _ _ (job_kept j m h));
            };
      }
