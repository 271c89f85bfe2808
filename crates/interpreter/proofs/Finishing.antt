-- The end of a run.
--     finish_is     the memory after a run that is not refused
-- Assumes nothing.
use mathlib.Core.Path.{◌≡◌, refl, sym, ap, ◌∙◌}
use mathlib.Core.List.{List, ◌++◌, map}
use Prim.Native.Nat.{ℕ}
use native.Mathlib.Omega.{arith}
use lib.ListN.{length, take, drop, get_or, length-map}
use Rattle.labels.specs.declared.Label.{Label}
use Rattle.book.specs.Outcome.{Passed}
use Rattle.book.specs.Book.{parse}
use Rattle.book.specs.Refusals.{no_shape}
use Rattle.book.specs.Outline.{shape_in}
use Rattle.machine.specs.declared.Event.{Event}
use Rattle.machine.specs.Histories.{lists, sources, source}
use Rattle.machine.specs.States.{State}
use Rattle.machine.specs.Events.{table_size, fresh_state, state_after, answers}
use Rattle.machine.specs.Images.{cell_image, job_image, state_image}
use Rattle.machine.specs.Records.{cell_record, job_record}
use Rattle.machine.proofs.Sources.{source_law}
use Rattle.acts.specs.declared.StoredCell.{StoredCell}
use Rattle.acts.specs.declared.StoredJob.{StoredJob}
use Rattle.acts.specs.Views.{cell_of, job_of}
use Rattle.tables.specs.Bytes.{cell_table, job_table, saved_cells, saved_jobs}
use Rattle.interpreter.specs.Loop.{opening}
use Rattle.interpreter.specs.Run.{Run, state_by, played}
use Rattle.interpreter.proofs.Arrays.{front_long}
use Rattle.interpreter.proofs.Going.{Played}
use Rattle.interpreter.proofs.Records.{saved_cells_lem, saved_jobs_lem}

-- the memory after a run that is not refused; the table of shapes is the book's
module _ (b : List ℕ) (l : Label) (shapes : List ℕ) (es : List Event) (before : List ℕ)
    (shapes_are : (i : ℕ) → shape_in shapes i ≡ get_or (parse b).shapes i no_shape) (held : List StoredCell) (n : ℕ)
    (begun : List StoredJob) (m : ℕ) (after : List ℕ) (w : Played b l es before after held n begun m) where
  images : state_image source (state_by b l es) ≡ state_after sources table_size (parse b) (opening b l) es
  images = (source_law table_size (parse b)).after_image l es

  held_are : map cell_of (take n held) ≡ map (cell_image source) (state_by b l es).cells
  held_are = w.holds.cells_are ∙ ap (λ (s : State Label). s.cells) (sym images)

  begun_are : map job_of (take m begun) ≡ map (job_image source) (state_by b l es).jobs
  begun_are = w.holds.jobs_are ∙ ap (λ (s : State Label). s.jobs) (sym images)

  pub finish_is : (cells' jobs' : List ℕ) → cells' ≡ saved_cells shapes (take n held) → jobs' ≡ saved_jobs (take m begun)
      → ◌≡◌ {A = Run} (record { refusal = Passed; cell_count = n; job_count = m; cells = cells'; jobs = jobs'; answered = after })
      (played b l es before)
  unfolding played
  finish_is cells' jobs' ec ej =
      let k : n ≡ length (state_by b l es).cells
      = sym (front_long cell_of held n (omega (arith, w.holds.cells_long, w.holds.cells_fit))) ∙ ap length held_are
      ∙ length-map (state_by b l es).cells (cell_image source) in
      let m' : m ≡ length (state_by b l es).jobs
      = sym (front_long job_of begun m (omega (arith, w.holds.jobs_long, w.holds.jobs_fit))) ∙ ap length begun_are
      ∙ length-map (state_by b l es).jobs (job_image source) in
      let u : cells' ≡ cell_table (map (cell_record (parse b)) (state_by b l es).cells)
      = ec ∙ saved_cells_lem (parse b) shapes (take n held) (state_by b l es).cells shapes_are held_are in
      let v : jobs' ≡ job_table (map job_record (state_by b l es).jobs)
      = ej ∙ saved_jobs_lem (take m begun) (state_by b l es).jobs begun_are in
      let a : after ≡ answers lists table_size (parse b) (fresh_state lists (parse b) l) es ++ drop (length es) before
      = w.answered
      ∙ ap (λ (xs : List ℕ). xs ++ drop (length es) before) (sym ((source_law table_size (parse b)).answers_image l es)) in
      rw (← k, ← m', ← u, ← v, ← a) refl
