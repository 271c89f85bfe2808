-- Behind the last event each job's block and position are bytes: what saving asks for.
--     played_narrow
-- Assumes nothing.
use mathlib.Core.Path.{◌≡◌, sym, ap, ◌∙◌}
use mathlib.Core.List.{List}
use Prim.Native.Nat.{ℕ}
use native.Mathlib.Omega.{arith}
use lib.ListN.{get_or, get_elem?}
use Rattle.labels.specs.declared.Label.{Label}
use Rattle.book.specs.Outcome.{Passed}
use Rattle.book.specs.Book.{parse}
use Rattle.book.specs.Refusals.{unreadable}
use Rattle.book.proofs.Every.{All, all_at}
use Rattle.book.proofs.Parsed.{sound}
use Rattle.machine.specs.declared.Event.{Event}
use Rattle.machine.specs.Histories.{sources}
use Rattle.machine.specs.States as States
use Rattle.machine.specs.Events.{table_size, state_after}
use Rattle.machine.proofs.Named.{Any, JobNamed, state_after_named, job_few}
use Rattle.acts.specs.declared.StoredCell.{StoredCell}
use Rattle.acts.specs.declared.StoredJob.{StoredJob}
use Rattle.acts.specs.Views.{job_of}
use Rattle.tables.specs.Asked.{NarrowJobs}
use Rattle.interpreter.specs.Loop.{opening}
use Rattle.interpreter.proofs.Arrays.{front_get}
use Rattle.interpreter.proofs.Going.{Played}

pub played_narrow : (b : List ℕ) (l : Label) (es : List Event) (before after : List ℕ) (cells : List StoredCell) (n : ℕ) (jobs : List StoredJob) (m : ℕ) → unreadable b ≡ Passed
    → Played b l es before after cells n jobs m → NarrowJobs jobs m
played_narrow b l es before after cells n jobs m e w =
    let ok = sound b e in
    let js = (state_after sources table_size (parse b) (opening b l) es).jobs in
    let q : All (JobNamed Any (parse b)) js = (state_after_named sources (parse b) table_size ok l es).jobs in
    let h = w.holds in
    record {
      each = λ i d r.
          let j = ap (λ (js : List (States.Job Label)). get_elem? js i) (sym h.jobs_are) ∙ front_get job_of jobs m i d r (omega (arith, h.jobs_long, h.jobs_fit)) in
          let f = job_few (parse b) ok (job_of (get_or jobs i d)) (all_at (JobNamed Any (parse b)) js i (job_of (get_or jobs i d)) q j) in
          record { block = omega (arith, f.block); position = omega (arith, f.position) };
    }
