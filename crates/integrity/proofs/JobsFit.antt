-- In every run of a readable book, a job's block and position are the book's, and fit their bytes.
--     jobs_fit
-- Assumes nothing.
use Rattle.book.specs.Book.{parse}
use Rattle.book.proofs.Every.{all_in, map_from}
use Rattle.book.proofs.Parsed.{sound}
use Rattle.machine.specs.Histories.{lists}
use Rattle.machine.specs.Events.{table_size}
use Rattle.machine.specs.Records.{job_record}
use Rattle.machine.proofs.Named.{Any, JobNamed, state_after_named, job_few}
use Rattle.events.specs.Bytes.{events_in}
use Rattle.interpreter.specs.Run.{final_state}
use Rattle.integrity.specs.Tables.{JobFits, JobsFit}

pub jobs_fit : JobsFit
jobs_fit book e l list =
    let ok = sound book e in
    let s = state_after_named lists (parse book) table_size ok l (events_in list) in
    map_from job_record (JobFits (parse book)) (final_state book l list).jobs
    (λ j m.
    let n = all_in (JobNamed Any (parse book)) (final_state book l list).jobs j s.jobs m in
    let f = job_few (parse book) ok j n in
    record { block = n.block; position = n.position; block_small = f.block; position_small = f.position })
