-- What the functions inside this crate do to a part of the lent memory, and what saving asks of jobs. No call that a user makes speaks of it.
--     cleared               zeros from an index on
--     Narrow, NarrowJobs    a job whose block and position are bytes; the first m of an array
--     Saved                 a job is entry i of a table
-- Assumes nothing.
use Rattle.std.specs.Prelude.{ℕ, ◌*◌, ◌-◌, ◌<◌, ◌≡◌, List, ◌++◌, length, take, replicate, get_or}
use Rattle.records.specs.Copies.{put_at}
use Rattle.acts.specs.declared.StoredJob.{StoredJob}
use Rattle.tables.specs.Bytes.{job_bytes, job_record_of, job_length}

abbrev pub cleared : List ℕ → ℕ → List ℕ
cleared d at = take at d ++ replicate (length d - at) 0

pub record Narrow (j : StoredJob) : Type 0 where
  pub block : j.block < 256
  pub position : j.position < 256

pub record NarrowJobs (jobs : List StoredJob) (m : ℕ) : Type 0 where
  pub each : (i : ℕ) (d : StoredJob) → i < m → Narrow (get_or jobs i d)

pub record Saved (j : StoredJob) (i : ℕ) (before after : List ℕ) : Type 0 where
  pub is : after ≡ put_at before (i * job_length) (job_bytes (job_record_of j))
  pub long : length (job_bytes (job_record_of j)) ≡ job_length
