-- Laws of the table of jobs, as the loop goes through it that saves them.
--     JobsIn, job_saves      i of the first n jobs are in the front of the table
-- Assumes nothing.
use mathlib.Core.Path.{◌≡◌, refl, ◌∙◌}
use mathlib.Core.List.{List, [], map}
use Prim.Native.Nat.{ℕ, ◌+◌, ◌*◌, ◌≤◌, ◌<◌}
use native.Mathlib.Omega.{arith}
use lib.ListN.{length, get_or, take}
use Rattle.acts.specs.declared.StoredJob.{StoredJob}
use Rattle.tables.specs.Bytes.{packed, job_bytes, job_record_of, job_table, saved_jobs}
use Rattle.tables.specs.Asked.{cleared, Narrow, NarrowJobs, Saved}
use Rattle.tables.proofs.Filling.{padded, packed_on}

pub record JobsIn (jobs : List StoredJob) (n : ℕ) (out : List ℕ) (i : ℕ) : Type 0 where
  pub some : n ≤ 64
  pub few : length jobs ≡ 64
  pub narrow : NarrowJobs jobs n
  pub long : length out ≡ 3328
  pub inside : i ≤ n
  pub front : take (i * 52) out ≡ packed job_bytes (map job_record_of (take i jobs))

module _ (jobs : List StoredJob) (n : ℕ) (out : List ℕ) where
  pub jobs_start : n ≤ 64 → length jobs ≡ 64 → length out ≡ 3328 → NarrowJobs jobs n → JobsIn jobs n out 0
  jobs_start h e g k = record { some = h; few = e; narrow = k; long = g; inside = omega arith; front = refl }

  module _ (i : ℕ) (s : JobsIn jobs n out i) where
    pub jobs_narrow : (z : StoredJob) → i < n → Narrow (get_or jobs i z)
    jobs_narrow z h = s.narrow.each i z h

    -- an entry inside the table
    pub jobs_room : i < n → (i < 64) × (length out ≡ 3328)
    jobs_room h = (omega (arith, s.some), s.long)

    pub jobs_on : (z : StoredJob) (new : List ℕ) → i < n → Saved (get_or jobs i z) i out new → length new ≡ length out → JobsIn jobs n new (i + 1)
    jobs_on z new h e g =
        record {
          some = s.some;
          few = s.few;
          narrow = s.narrow;
          long = g ∙ s.long;
          inside = omega arith;
          front =
              packed_on job_record_of job_bytes [] jobs out new (job_bytes (job_record_of (get_or jobs i z))) i (i * 52) ((i + 1) * 52) z
              s.front (omega (arith, s.some, s.few)) refl (omega (arith, s.some, s.long, e.long)) e.is (omega (arith, e.long));
        }

    pub jobs_end : (new : List ℕ) → n ≤ i → new ≡ cleared out (n * 52) → new ≡ saved_jobs (take n jobs)
    unfolding saved_jobs job_table
    jobs_end new h e =
        let j : i ≡ n = omega (arith, s.inside) in
        padded out _ new (n * 52) 3328 (rw j at s.front) (omega (arith, s.some, s.long)) s.long e

pub ruleset job_saves = (jobs_start, jobs_narrow, jobs_room, jobs_on, jobs_end)
