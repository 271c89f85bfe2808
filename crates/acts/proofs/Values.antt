-- A law of a job's own changes, for the code: a register filled behind a step.
-- Assumes nothing.
use mathlib.Core.Path.{◌≡◌, refl}
use Prim.Native.Nat.{ℕ, suc, ◌+◌}
use native.Mathlib.Omega.{arith}
use lib.ListN.{set}
use Rattle.machine.specs.Histories.{sources}
use Rattle.machine.specs.Steps.{gets}
use Rattle.machine.proofs.Maps.{map_set}
use Rattle.acts.specs.declared.Stored.{Stored}
use Rattle.acts.specs.declared.StoredJob.{StoredJob}
use Rattle.acts.specs.Views.{value_in, stored_of, job_of}

one_more : (n : ℕ) → n + 1 ≡ suc n
one_more n = omega arith

-- the job j past its step, t, where its next step is at o
pub gets_in : (j : StoredJob) (o : ℕ) (t : StoredJob) → t ≡ record j { position = j.position + 1; at = o } → (r : ℕ) (v : Stored)
    → (job_of (record t { registers = set t.registers r v }) ≡ gets sources (job_of j) r (value_in v) v.source) × (t.at ≡ o)
gets_in j o t e r v = rw e (rw (map_set stored_of j.registers r v, one_more j.position) refl, refl)
