-- The arrays after an event hold the state after it: one law for each array that is written.
--     holds_entry, holds_job, holds_store, holds_create, holds_launch
-- Assumes nothing.
use mathlib.Core.Path.{◌≡◌, refl, ap, ◌∙◌}
use mathlib.Core.Bool.{Bool, true, false}
use mathlib.Core.List.{List, [], ◌∷◌, ◌++◌}
use Prim.Native.Nat.{ℕ, zero, suc, ◌+◌, ◌-◌, ◌<◌}
use native.Mathlib.Omega.{arith}
use lib.Dec.{eqb}
use lib.ListN.{length, get_or, set, length-set}
use lib.Seq.{get_or-set_same}
use borrow.Author.Tests.{eqb-true, eqb-false}
use Rattle.labels.specs.declared.Label.{Label}
use Rattle.machine.specs.Histories.{sources}
use Rattle.machine.specs.States.{State}
use Rattle.machine.specs.States as States
use Rattle.machine.specs.Acts.{fresh_job}
use Rattle.acts.specs.declared.StoredCell.{StoredCell}
use Rattle.acts.specs.declared.StoredJob.{StoredJob}
use Rattle.acts.specs.Views.{cell_of, job_of}
use Rattle.interpreter.specs.Loop.{Placed, Holds}
use Rattle.interpreter.proofs.Arrays.{front_set, front_push, other_stays}
use Rattle.interpreter.proofs.Lands.{with_job}

-- what is no longer the last stands before it
behind : (m k : ℕ) → k < m + 1 → (m ≡ k → ⊥) → k < m
behind m k h n = go (m - k) refl
  where
    go : (i : ℕ) → m - k ≡ i → k < m
    go zero e = absurd (n (omega arith))
    go (suc i) e = omega arith

-- one job is written
placed_set : (b : List ℕ) (jobs : List StoredJob) (m i : ℕ) (j : StoredJob) → i < length jobs → Placed b j
    → ((k : ℕ) (d : StoredJob) → k < m → (i ≡ k → ⊥) → Placed b (get_or jobs k d)) → (k : ℕ) (d : StoredJob) → k < m → Placed b (get_or (set jobs i j) k d)
placed_set b jobs m i j h p f k d r = go (eqb i k) refl
  where
    go : (t : Bool) → eqb i k ≡ t → Placed b (get_or (set jobs i j) k d)
    go true e = rw (← eqb-true i k e, get_or-set_same jobs i j d h) p
    go false e = rw (other_stays jobs i k j d (eqb-false i k e)) (f k d r (eqb-false i k e))

-- the entry that is written, by another name
pub holds_entry : {b : List ℕ} {s : State Label} {n : ℕ} {jobs : List StoredJob} {m : ℕ} (cells : List StoredCell) (c : StoredCell) (q k : ℕ) → q ≡ k
    → Holds b s (set cells k c) n jobs m → Holds b s (set cells q c) n jobs m
holds_entry cells c q k e h = rw e h

module _ {b : List ℕ} {s : State Label} {cells : List StoredCell} {n : ℕ} {jobs : List StoredJob} {m : ℕ} (h : Holds b s cells n jobs m) where
  pub holds_job : (i : ℕ) (j : StoredJob) → i < m → Placed b j → Holds b (with_job s i j) cells n (set jobs i j) m
  holds_job i j r p =
      record {
        cells_are = h.cells_are;
        cells_long = h.cells_long;
        cells_fit = h.cells_fit;
        jobs_are = front_set job_of jobs m i j ∙ ap (λ (l : List (States.Job Label)). set l i (job_of j)) h.jobs_are;
        jobs_long = length-set jobs i j ∙ h.jobs_long;
        jobs_fit = h.jobs_fit;
        some_job = h.some_job;
        placed = placed_set b jobs m i j (omega (arith, h.jobs_long, h.jobs_fit)) p (λ k d r q. h.placed k d r);
      }

  module _ (c : StoredCell) where
    pub holds_store : (k : ℕ) → Holds b (record { cells = set s.cells k (cell_of c); jobs = s.jobs }) (set cells k c) n jobs m
    holds_store k =
        record {
          cells_are = front_set cell_of cells n k c ∙ ap (λ (l : List (States.Cell Label)). set l k (cell_of c)) h.cells_are;
          cells_long = length-set cells k c ∙ h.cells_long;
          cells_fit = h.cells_fit;
          jobs_are = h.jobs_are;
          jobs_long = h.jobs_long;
          jobs_fit = h.jobs_fit;
          some_job = h.some_job;
          placed = h.placed;
        }

    pub holds_create : n < 64 → Holds b (record { cells = s.cells ++ (cell_of c ∷ []); jobs = s.jobs }) (set cells n c) (n + 1) jobs m
    holds_create q =
        let e : n + 1 ≡ suc n = omega arith in
        record {
          cells_are =
              rw e
              (front_push cell_of cells n c (omega (arith, h.cells_long))
              ∙ ap (λ (l : List (States.Cell Label)). l ++ (cell_of c ∷ [])) h.cells_are);
          cells_long = length-set cells n c ∙ h.cells_long;
          cells_fit = omega arith;
          jobs_are = h.jobs_are;
          jobs_long = h.jobs_long;
          jobs_fit = h.jobs_fit;
          some_job = h.some_job;
          placed = h.placed;
        }

  pub holds_launch : (x : ℕ) (l g : Label) (child : StoredJob) → m < 64 → job_of child ≡ fresh_job sources x l g → Placed b child
      → Holds b (record { cells = s.cells; jobs = s.jobs ++ (fresh_job sources x l g ∷ []) }) cells n (set jobs m child) (m + 1)
  holds_launch x l g child q e pc =
      let u : m + 1 ≡ suc m = omega arith in
      record {
        cells_are = h.cells_are;
        cells_long = h.cells_long;
        cells_fit = h.cells_fit;
        jobs_are =
            rw u
            (front_push job_of jobs m child (omega (arith, h.jobs_long))
            ∙ ap (λ (t : List (States.Job Label)). t ++ (job_of child ∷ [])) h.jobs_are
            ∙ ap (λ (t : States.Job Label). s.jobs ++ (t ∷ [])) e);
        jobs_long = length-set jobs m child ∙ h.jobs_long;
        jobs_fit = omega arith;
        some_job = omega arith;
        placed = placed_set b jobs (m + 1) m child (omega (arith, h.jobs_long)) pc (λ k d r q. h.placed k d (behind m k r q));
      }
