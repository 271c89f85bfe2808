-- A round of a machine over the images of histories steps the same jobs: no test of a scan reads a history.
--     has_image, next_image            a job with a step left; the next one
--     chosen_image                     the jobs of a round, from any state and any place
--     chosen_sources, chosen_fresh     of the machine that keeps sources
-- Assumes nothing.
use mathlib.Core.Path.{◌≡◌, refl, sym, ap, ◌∙◌, fun_ext}
use mathlib.Core.Bool.{Bool}
use mathlib.Core.List.{List, ◌∷◌}
use Prim.Native.Nat.{ℕ, zero, suc}
use lib.ListN.{length, length-map}
use Rattle.labels.specs.declared.Label.{Label}
use Rattle.book.specs.Book.{Book}
use Rattle.machine.specs.declared.Event.TheVariants.{StepOf}
use Rattle.machine.specs.Histories.{Histories, lists, source, sources}
use Rattle.machine.specs.States.{State}
use Rattle.machine.specs.Events.{Outcome, fresh_state}
use Rattle.machine.specs.Images.{job_image, state_image, Images}
use Rattle.machine.proofs.Maps.{get_elem?_map, on_some_entry}
use Rattle.machine.proofs.Sources.{source_law}
use Rattle.rotation.specs.Found.{JobFound}
use Rattle.std.specs.Prelude.{Some, None}
use Rattle.rotation.specs.Round.{first_place, scan, has_step, next_job, stepped, place_after, chosen_jobs}
use Rattle.rotation.proofs.Rounds.{chosen_on, chosen_over}

-- of any map of histories
module _ {G H : Type 0} (f : G → H) (K : Book) where
  pub has_image : (s : State G) (i : ℕ) → has_step K (state_image f s) i ≡ has_step K s i
  unfolding has_step
  has_image s i = simp (get_elem?_map (job_image f), on_some_entry)

  pub next_image : (s : State G) (from : ℕ) → next_job K (state_image f s) from ≡ next_job K s from
  unfolding next_job
  next_image s from =
      ap (λ (t : ℕ → Bool). scan t (length (state_image f s).jobs) (length (state_image f s).jobs) (first_place from (length (state_image f s).jobs))) (fun_ext (has_image s))
      ∙ ap (λ (m : ℕ). scan (has_step K s) m m (first_place from m)) (length-map s.jobs (job_image f))

-- of a map whose machine is the image
module _ (A B : Histories) (f : A.H → B.H) (size : ℕ) (K : Book) (law : Images A B f size K) where
  stepped_image : (s : State A.H) (j : ℕ) → stepped B size K (state_image f s) j ≡ state_image f (stepped A size K s j)
  stepped_image s j = ap (λ (o : Outcome B.H). o.state) (sym (law.event_image s (StepOf j)))

  pub chosen_image : (n : ℕ) (s : State A.H) (from : ℕ) → chosen_jobs B size K n (state_image f s) from ≡ chosen_jobs A size K n s from
  unfolding chosen_jobs
  chosen_image zero s from = refl
  chosen_image (suc n) s from = go (next_job K s from) refl (λ j. chosen_image n (stepped A size K s j) (place_after j))
    where
      go : (x : JobFound) → next_job K s from ≡ x
          → ((j : ℕ) → chosen_jobs B size K n (state_image f (stepped A size K s j)) (place_after j) ≡ chosen_jobs A size K n (stepped A size K s j) (place_after j))
          → chosen_jobs B size K (suc n) (state_image f s) from ≡ chosen_jobs A size K (suc n) s from
      go (Some j) e next =
          chosen_on B size K n (state_image f s) from j (next_image f K s from ∙ e)
          ∙ ap (λ (t : State B.H). j ∷ chosen_jobs B size K n t (place_after j)) (stepped_image s j)
          ∙ ap (λ (l : List ℕ). j ∷ l) (next j)
          ∙ sym (chosen_on A size K n s from j e)
      go None e next = chosen_over B size K n (state_image f s) from (next_image f K s from ∙ e) ∙ sym (chosen_over A size K n s from e)

module _ (size : ℕ) (K : Book) where
  pub chosen_sources : (n : ℕ) (s : State lists.H) (from : ℕ) → chosen_jobs sources size K n (state_image source s) from ≡ chosen_jobs lists size K n s from
  chosen_sources = chosen_image lists sources source size K (source_law size K)

  pub chosen_fresh : (n : ℕ) (l : Label) → chosen_jobs sources size K n (fresh_state sources K l) 0 ≡ chosen_jobs lists size K n (fresh_state lists K l) 0
  chosen_fresh n l =
      ap (λ (s : State Label). chosen_jobs sources size K n s 0) (sym ((source_law size K).fresh_image l)) ∙ chosen_sources n (fresh_state lists K l) 0
