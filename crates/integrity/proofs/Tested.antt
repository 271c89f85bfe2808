-- The three sentences as a test that computes.
--     sentences_hold        the test
--     breaks               where it fails, a sentence is broken
-- Assumes nothing.
use mathlib.Core.Path.{◌≡◌, refl}
use mathlib.Core.Bool.{Bool, true, false}
use mathlib.Core.List.Memᴰ
use mathlib.Core.List.{List, [], ◌∷◌}
use Rattle.labels.specs.Labels.{reaches, is_above, is_met, is_high}
use Rattle.book.specs.Control.{when◌then◌else◌, both}
use Rattle.book.specs.Book.{Book}
use Rattle.book.proofs.Tests.{clash}
use Rattle.machine.specs.Histories.{History, hands}
use Rattle.machine.specs.States.{Cell, Job, State}
use Rattle.machine.specs.Events.{stated_trust}
use Rattle.integrity.specs.Integrity.{◌is_in◌, Sentences}
use Rattle.integrity.specs.Weakened.{every}
use Rattle.integrity.proofs.Booleans.{both_true}

module _ (K : Book) where
  unfoldable pub cell_holds : Cell History → Bool
  cell_holds c =
      when is_high (stated_trust K c.shape) K.c
      then both (is_met (stated_trust K c.shape) c.label) (every (is_met (stated_trust K c.shape)) (hands c.content.history))
      else true

  unfoldable pub job_holds : Job History → Bool
  job_holds j = when is_above j.label K.c then every (λ h. reaches h j.label) (hands j.history) else true

  unfoldable pub sentences_hold : State History → Bool
  sentences_hold s = both (every cell_holds s.cells) (every job_holds s.jobs)

  member_every : {A : Type 0} (f : A → Bool) (l : List A) → ((a : A) → a is_in l → f a ≡ true) → every f l ≡ true
  unfolding every both
  member_every f [] h = refl
  member_every f (x ∷ xs) h = simp (every, h x (Memᴰ.head refl)) (member_every f xs (λ a i. h a (Memᴰ.tail i)))

  cell_tested : (s : State History) → Sentences K s → (c : Cell History) → c is_in s.cells → cell_holds c ≡ true
  unfolding cell_holds
  cell_tested s h c m = go (is_high (stated_trust K c.shape) K.c) refl
    where
      go : (b : Bool) → is_high (stated_trust K c.shape) K.c ≡ b → cell_holds c ≡ true
      go true p = simp p (both_true _ _ (h.labels c m p) (member_every (is_met (stated_trust K c.shape)) (hands c.content.history) (h.values c m p)))
      go false p = simp p

  job_tested : (s : State History) → Sentences K s → (j : Job History) → j is_in s.jobs → job_holds j ≡ true
  unfolding job_holds
  job_tested s h j m = go (is_above j.label K.c) refl
    where
      go : (b : Bool) → is_above j.label K.c ≡ b → job_holds j ≡ true
      go true p = simp p (member_every (λ x. reaches x j.label) (hands j.history) (h.jobs j m p))
      go false p = simp p

  pub breaks : (s : State History) → sentences_hold s ≡ false → Sentences K s → ⊥
  unfolding sentences_hold
  breaks s e h =
      clash (both_true _ _ (member_every cell_holds s.cells (cell_tested s h)) (member_every job_holds s.jobs (job_tested s h))) e
