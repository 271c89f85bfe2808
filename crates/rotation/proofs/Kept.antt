-- What a step of job j does to the job table: the other jobs stand as they stood, none goes, and no more come than the tables hold.
--     Kept, kept     the law, for any state and any number of a job
-- Assumes nothing.
use mathlib.Core.Path.{◌≡◌, refl, ◌∙◌}
use mathlib.Core.List.{List, [], ◌∷◌, ◌++◌}
use Prim.Native.Nat.{ℕ, ◌≤◌, ◌<◌}
use native.Mathlib.Omega.{arith}
use lib.ListN.{length, set, get_elem?, length-append, length-set}
use borrow.Author.Tests.{ltb-true}
use Rattle.labels.specs.declared.Label.{Label}
use Rattle.book.specs.declared.Step.{Step}
use Rattle.book.specs.declared.Step.TheVariants.{Put, Name, Code, Add, New, Read, Write, Relabel, Lower, Start, Exec, Choose}
use Rattle.book.specs.Book.{Book}
use Rattle.machine.specs.declared.Event.TheVariants.{StepOf}
use Rattle.machine.specs.Histories.{Histories}
use Rattle.machine.specs.States.{Traced, Cell, Job, State}
use Rattle.machine.specs.Acts.{Effect, blocked, keep, store, create, launch, write_act, relabel_act, new_act, start_act, exec_act}
use Rattle.machine.specs.Steps.{Turn, through, add_step, read_step, lower_step, turn_of}
use Rattle.machine.specs.Events.{Outcome, landed, turn_landed, outcome_of}
use Rattle.machine.proofs.Cases.{given_both, some_both, plain_both, cell_both, code_both}
use Rattle.rotation.specs.Round.{stepped}
use Rattle.rotation.proofs.Entries.{entry_set, entry_append}

-- of the state s before a step of job j, and the state t after it, in tables of this size
pub record Kept {H : Type 0} (size : ℕ) (s : State H) (j : ℕ) (t : State H) : Type 0 where
  pub more : length s.jobs ≤ length t.jobs
  pub fits : length s.jobs ≤ size → length t.jobs ≤ size
  pub others : (i : ℕ) → (j ≡ i → ⊥) → i < length s.jobs → get_elem? t.jobs i ≡ get_elem? s.jobs i

module _ {H : Type 0} (size : ℕ) (s : State H) where
  -- a job is started only where one fits
  data Fitting : Effect H → Type 0 where
    blocked_fits : Fitting blocked
    keep_fits : Fitting keep
    store_fits : {k : ℕ} {c : Cell H} → Fitting (store k c)
    create_fits : {c : Cell H} → Fitting (create c)
    launch_fits : {j : Job H} → length s.jobs < size → Fitting (launch j)

  record FittingTurn (t : Turn H) : Type 0 where
    effect : Fitting t.effect

  record KeptBy (j : ℕ) (o : Outcome H) : Type 0 where
    state : Kept size s j o.state

  same : (j : ℕ) → Kept size s j s
  same j = record { more = omega arith; fits = λ h. h; others = λ i d l. refl }

  -- job j is another entry
  stored : (j : ℕ) (x : Job H) (cells : List (Cell H)) → Kept size s j (record { cells = cells; jobs = set s.jobs j x })
  stored j x cells =
      let e = length-set s.jobs j x in
      record { more = omega arith; fits = λ h. omega arith; others = λ i d l. entry_set s.jobs j i x d }

  -- and a job is new
  started : (j : ℕ) (x y : Job H) (cells : List (Cell H)) → length s.jobs < size → Kept size s j (record { cells = cells; jobs = set s.jobs j x ++ (y ∷ []) })
  started j x y cells f =
      let e = length-set s.jobs j x in
      let g = length-append (set s.jobs j x) (y ∷ []) in
      record {
        more = omega arith;
        fits = λ h. omega arith;
        others = λ i d l. entry_append (set s.jobs j x) (y ∷ []) i (omega arith) ∙ entry_set s.jobs j i x d;
      }

  landed_kept : (j : ℕ) (x : Job H) {e : Effect H} → Fitting e → KeptBy j (landed s (record { cells = s.cells; jobs = set s.jobs j x }) e)
  unfolding landed
  landed_kept j x blocked_fits = record { state = same j }
  landed_kept j x keep_fits = record { state = stored j x _ }
  landed_kept j x store_fits = record { state = stored j x _ }
  landed_kept j x create_fits = record { state = stored j x _ }
  landed_kept j x (launch_fits f) = record { state = started j x _ _ f }

  turn_kept : (j : ℕ) {t : Turn H} → FittingTurn t → KeptBy j (turn_landed s j t)
  unfolding turn_landed
  turn_kept j {t} f = landed_kept j t.job f.effect

module _ (A : Histories) (size : ℕ) where
  open A use {H}

  module _ (s : State H) where
    abbrev Fits : Effect H → Type 0
    Fits = Fitting size s

    abbrev FitsTurn : Turn H → Type 0
    FitsTurn = FittingTurn size s

    -- the acts
    module _ (l : Label) (h : H) where
      writing_fits : (k : ℕ) (v : Traced H) → Fits (write_act A s l h k v)
      unfolding write_act
      writing_fits k v = some_both Fits blocked_fits (λ c ec. given_both Fits blocked_fits (λ t. store_fits))

      relabelling_fits : (k : ℕ) (o : Label) → Fits (relabel_act A s l h k o)
      unfolding relabel_act
      relabelling_fits k o = some_both Fits blocked_fits (λ c ec. given_both Fits blocked_fits (λ t. store_fits))

      making_fits : (i : ℕ) (v : Traced H) → Fits (new_act A size s l h i v)
      unfolding new_act
      making_fits i v = given_both Fits blocked_fits (λ t. create_fits)

      starting_fits : (b : ℕ) → Fits (start_act A size s l h b)
      unfolding start_act
      starting_fits b = given_both Fits blocked_fits (λ t. launch_fits (ltb-true _ _ t))

      executing_fits : (k : ℕ) → Fits (exec_act A size s l h k)
      unfolding exec_act
      executing_fits k =
          some_both Fits blocked_fits
          (λ c ec. code_both Fits blocked_fits (λ b eb. given_both Fits blocked_fits (λ t. launch_fits (ltb-true _ _ t))))

    -- a step of a job
    module _ (j : Job H) where
      waits : {x : Job H} → FitsTurn (record { job = x; effect = blocked })
      waits = record { effect = blocked_fits }

      keeps : {x : Job H} → FitsTurn (record { job = x; effect = keep })
      keeps = record { effect = keep_fits }

      through_fits : (w : ℕ) (f : ℕ → Effect H) → ((k : ℕ) → Fits (f k)) → FitsTurn (through A j w f)
      through_fits w f g = cell_both FitsTurn waits (λ k ek. record { effect = g k })

      turn_fits : (p : Step) → FitsTurn (turn_of A size s j p)
      unfolding turn_of add_step read_step lower_step
      turn_fits (Put r n) = keeps
      turn_fits (Name r k) = keeps
      turn_fits (Code r b) = keeps
      turn_fits (Add r a b) = plain_both FitsTurn waits (λ x ex. plain_both FitsTurn waits (λ y ey. given_both FitsTurn waits (λ t. keeps)))
      turn_fits (New r i a) = record { effect = making_fits _ _ i _ }
      turn_fits (Read r w) = cell_both FitsTurn waits (λ k ek. some_both FitsTurn waits (λ c ec. keeps))
      turn_fits (Write w a) = through_fits w _ (λ k. writing_fits _ _ k _)
      turn_fits (Relabel w o) = through_fits w _ (λ k. relabelling_fits _ _ k o)
      turn_fits (Lower q) = given_both FitsTurn waits (λ t. keeps)
      turn_fits (Start b) = record { effect = starting_fits _ _ b }
      turn_fits (Exec w) = through_fits w _ (executing_fits _ _)
      turn_fits (Choose r a b) = plain_both FitsTurn waits (λ n en. record { effect = starting_fits _ _ _ })

  module _ (K : Book) (s : State H) (j : ℕ) where
    abbrev Keeps : Outcome H → Type 0
    Keeps = KeptBy size s j

    outcome_kept : Keeps (outcome_of A size K s (StepOf j))
    unfolding outcome_of
    outcome_kept =
        some_both Keeps (record { state = same size s j })
        (λ x ex. some_both Keeps (record { state = same size s j })
        (λ p ep. turn_kept size s j (turn_fits s x p)))

    pub kept : Kept size s j (stepped A size K s j)
    kept = outcome_kept.state
