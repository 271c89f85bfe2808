-- Each event keeps the invariant, and so does a list of events.
--     outcome_ok, state_after_ok
-- Assumes nothing.
use mathlib.Core.Path.{◌≡◌, refl}
use mathlib.Core.Bool.{Bool, true, false}
use mathlib.Core.Option.{Option, none, some}
use mathlib.Core.List.{List, [], ◌∷◌}
use Prim.Native.Nat.{ℕ, suc}
use lib.ListN.{set, get_elem?, drop}
use borrow.Author.Tests.{not-true, leb-true}
use Rattle.labels.specs.declared.Label.{Label}
use Rattle.book.specs.declared.Step.{Step}
use Rattle.book.specs.Control.{on_some}
use Rattle.book.specs.Book.{Book}
use Rattle.book.proofs.Every.{all_set, all_at, all_map}
use Rattle.book.proofs.Tests.{clash, both_left, both_right}
use Rattle.typing.specs.Shapes.{view_of}
use Rattle.typing.specs.Rules.{Typed, breaks}
use Rattle.machine.specs.declared.Event.{Event}
use Rattle.machine.specs.declared.Event.TheVariants.{StepOf, WriteBy, RelabelBy, NewBy, ExecBy, StartBy}
use Rattle.machine.specs.Control.{given}
use Rattle.machine.specs.Histories.{sources}
use Rattle.machine.specs.States.{Job, State}
use Rattle.machine.specs.Steps.{Turn, turn_of}
use Rattle.machine.specs.Events.{Outcome, block_of, brought, landed, turn_landed, outcome_of, state_after}
use Rattle.integrity.proofs.Trees.{Grounded}
use Rattle.integrity.proofs.Entries.{drop_at}
use Rattle.integrity.proofs.Numbers.{low_normal}
use Rattle.integrity.proofs.Invariant.{passes_all, shape_of, JobOk, Invariant, job_kept}
use Rattle.integrity.proofs.Effects.{After, grows, landed_ok, landed_outside}
use Rattle.integrity.proofs.Walks.{StepOk, broken, waits, fine}
use Rattle.integrity.proofs.LowActs.{BlocksPass, low_write, low_relabel, low_new, low_start, low_exec}
use Rattle.integrity.proofs.Steps.{step_ok}

pub record Keeps (K : Book) (o : Outcome Label) : Type 0 where
  pub kept : Invariant K o.state

-- what a test, an entry, leads to
module _ {K : Book} {p : Outcome Label} (v : Keeps K p) where
  such_ok : {b : Bool} {o : Outcome Label} → (b ≡ true → Keeps K o) → Keeps K (given b o p)
  unfolding given
  such_ok {b = true} f = f refl
  such_ok {b = false} f = v

  there_ok : {A : Type 0} {m : Option A} {f : A → Outcome Label} → ((a : A) → m ≡ some a → Keeps K (f a)) → Keeps K (on_some m p f)
  unfolding on_some
  there_ok {m = none} f = v
  there_ok {m = some a} f = f a refl

passes_breaks : (K : Book) (ps : List Step) → passes_all (view_of K) ps breaks ≡ false
passes_breaks K [] = refl
passes_breaks K (p ∷ ps) = refl

-- a job's turn, in the tables
turn_ok : (K : Book) (s : State Label) → Invariant K s → (i : ℕ) (j : Job Label) {x : Typed} {o : Turn Label} → StepOk K s.cells j x o
    → passes_all (view_of K) (drop (suc j.position) (block_of K j.block).steps) x ≡ true → Invariant K (turn_landed s i o).state
unfolding turn_landed landed
turn_ok K s v i j broken q = clash q (passes_breaks K (drop (suc j.position) (block_of K j.block).steps))
turn_ok K s v i j waits q = v
turn_ok K s v i j (fine {t} {i = n} {e} h) q =
    landed_ok K s (set s.jobs i n) e v h.effect
    (all_set (JobOk K (After K s.cells e)) s.jobs i n (all_map (job_kept K (grows K s.cells e h.effect)) s.jobs v.jobs)
    (record { state = t; matches = h.matches; rest = rw (h.same, h.moved) q }))

module _ (K : Book) (size : ℕ) (ok : Grounded (shape_of K)) (pass : BlocksPass K) where
  step_event_lem : (s : State Label) → Invariant K s → (i : ℕ) (j : Job Label) → get_elem? s.jobs i ≡ some j
      → (p : Step) → get_elem? (block_of K j.block).steps j.position ≡ some p → Invariant K (turn_landed s i (turn_of sources size s j p)).state
  step_event_lem s v i j ej p ep =
      let h = all_at (JobOk K s.cells) s.jobs i j v.jobs ej in
      let d = drop_at (block_of K j.block).steps j.position p ep in
      turn_ok K s v i j (step_ok K size s v ok pass j h.state h.matches p) (rw d at h.rest)

  outcome_ok : (s : State Label) → Invariant K s → (e : Event) → Keeps K (outcome_of sources size K s e)
  unfolding outcome_of
  outcome_ok s v (StepOf i) =
      there_ok (record { kept = v }) (λ j ej. there_ok (record { kept = v }) (λ p ep. record { kept = step_event_lem s v i j ej p ep }))
  outcome_ok s v (WriteBy q k x n) =
      such_ok (record { kept = v })
      (λ g. record { kept = landed_outside K s _ v (low_write K s v q q (leb-true _ _ (both_left _ _ g)) k (brought sources q x n)) })
  outcome_ok s v (RelabelBy q k o) =
      such_ok (record { kept = v }) (λ g. record { kept = landed_outside K s _ v (low_relabel K s v q q (leb-true _ _ (both_left _ _ g)) k o) })
  outcome_ok s v (NewBy q i x n) =
      such_ok (record { kept = v })
      (λ g.
      let l = low_normal K.c _ (not-true _ (both_right _ _ (both_left _ _ (both_right _ _ g)))) in
      record { kept = landed_outside K s _ v (low_new K size s v q q (leb-true _ _ (both_left _ _ g)) i (brought sources q x n) l) })
  outcome_ok s v (ExecBy q k) =
      such_ok (record { kept = v }) (λ g. record { kept = landed_outside K s _ v (low_exec K size s v q q (leb-true _ _ (both_left _ _ g)) pass k) })
  outcome_ok s v (StartBy q b) =
      such_ok (record { kept = v }) (λ g. record { kept = landed_outside K s _ v (low_start K size s v q q (leb-true _ _ (both_left _ _ g)) pass b) })

  pub state_after_ok : (es : List Event) (s : State Label) → Invariant K s → Invariant K (state_after sources size K s es)
  unfolding state_after
  state_after_ok [] s v = v
  state_after_ok (e ∷ es) s v = state_after_ok es (outcome_of sources size K s e).state (outcome_ok s v e).kept
