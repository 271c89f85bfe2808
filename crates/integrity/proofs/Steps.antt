-- Each step of a job: what the rule says of it holds of what the machine does.
--     low_step        at P at or below C
--     step_ok         at every P
-- Assumes nothing.
use mathlib.Core.Path.{◌≡◌}
use mathlib.Core.Bool.{true, not}
use Prim.Native.Nat.{ℕ, ◌<◌, ◌≤◌}
use native.Mathlib.Omega.{arith}
use borrow.Author.Tests.{not-true, leb-true, leb-false, ltb-false}
use Rattle.labels.specs.declared.Label.{Label}
use Rattle.book.specs.declared.Step.{Step}
use Rattle.book.specs.declared.Step.TheVariants.{Put, Name, Code, Add, New, Read, Write, Relabel, Lower, Start, Exec, Choose}
use Rattle.book.specs.Book.{Book}
use Rattle.typing.specs.declared.State as T
use Rattle.typing.specs.Shapes.{view_of, is_high_trust, counted_trust}
use Rattle.typing.specs.Rules.{passes, is_low, low_rule, high_rule, step_rule}
use Rattle.machine.specs.Histories.{sources}
use Rattle.machine.specs.States.{Job, State}
use Rattle.machine.specs.Acts.{Effect, keep}
use Rattle.machine.specs.Steps.{chosen, register, through, add_step, read_step, turn_of}
use Rattle.integrity.proofs.Trees.{Grounded}
use Rattle.integrity.proofs.Invariant.{shape_of, Match, Invariant}
use Rattle.integrity.proofs.Effects.{EffectOk, keep_ok}
use Rattle.integrity.proofs.Walks.{StepOk, need_ok, either_ok, given_ok, entry_ok, plain_ok, cell_ok}
use Rattle.integrity.proofs.LowActs.{BlocksPass, low_write, low_relabel, low_new, low_start, low_exec}
use Rattle.integrity.proofs.Outcomes.{low_ok, moves_ok}
use Rattle.integrity.proofs.HighSteps.{put_ok, name_ok, code_ok, add_ok, new_ok, read_ok, lower_ok, write_ok, relabel_ok, start_ok, exec_ok, choose_ok}

module _ (K : Book) (size : ℕ) (s : State Label) (v : Invariant K s) (ok : Grounded (shape_of K)) (pass : BlocksPass K) (j : Job Label) (t : T.State)
    (m : Match K s.cells t j) where
  -- the job is at or below C too
  low_label : t.p.0 ≤ K.c.0 → j.label.0 ≤ K.c.0
  low_label lo = let h = m.label in omega arith

  low_trust : (i : ℕ) → not (is_high_trust K.c (shape_of K) i) ≡ true → (counted_trust K.c (shape_of K) i).0 ≤ K.c.0
  low_trust i e = ltb-false _ _ (not-true _ e)

  -- an act through a register
  through_ok : (w : ℕ) (act : ℕ → Effect Label) → ((k : ℕ) → EffectOk K s.cells (act k)) → StepOk K s.cells j (passes t) (through sources j w act)
  through_ok w act h = cell_ok K (λ k ek. moves_ok K s j t m (act k) (h k))

  low_step : t.p.0 ≤ K.c.0 → (p : Step) → StepOk K s.cells j (low_rule K.c (shape_of K) t p) (turn_of sources size s j p)
  unfolding low_rule turn_of add_step read_step
  low_step lo (Put r n) = low_ok K s j t m r _ _ keep keep_ok
  low_step lo (Name r k) = low_ok K s j t m r _ _ keep keep_ok
  low_step lo (Code r b) = low_ok K s j t m r _ _ keep keep_ok
  low_step lo (Add r a b) = plain_ok K (λ x ex. plain_ok K (λ y ey. given_ok K (λ e. low_ok K s j t m r _ _ keep keep_ok)))
  low_step lo (New r i a) =
      need_ok K (λ e. low_ok K s j t m r _ _ _ (low_new K size s v j.label j.history (low_label lo) i (register sources j a) (low_trust i e)))
  low_step lo (Read r w) = cell_ok K (λ k ek. entry_ok K (λ c ec. low_ok K s j t m r _ _ keep keep_ok))
  low_step lo (Write w a) = through_ok w _ (λ k. low_write K s v j.label j.history (low_label lo) k (register sources j a))
  low_step lo (Relabel w o) = through_ok w _ (λ k. low_relabel K s v j.label j.history (low_label lo) k o)
  low_step lo (Lower q) = lower_ok K size s v ok pass j t m q
  low_step lo (Start b) = moves_ok K s j t m _ (low_start K size s v j.label j.history (low_label lo) pass b)
  low_step lo (Exec w) = through_ok w _ (λ k. low_exec K size s v j.label j.history (low_label lo) pass k)
  low_step lo (Choose r a b) =
      plain_ok K (λ n en. moves_ok K s j t m _ (low_start K size s v j.label j.history (low_label lo) pass (chosen n a b)))

  high_step : K.c.0 < t.p.0 → (p : Step) → StepOk K s.cells j (high_rule (view_of K) t p) (turn_of sources size s j p)
  unfolding high_rule turn_of view_of
  high_step hi (Put r n) = put_ok K size s v ok pass j t m r n
  high_step hi (Name r k) = name_ok K size s v ok pass j t m r k
  high_step hi (Code r b) = code_ok K size s v ok pass j t m r b
  high_step hi (Add r a b) = add_ok K size s v ok pass j t m r a b
  high_step hi (New r i a) = new_ok K size s v ok pass j t m r i a hi
  high_step hi (Read r w) = read_ok K size s v ok pass j t m r w
  high_step hi (Write w a) = write_ok K size s v ok pass j t m w a hi
  high_step hi (Relabel w o) = relabel_ok K size s v ok pass j t m w o hi
  high_step hi (Lower q) = lower_ok K size s v ok pass j t m q
  high_step hi (Start b) = start_ok K size s v ok pass j t m b
  high_step hi (Exec w) = exec_ok K size s v ok pass j t m w hi
  high_step hi (Choose r a b) = choose_ok K size s v ok pass j t m r a b

  pub step_ok : (p : Step) → StepOk K s.cells j (step_rule (view_of K) t p) (turn_of sources size s j p)
  unfolding step_rule view_of
  step_ok p = either_ok K (is_low K.c t.p) (λ e. low_step (leb-true _ _ e) p) (λ e. high_step (leb-false _ _ e) p)
