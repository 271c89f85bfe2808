-- The history of a job that exec starts; an outsider above C changes nothing; what choose starts.
--     exec_history, above_c, choose_starts
-- Assumes nothing.
use mathlib.Core.Path.{◌≡◌, refl}
use mathlib.Core.Bool.{true, false}
use mathlib.Core.Option.{Option, some}
use Prim.Native.Nat.{suc, ◌≤◌}
use native.Mathlib.Omega.{arith}
use lib.ListN.{length}
use mathlib.Core.List.Memᴰ
use mathlib.Core.List.{List, [], ◌∷◌, ◌++◌}
use borrow.Author.Tests.{ne_eqb, lt-ltb, le-ltb, ltb-true, lt-leb}
use Rattle.labels.proofs.Impossible.{impossible}
use Rattle.labels.specs.declared.Label.{Label}
use Rattle.labels.specs.Labels.{lower, reaches, is_above}
use Rattle.book.specs.declared.Value.{Value}
use Rattle.book.specs.declared.Value.TheVariants.{Plain, CellName, CodeName}
use Rattle.book.specs.Control.{both, on_some}
use Rattle.machine.specs.Control.{given, on_plain, on_code}
use Rattle.machine.specs.declared.Event.TheVariants.{StepOf, WriteBy, RelabelBy, NewBy, ExecBy, StartBy}
use Rattle.machine.specs.Histories.{hands, lists, append}
use Rattle.machine.specs.Acts.{blocked, fresh_job, exec_label, start_act, exec_act}
use Rattle.machine.specs.Steps.{chosen, register, turn_of}
use Rattle.machine.specs.Events.{outcome_of}
use Rattle.integrity.specs.Integrity.{◌is_in◌}
use Rattle.integrity.specs.Laws.{ExecHistory, AboveC, chooses, ChooseStarts}

-- a member of a part
in_front : {A : Type 0} (x : A) (xs ys : List A) → x is_in xs → x is_in (xs ++ ys)
in_front x [] ys m = absurd (Memᴰ.not-nil m)
in_front x (y ∷ xs) ys (Memᴰ.head e) = Memᴰ.head e
in_front x (y ∷ xs) ys (Memᴰ.tail m) = Memᴰ.tail (in_front x xs ys m)

behind : {A : Type 0} (x : A) (xs ys : List A) → x is_in ys → x is_in (xs ++ ys)
behind x [] ys m = m
behind x (y ∷ xs) ys m = Memᴰ.tail (behind x xs ys m)

pub exec_history : ExecHistory
unfolding exec_act exec_label on_some on_code given
exec_history size s l h k b c ec ev free = (
  fresh_job lists b (lower l c.label) (append (append h c.content.history) (record { first = lower l c.label; rest = [] })),
  simp (ec, ev, lt-ltb _ _ free),
  record {
    block = refl;
    label = refl;
    history = refl;
    code = λ x m. in_front x (hands h ++ hands c.content.history) (lower l c.label ∷ []) (behind x (hands h) (hands c.content.history) m);
  },
)

-- above C is not at or below it
not_below : (q c : Label) → is_above q c ≡ true → reaches c q ≡ false
not_below q c e = lt-leb q.0 c.0 (ltb-true c.0 q.0 e)

same_label : (p q : Label) → ◌≡◌ {A = Option Label} (some p) (some q) → p ≡ q
same_label p q e = cc

pub above_c : AboveC
unfolding outcome_of given both
above_c size K s (StepOf i) q e h = impossible cc
above_c size K s (WriteBy p k v n) q e h = simp (not_below p K.c (rw (same_label p q e) h))
above_c size K s (RelabelBy p k o) q e h = simp (not_below p K.c (rw (same_label p q e) h))
above_c size K s (NewBy p i v n) q e h = simp (not_below p K.c (rw (same_label p q e) h))
above_c size K s (ExecBy p k) q e h = simp (not_below p K.c (rw (same_label p q e) h))
above_c size K s (StartBy p b) q e h = simp (not_below p K.c (rw (same_label p q e) h))

pub choose_starts : ChooseStarts
unfolding turn_of start_act on_plain chosen given
choose_starts size s j r a b =
    record {
      not_zero = λ n e f. simp (e, ne_eqb (suc n) 0 (λ z. omega arith), lt-ltb _ _ f);
      zero = λ e f. simp (e, lt-ltb _ _ f);
      cell_name = λ k e. simp e;
      code_name = λ k e. simp e;
      full = λ h. go h (register lists j r).value refl;
    }
  where
    go : size ≤ length s.jobs → (v : Value) → (register lists j r).value ≡ v → (chooses size s j r a b).effect ≡ blocked
    go h (Plain n) e = simp (e, le-ltb _ _ h)
    go h (CellName k) e = simp e
    go h (CodeName k) e = simp e
