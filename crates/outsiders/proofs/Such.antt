-- Laws of an outsider's act, for the code.
--     outsides      one set for the kinds of events
-- Assumes nothing.
use mathlib.Core.Path.{◌≡◌, ap, ◌∙◌}
use Prim.Native.Nat.{ℕ}
use Rattle.labels.specs.declared.Label.{Label}
use Rattle.labels.specs.Labels.{label}
use Rattle.machine.specs.declared.Event.{Event}
use Rattle.machine.specs.declared.Event.TheVariants.{StepOf, WriteBy, RelabelBy, NewBy, ExecBy, StartBy}
use Rattle.machine.specs.Histories.{sources}
use Rattle.machine.specs.States.{State}
use Rattle.machine.specs.Acts.{fresh_job, write_act, relabel_act, new_act, start_act, exec_act}
use Rattle.machine.specs.Acts as Acts
use Rattle.machine.specs.Steps.{Turn}
use Rattle.machine.specs.Events.{table_size, brought}
use Rattle.acts.specs.declared.Actor.{Actor}
use Rattle.acts.specs.declared.Stored.{Stored}
use Rattle.acts.specs.declared.Near.{Near}
use Rattle.acts.specs.declared.Act.{Act}
use Rattle.acts.specs.declared.Act.TheVariants.{Blocked}
use Rattle.acts.specs.Views.{stored_of, nearby, effect_of, Does, Makes, store_sort, launch_sort}
use Rattle.outsiders.specs.Outside.{aimed_at, outside}

pub outside_step : (y : Near) (e : Event) (i : ℕ) → e ≡ StepOf i → effect_of (aimed_at e) Blocked ≡ outside (nearby y) e
unfolding effect_of outside
outside_step y e i d = simp d

-- what an act does to the tables
does_is : {n : ℕ} {s : State Label} {k : ℕ} {e : Acts.Effect Label} {x : Act} → Does n s k e x → effect_of k x ≡ e
does_is {n} {s} d = ap (λ (t : Turn Label). t.effect) (d.does (fresh_job sources 0 (label 0) (label 0)))

makes_is : {s : State Label} {r : ℕ} {e : Acts.Effect Label} {x : Act} → Makes s r e x → effect_of 0 x ≡ e
makes_is {s} d = ap (λ (t : Turn Label). t.effect) (d.does (fresh_job sources 0 (label 0) (label 0)))

-- the outsider of label q, as who acts
module _ (y : Near) (e : Event) (x : Act) (q : Label) (g : Actor) (eg : g ≡ record { label = q; source = q }) where
  pub outside_write : (k v n : ℕ) (t : Stored) → e ≡ WriteBy q k v n → stored_of t ≡ brought sources q v n
      → Does store_sort (nearby y) k (write_act sources (nearby y) g.label g.source k (stored_of t)) x → effect_of (aimed_at e) x ≡ outside (nearby y) e
  unfolding aimed_at outside
  outside_write k v n t d et ex = rw d (does_is (rw eg at ex) ∙ ap (write_act sources (nearby y) q q k) et)

  pub outside_relabel : (k : ℕ) (o : Label) → e ≡ RelabelBy q k o
      → Does store_sort (nearby y) k (relabel_act sources (nearby y) g.label g.source k o) x → effect_of (aimed_at e) x ≡ outside (nearby y) e
  unfolding aimed_at outside
  outside_relabel k o d ex = rw d (does_is (rw eg at ex))

  pub outside_new : (r i v n : ℕ) (t : Stored) → e ≡ NewBy q i v n → stored_of t ≡ brought sources q v n
      → Makes (nearby y) r (new_act sources table_size (nearby y) g.label g.source i (stored_of t)) x → effect_of (aimed_at e) x ≡ outside (nearby y) e
  unfolding aimed_at outside
  outside_new r i v n t d et ex = rw d (makes_is (rw eg at ex) ∙ ap (new_act sources table_size (nearby y) q q i) et)

  pub outside_exec : (k : ℕ) → e ≡ ExecBy q k → Does launch_sort (nearby y) k (exec_act sources table_size (nearby y) g.label g.source k) x
      → effect_of (aimed_at e) x ≡ outside (nearby y) e
  unfolding aimed_at outside
  outside_exec k d ex = rw d (does_is (rw eg at ex))

  pub outside_start : (b : ℕ) → e ≡ StartBy q b → Does launch_sort (nearby y) 0 (start_act sources table_size (nearby y) g.label g.source b) x
      → effect_of (aimed_at e) x ≡ outside (nearby y) e
  unfolding aimed_at outside
  outside_start b d ex = rw d (does_is (rw eg at ex))

pub ruleset outsides = (outside_step, outside_write, outside_relabel, outside_new, outside_exec, outside_start)
