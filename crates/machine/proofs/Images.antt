-- The machine over the images of histories is the image of the machine: no test reads a history.
--     images       the law, for any image of histories
-- Assumes nothing.
use mathlib.Core.Path.{◌≡◌, refl, ap, ap₂, ◌∙◌}
use mathlib.Core.List.{List, [], ◌∷◌, map, map-append}
use Prim.Native.Nat.{ℕ}
use lib.ListN.{length-map, get_or-map}
use Rattle.labels.specs.declared.Label.{Label}
use Rattle.book.specs.declared.Declared.{Declared}
use Rattle.book.specs.declared.Step.{Step}
use Rattle.book.specs.declared.Step.TheVariants.{Put, Name, Code, Add, New, Read, Write, Relabel, Lower, Start, Exec, Choose}
use Rattle.book.specs.Book.{Book}
use Rattle.machine.specs.declared.Event.{Event}
use Rattle.machine.specs.declared.Event.TheVariants.{StepOf, WriteBy, RelabelBy, NewBy, ExecBy, StartBy}
use Rattle.machine.specs.Histories.{Histories}
use Rattle.machine.specs.States.{Traced, Job, State}
use Rattle.machine.specs.Acts.{Effect, blocked, keep, store, create, launch, zero_with, write_act, relabel_act, new_act, start_act, exec_act}
use Rattle.machine.specs.Steps.{Turn, register, add_step, read_step, lower_step, turn_of}
use Rattle.machine.specs.Events.{Outcome, landed, turn_landed, outcome_of, declared, fresh_state, state_after, answers}
use Rattle.machine.specs.Images.{Image, traced_image, cell_image, job_image, state_image, outcome_image, Images}
use Rattle.machine.proofs.Maps.{map_set, get_elem?_map, given_map, on_some_map, on_plain_map, on_cell_map, on_code_map, on_some_entry}

module _ {G H : Type 0} (f : G → H) where
  unfoldable effect_image : Effect G → Effect H
  effect_image blocked = blocked
  effect_image keep = keep
  effect_image (store k c) = store k (cell_image f c)
  effect_image (create c) = create (cell_image f c)
  effect_image (launch j) = launch (job_image f j)

  abbrev turn_image : Turn G → Turn H
  turn_image t = record { job = job_image f t.job; effect = effect_image t.effect }

module _ (A B : Histories) (i : Image A B) where
  open i use {of, of_one, of_join}

  register_image : (j : Job A.H) (r : ℕ) → register B (job_image of j) r ≡ traced_image of (register A j r)
  register_image j r = get_or-map (traced_image of) j.registers r (zero_with A j.history)

  -- the acts
  module _ (s : State A.H) (l : Label) (h : A.H) where
    writing_image : (k : ℕ) (v : Traced A.H) → effect_image of (write_act A s l h k v) ≡ write_act B (state_image of s) l (of h) k (traced_image of v)
    unfolding write_act effect_image
    writing_image k v = simp (get_elem?_map (cell_image of), on_some_entry, on_some_map (effect_image of), given_map (effect_image of), of_join)

    relabelling_image : (k : ℕ) (o : Label) → effect_image of (relabel_act A s l h k o) ≡ relabel_act B (state_image of s) l (of h) k o
    unfolding relabel_act effect_image
    relabelling_image k o = simp (get_elem?_map (cell_image of), on_some_entry, on_some_map (effect_image of), given_map (effect_image of))

  module _ (size : ℕ) (s : State A.H) (l : Label) (h : A.H) where
    making_image : (k : ℕ) (v : Traced A.H) → effect_image of (new_act A size s l h k v) ≡ new_act B size (state_image of s) l (of h) k (traced_image of v)
    unfolding new_act effect_image
    making_image k v = simp (length-map, given_map (effect_image of), of_join)

    starting_image : (b : ℕ) → effect_image of (start_act A size s l h b) ≡ start_act B size (state_image of s) l (of h) b
    unfolding start_act effect_image
    starting_image b = simp (length-map, given_map (effect_image of))

    executing_image : (k : ℕ) → effect_image of (exec_act A size s l h k) ≡ exec_act B size (state_image of s) l (of h) k
    unfolding exec_act effect_image
    executing_image k =
        simp (get_elem?_map (cell_image of), on_some_entry, on_some_map (effect_image of), on_code_map (effect_image of), length-map, given_map (effect_image of), of_join, of_one)

  -- a step
  module _ (size : ℕ) (s : State A.H) (j : Job A.H) where
    turn_image_lem : (p : Step) → turn_image of (turn_of A size s j p) ≡ turn_of B size (state_image of s) (job_image of j) p
    unfolding turn_of add_step read_step lower_step effect_image
    turn_image_lem (Put r n) = simp (map_set (traced_image of))
    turn_image_lem (Name r k) = simp (map_set (traced_image of))
    turn_image_lem (Code r b) = simp (map_set (traced_image of))
    turn_image_lem (Add r a b) = simp (register_image j, on_plain_map (turn_image of), given_map (turn_image of), map_set (traced_image of), of_join)
    turn_image_lem (New r k a) = simp (length-map, register_image j, map_set (traced_image of), making_image)
    turn_image_lem (Read r w) =
        simp (register_image j, on_cell_map (turn_image of), get_elem?_map (cell_image of), on_some_entry, on_some_map (turn_image of), map_set (traced_image of), of_join)
    turn_image_lem (Write w a) = simp (register_image j, on_cell_map (turn_image of), writing_image)
    turn_image_lem (Relabel w o) = simp (register_image j, on_cell_map (turn_image of), relabelling_image)
    turn_image_lem (Lower q) = simp (given_map (turn_image of), of_join, of_one)
    turn_image_lem (Start b) = simp starting_image
    turn_image_lem (Exec w) = simp (register_image j, on_cell_map (turn_image of), executing_image)
    turn_image_lem (Choose r a b) = simp (register_image j, on_plain_map (turn_image of), starting_image)

  landed_image : (s t : State A.H) (e : Effect A.H) → outcome_image of (landed s t e) ≡ landed (state_image of s) (state_image of t) (effect_image of e)
  unfolding landed effect_image
  landed_image s t blocked = refl
  landed_image s t keep = refl
  landed_image s t (store k c) = simp (map_set (cell_image of))
  landed_image s t (create c) = simp (map-append (cell_image of))
  landed_image s t (launch j) = simp (map-append (job_image of))

  landed_turn_image : (s : State A.H) (i : ℕ) (t : Turn A.H) → outcome_image of (turn_landed s i t) ≡ turn_landed (state_image of s) i (turn_image of t)
  unfolding turn_landed
  landed_turn_image s i t = simp (landed_image, map_set (job_image of))

  module _ (size : ℕ) (K : Book) where
    step_image : (s : State A.H) (i : ℕ) (j : Job A.H) (p : Step)
        → outcome_image of (turn_landed s i (turn_of A size s j p)) ≡ turn_landed (state_image of s) i (turn_of B size (state_image of s) (job_image of j) p)
    step_image s i j p = landed_turn_image s i (turn_of A size s j p) ∙ ap (turn_landed (state_image of s) i) (turn_image_lem size s j p)

    outcome_image_lem : (s : State A.H) (e : Event) → outcome_image of (outcome_of A size K s e) ≡ outcome_of B size K (state_image of s) e
    unfolding outcome_of
    outcome_image_lem s (StepOf i) =
        simp (get_elem?_map (job_image of), on_some_entry, on_some_map (outcome_image of), step_image)
    outcome_image_lem s (WriteBy q k v n) = simp (length-map, given_map (outcome_image of), landed_image, writing_image, of_one)
    outcome_image_lem s (RelabelBy q k o) = simp (length-map, given_map (outcome_image of), landed_image, relabelling_image, of_one)
    outcome_image_lem s (NewBy q i v n) = simp (length-map, given_map (outcome_image of), landed_image, making_image, of_one)
    outcome_image_lem s (ExecBy q k) = simp (length-map, given_map (outcome_image of), landed_image, executing_image, of_one)
    outcome_image_lem s (StartBy q b) = simp (given_map (outcome_image of), landed_image, starting_image, of_one)

    after_from : (es : List Event) (s : State A.H) → state_image of (state_after A size K s es) ≡ state_after B size K (state_image of s) es
    unfolding state_after
    after_from [] s = refl
    after_from (e ∷ es) s =
        after_from es (outcome_of A size K s e).state
        ∙ ap (λ (o : Outcome B.H). state_after B size K o.state es) (outcome_image_lem s e)

    answers_from : (es : List Event) (s : State A.H) → answers A size K s es ≡ answers B size K (state_image of s) es
    unfolding answers
    answers_from [] s = refl
    answers_from (e ∷ es) s =
        ap₂ (λ (a : ℕ) (l : List ℕ). a ∷ l)
        (ap (λ (o : Outcome B.H). o.answer) (outcome_image_lem s e))
        (answers_from es (outcome_of A size K s e).state ∙ ap (λ (o : Outcome B.H). answers B size K o.state es) (outcome_image_lem s e))

    declared_image : (ds : List Declared) → map (cell_image of) (map (declared A) ds) ≡ map (declared B) ds
    declared_image [] = refl
    declared_image (d ∷ ds) = simp (of_one, declared_image ds)

    fresh_image : (l : Label) → state_image of (fresh_state A K l) ≡ fresh_state B K l
    fresh_image l = simp (declared_image, of_one)

    pub images : Images A B of size K
    images =
        record {
          event_image = outcome_image_lem;
          fresh_image = fresh_image;
          after_image = λ l es. after_from es (fresh_state A K l) ∙ ap (λ (s : State B.H). state_after B size K s es) (fresh_image l);
          answers_image = λ l es. answers_from es (fresh_state A K l) ∙ ap (λ (s : State B.H). answers B size K s es) (fresh_image l);
        }
