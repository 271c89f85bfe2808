-- Events, their answers, and a run: 01, "The machine".
--     done, blocked_answer, no_step_left, no_such    the answers
--     Outcome, landed                            an event's answer and the state after it
--     outcome_of                                  what an event does
--     launch_label                                the label of job 0
--     fresh_state, state_after, answers            the fresh state; a list of events, one after the other
-- Every book and every list of events has an answer, an accepted book or not, any number in any field. Assumes nothing.
use Rattle.std.specs.Prelude.{ℕ, ◌+◌, Bool, not, List, [], ◌∷◌, ◌++◌, map, leb, ltb, length, get_or, set}
use Rattle.std.proofs.Math.ListN.{get_elem?}
use Rattle.labels.specs.declared.Label.{Label}
use Rattle.labels.specs.declared.Trust.{Trust}
use Rattle.labels.specs.Labels.{label, top_label, lower, reaches, is_high}
use Rattle.book.specs.declared.Declared.{Declared}
use Rattle.book.specs.Numbers.{max_value_kind}
use Rattle.book.specs.Control.{both, on_some}
use Rattle.book.specs.Book.{Book, Block, value_of}
use Rattle.book.specs.Refusals.{no_shape, has_cell_shape, value_named}
use Rattle.machine.specs.Launch.{Launch}
use Rattle.std.specs.Prelude.{None, Some}
use Rattle.machine.specs.declared.Event.{Event}
use Rattle.machine.specs.declared.Event.TheVariants.{StepOf, WriteBy, RelabelBy, NewBy, ExecBy, StartBy}
use Rattle.machine.specs.Control.{given}
use Rattle.machine.specs.Histories.{Histories}
use Rattle.machine.specs.States.{Traced, Cell, State}
use Rattle.machine.specs.Acts.{Effect, blocked, keep, store, create, launch, fresh_job, write_act, relabel_act, new_act, start_act, exec_act}
use Rattle.machine.specs.Steps.{Turn, turn_of}

-- "Answer bytes: 0 done, 1 blocked, 2 no step left, 3 no such."
abbrev pub done : ℕ
done = 0

abbrev pub blocked_answer : ℕ
blocked_answer = 1

abbrev pub no_step_left : ℕ
no_step_left = 2

abbrev pub no_such : ℕ
no_such = 3

-- "to 64 cells and 64 jobs in a run"
abbrev pub table_size : ℕ
table_size = 64

-- a block by its number; one that does not exist has bound 0 and no steps
abbrev pub no_block : Block
no_block = record { bound = label 0; steps = [] }

abbrev pub block_of : Book → ℕ → Block
block_of K b = get_or K.blocks b no_block

-- 02, Three: "block 0's bound"
abbrev pub first_bound : Book → Label
first_bound K = (block_of K 0).bound

-- 02, Three: "A run now takes a launch label for job 0". "Without one it is the smaller of C plus 1 and the bound."
unfoldable pub launched_at : Label → Label → Launch → Label
launched_at c bound None = lower (label (c.0 + 1)) bound
launched_at c bound (Some l) = l

abbrev pub launch_label : Book → Launch → Label
launch_label K = launched_at K.c (first_bound K)

-- a shape's trust, as the book states it
abbrev pub stated_trust : Book → ℕ → Trust
stated_trust K i = (get_or K.shapes i no_shape).trust

-- Answer 3, "a job, cell, block or shape that doesn't exist (also one that the event's value names), Q above C, a label above 15, a
-- value kind above 2, or event 83 with a shape that is no cell shape or has trust above C": what an event must have instead.
abbrev pub is_outsider : Book → Label → Bool
is_outsider K q = reaches K.c q

abbrev pub is_label : Label → Bool
is_label o = reaches top_label o

abbrev pub is_low_cell_shape : Book → ℕ → Bool
is_low_cell_shape K i = both (has_cell_shape K i) (not (is_high (stated_trust K i) K.c))

abbrev pub block_exists : Book → ℕ → Bool
block_exists K b = ltb b (length K.blocks)

module _ {H : Type 0} where
  abbrev pub cell_exists : State H → ℕ → Bool
  cell_exists s k = ltb k (length s.cells)

  -- a value of kind k and number n
  abbrev pub value_exists : Book → State H → ℕ → ℕ → Bool
  value_exists K s k n = both (leb k max_value_kind) (value_named (length s.cells) (length K.blocks) (value_of k n))

-- an event's answer, and the state after it
pub record Outcome (H : Type 0) : Type 0 where
  pub answer : ℕ
  pub state : State H

module _ {H : Type 0} where
  -- answers 1 to 3: "changes nothing"
  abbrev pub unchanged : ℕ → State H → Outcome H
  unchanged n s = record { answer = n; state = s }

  abbrev pub changed : State H → Outcome H
  changed t = record { answer = done; state = t }

  -- the effect on the tables; s is the state before, t the same with the actor's step done
  unfoldable pub landed : State H → State H → Effect H → Outcome H
  landed s t blocked = unchanged blocked_answer s
  landed s t keep = changed t
  landed s t (store k c) = changed (record { cells = set t.cells k c; jobs = t.jobs })
  landed s t (create c) = changed (record { cells = t.cells ++ (c ∷ []); jobs = t.jobs })
  landed s t (launch j) = changed (record { cells = t.cells; jobs = t.jobs ++ (j ∷ []) })

  -- the turn of job i
  unfoldable pub turn_landed : State H → ℕ → Turn H → Outcome H
  turn_landed s i t = landed s (record { cells = s.cells; jobs = set s.jobs i t.job }) t.effect

  -- "Answer 3 comes first and changes nothing"
  abbrev pub if_such : State H → Bool → Outcome H → Outcome H
  if_such s b o = given b o (unchanged no_such s)

-- over any histories
module _ (A : Histories) where
  open A use {H, one}

  -- "their history is Q, which is also the history of the value they bring"
  abbrev pub brought : Label → ℕ → ℕ → Traced H
  brought q k n = record { value = value_of k n; history = one q }

  -- "its cells are the declared ones with their declared labels and values". "Declared values have history 15."
  abbrev pub declared : Declared → Cell H
  declared d = record { shape = d.shape; label = d.label; content = record { value = d.value; history = one top_label } }

  -- "A run begins fresh: .. job 0 is its only job". 02, Three: "a launch label for job 0, which is also its history"
  abbrev pub fresh_state : Book → Label → State H
  fresh_state K l = record { cells = map declared K.cells; jobs = fresh_job A 0 l (one l) ∷ [] }

-- over any histories, in tables of this size
module _ (A : Histories) (size : ℕ) (K : Book) where
  open A use {H, one, join}

  unfoldable pub outcome_of : State H → Event → Outcome H
  outcome_of s (StepOf i) =
      on_some (get_elem? s.jobs i) (unchanged no_such s)
      (λ j. on_some (get_elem? (block_of K j.block).steps j.position) (unchanged no_step_left s)
      (λ p. turn_landed s i (turn_of A size s j p)))
  outcome_of s (WriteBy q k v n) =
      if_such s (both (is_outsider K q) (both (cell_exists s k) (value_exists K s v n))) (landed s s (write_act A s q (one q) k (brought A q v n)))
  outcome_of s (RelabelBy q k o) =
      if_such s (both (is_outsider K q) (both (cell_exists s k) (is_label o))) (landed s s (relabel_act A s q (one q) k o))
  outcome_of s (NewBy q i v n) =
      if_such s (both (is_outsider K q) (both (is_low_cell_shape K i) (value_exists K s v n))) (landed s s (new_act A size s q (one q) i (brought A q v n)))
  outcome_of s (ExecBy q k) = if_such s (both (is_outsider K q) (cell_exists s k)) (landed s s (exec_act A size s q (one q) k))
  outcome_of s (StartBy q b) = if_such s (both (is_outsider K q) (block_exists K b)) (landed s s (start_act A size s q (one q) b))

  -- the state after a list of events, one after the other
  unfoldable pub state_after : State H → List Event → State H
  state_after s [] = s
  state_after s (e ∷ es) = state_after (outcome_of s e).state es

  -- their answers
  unfoldable pub answers : State H → List Event → List ℕ
  answers s [] = []
  answers s (e ∷ es) = (outcome_of s e).answer ∷ answers (outcome_of s e).state es
