-- The machine once more, with a mark at each place that the theorem needs. Where no place is weakened, this is the machine:
-- proofs/ByMachine.antt.
--     outcome_by, state_by     an event, a list of events, with a place weakened
--     SameMachine            with no place weakened they are the machine's
--     NeededThere            an accepted book and events that break a sentence: the theorem would be false of the weakened machine
-- Nothing else is built on these definitions. Assumes nothing.
use Rattle.std.specs.Prelude.{ℕ, suc, ◌≡◌, Bool, not, List, [], ◌∷◌, length}
use Prim.Native.String.{String}
use Rattle.std.proofs.Math.ListN.{get_elem?}
use Rattle.labels.specs.declared.Label.{Label}
use Rattle.labels.specs.Labels.{label, top_label, reaches, is_high}
use Rattle.book.specs.declared.Value.TheVariants.{CellName}
use Rattle.book.specs.declared.Step.{Step}
use Rattle.book.specs.declared.Step.TheVariants.{Put, Name, Code, Add, New, Read, Write, Relabel, Lower, Start, Exec, Choose}
use Rattle.book.specs.Control.{both, on_some}
use Rattle.book.specs.Book.{Book, parse}
use Rattle.book.specs.Refusals.{has_cell_shape}
use Rattle.typing.specs.Verdict.{Accepted}
use Rattle.typing.specs.Verdict.{verdict}
use Rattle.machine.specs.declared.Event.{Event}
use Rattle.machine.specs.declared.Event.TheVariants.{StepOf, WriteBy, RelabelBy, NewBy, ExecBy, StartBy}
use Rattle.machine.specs.Control.{given, on_plain, on_code}
use Rattle.machine.specs.Histories.{History, append, lists}
use Rattle.machine.specs.States.{Traced, Job, State}
use Rattle.machine.specs.Acts.{Effect, blocked, keep, store, launch, blocked_unless, is_free, exec_label, acted, fresh_job, new_act, start_act}
use Rattle.machine.specs.Steps.{Turn, chosen, register, turn, stay, moved, gets, through, turn_of}
use Rattle.machine.specs.Events.{Outcome, table_size, first_bound, no_step_left, no_such, block_of, stated_trust, is_outsider, is_label, block_exists, cell_exists, value_exists, unchanged}
use Rattle.machine.specs.Events.{landed, turn_landed, if_such, brought, fresh_state, outcome_of, state_after}
use Rattle.integrity.specs.Integrity.{Sentences}
use Rattle.integrity.specs.Weakened.{instead, asked, raised}

-- the place that is weakened, by its name; "" weakens none
module _ (weakened : String) where
  -- by an actor of label l and history h
  module _ (s : State History) (l : Label) (h : History) where
    -- "write: blocked unless w is a cell with label at most the job's"
    unfoldable pub write_act_by : ℕ → Traced History → Effect History
    write_act_by k v =
        on_some (get_elem? s.cells k) blocked
        (λ c. blocked_unless (asked weakened "write: label at most the job's" (reaches l c.label))
        (store k (record { shape = c.shape; label = c.label; content = acted lists h v })))

    -- "relabel: blocked unless w is a cell and its old and new label are at most the job's."
    unfoldable pub relabel_act_by : ℕ → Label → Effect History
    relabel_act_by k o =
        on_some (get_elem? s.cells k) blocked
        (λ c. blocked_unless (both (asked weakened "relabel: old label at most the job's" (reaches l c.label))
        (asked weakened "relabel: new label at most the job's" (reaches l o)))
        (store k (record { shape = c.shape; label = o; content = c.content })))

    -- "new: .. a cell with the job's label"; where this place is weakened, with label 0
    abbrev pub new_act_by : ℕ → Traced History → Effect History
    new_act_by i v = new_act lists table_size s (instead weakened "new: with the job's label" (label 0) l) h i v

    -- "start: .. a job at this label"; where this place is weakened, at 15
    abbrev pub start_act_by : ℕ → Effect History
    start_act_by b = start_act lists table_size s (instead weakened "start: at this label" top_label l) h b

    -- "exec: .. a job at the lower of the two labels, history: caller's, code's, new label."; where this place is weakened, at
    -- the cell's
    unfoldable pub exec_act_by : ℕ → Effect History
    exec_act_by k =
        on_some (get_elem? s.cells k) blocked
        (λ c. on_code c.content.value blocked
        (λ b. let m = instead weakened "exec: the lower of the two labels" c.label (exec_label l c.label) in
        blocked_unless (is_free table_size s.jobs) (launch (fresh_job lists b m (append (append h c.content.history) (lists.one m))))))

  -- "lower Q: blocked if Q is above the job's label; else the label is Q, appended to the job's history."
  unfoldable pub lower_step_by : Job History → Label → Turn History
  lower_step_by j q =
      given (asked weakened "lower: Q is above the job's label" (reaches j.label q))
      (turn lists
      (record {
        block = j.block;
        position = suc j.position;
        label = instead weakened "lower: the label is Q" j.label q;
        registers = j.registers;
        history = append j.history (lists.one q);
      })
      keep)
      (stay lists j)

  module _ (s : State History) (j : Job History) where
    -- 02, Four: "The started job has the chooser's label, and its history is the chooser's alone"; where the first is weakened, it is at 15; where the
    -- second is, it has the history of r too
    abbrev pub choose_by : ℕ → ℕ → Effect History
    choose_by r b =
        start_act lists table_size s (instead weakened "choose: the chooser's label" top_label j.label)
        (instead weakened "choose: the chooser's history alone" (append j.history (register lists j r).history) j.history) b

    -- a step that has no mark
    abbrev pub same : Step → Turn History
    same p = turn_of lists table_size s j p

    unfoldable pub turn_by : Step → Turn History
    turn_by (Put r n) = same (Put r n)
    turn_by (Name r k) = same (Name r k)
    turn_by (Code r b) = same (Code r b)
    turn_by (Add r a b) = same (Add r a b)
    turn_by (New r i a) =
        turn lists (gets lists j r (CellName (length s.cells)) j.history) (new_act_by s j.label j.history i (register lists j a))
    turn_by (Read r w) = same (Read r w)
    turn_by (Write w a) = through lists j w (λ k. write_act_by s j.label j.history k (register lists j a))
    turn_by (Relabel w o) = through lists j w (λ k. relabel_act_by s j.label j.history k o)
    turn_by (Lower q) = lower_step_by j q
    turn_by (Start b) = turn lists (moved lists j) (start_act_by s j.label j.history b)
    turn_by (Exec w) = through lists j w (exec_act_by s j.label j.history)
    turn_by (Choose r a b) = on_plain (register lists j r).value (stay lists j) (λ n. turn lists (moved lists j) (choose_by r (chosen n a b)))

  module _ (K : Book) where
    -- "Q above C" is no such
    abbrev pub outsider : String → Label → Bool
    outsider place q = reaches (raised weakened place K.c) q

    -- event 83: "a shape that is no cell shape or has trust above C" is no such
    abbrev pub low_shape : ℕ → Bool
    low_shape i = both (has_cell_shape K i) (not (is_high (stated_trust K i) (raised weakened "83: trust above C" K.c)))

    unfoldable pub outcome_by : State History → Event → Outcome History
    outcome_by s (StepOf i) =
        on_some (get_elem? s.jobs i) (unchanged no_such s)
        (λ j. on_some (get_elem? (block_of K j.block).steps j.position) (unchanged no_step_left s) (λ p. turn_landed s i (turn_by s j p)))
    outcome_by s (WriteBy q k v n) =
        if_such s (both (outsider "81: Q above C" q) (both (cell_exists s k) (value_exists K s v n)))
        (landed s s (write_act_by s q (lists.one q) k (brought lists q v n)))
    outcome_by s (RelabelBy q k o) =
        if_such s (both (outsider "82: Q above C" q) (both (cell_exists s k) (is_label o))) (landed s s (relabel_act_by s q (lists.one q) k o))
    outcome_by s (NewBy q i v n) =
        if_such s (both (is_outsider K q) (both (low_shape i) (value_exists K s v n)))
        (landed s s (new_act_by s q (lists.one q) i (brought lists q v n)))
    outcome_by s (ExecBy q k) =
        if_such s (both (outsider "84: Q above C" q) (cell_exists s k)) (landed s s (exec_act_by s q (lists.one q) k))
    outcome_by s (StartBy q b) =
        if_such s (both (outsider "85: Q above C" q) (block_exists K b)) (landed s s (start_act_by s q (lists.one q) b))

    unfoldable pub state_by : State History → List Event → State History
    state_by s [] = s
    state_by s (e ∷ es) = state_by (outcome_by s e).state es

-- The machine with no place weakened is the machine: an event, and a list of events. proofs/ByMachine.antt proves it.
pub record SameMachine : Type 0 where
  pub outcome_alike : (K : Book) (s : State History) (e : Event) → outcome_by "" K s e ≡ outcome_of lists table_size K s e
  pub state_alike : (K : Book) (s : State History) (es : List Event) → state_by "" K s es ≡ state_after lists table_size K s es

-- An accepted book, and events after which the machine weakened at this place has broken a sentence.
pub record NeededThere (place : String) : Type 0 where
  pub bytes : List ℕ
  pub events : List Event
  pub shapes : ℕ
  pub cells : ℕ
  pub blocks : ℕ
  pub steps : ℕ
  pub accepted : verdict bytes ≡ Accepted shapes cells blocks steps
  pub broken :
      Sentences (parse bytes)
      (state_by place (parse bytes) (fresh_state lists (parse bytes) (first_bound (parse bytes))) events) → ⊥
