-- What 01 and 02 say of the machine, beside its definitions. proofs/Laws.antt proves it. All names here are of specs/, of this crate or of those below it.
--     ExecHistory      the history of a job that exec starts
--     AboveC           an outsider that claims a label above C
--     ChooseStarts     what choose starts
-- Assumes nothing.
use Rattle.std.specs.Prelude.{◌≡◌, true, [], ◌∷◌, ◌++◌, ℕ, suc, ◌<◌, ◌≤◌, length}
use Rattle.std.proofs.Math.Option.{Option, none, some}
use Rattle.std.proofs.Math.ListN.{get_elem?}
use Rattle.labels.specs.declared.Label.{Label}
use Rattle.labels.specs.Labels.{lower, is_above}
use Rattle.book.specs.declared.Value.TheVariants.{Plain, CellName, CodeName}
use Rattle.book.specs.declared.Step.TheVariants.{Choose}
use Rattle.book.specs.Book.{Book}
use Rattle.machine.specs.declared.Event.{Event}
use Rattle.machine.specs.declared.Event.TheVariants.{StepOf, WriteBy, RelabelBy, NewBy, ExecBy, StartBy}
use Rattle.machine.specs.Histories.{History, hands, lists}
use Rattle.machine.specs.States.{Cell, Job, State}
use Rattle.machine.specs.Acts.{blocked, launch, fresh_job, exec_act}
use Rattle.machine.specs.Steps.{Turn, register, turn, stay, moved, turn_of}
use Rattle.machine.specs.Events.{no_such, unchanged, outcome_of}
use Rattle.integrity.specs.Integrity.{◌is_in◌}

-- "a job at the lower of the two labels, history: caller's, code's, new label": of a caller of label l and history h, and a cell c that holds block b
pub record Launched (l : Label) (h : History) (c : Cell History) (b : ℕ) (j : Job History) : Type 0 where
  pub block : j.block ≡ b
  pub label : j.label ≡ lower l c.label
  pub history : hands j.history ≡ hands h ++ hands c.content.history ++ lower l c.label ∷ []
  -- "A job's history contains that of the code which exec gave it."
  pub code : (hand : Label) → hand is_in hands c.content.history → hand is_in hands j.history

-- what exec starts, where the cell holds code and a job fits
abbrev pub ExecHistory : Type 0
ExecHistory = (size : ℕ) (s : State History) (l : Label) (h : History) (k b : ℕ) (c : Cell History)
    → get_elem? s.cells k ≡ some c → c.content.value ≡ CodeName b → length s.jobs < size
    → (j : Job History) × (exec_act lists size s l h k ≡ launch j) × Launched l h c b j

-- the label that an outsider's event claims
abbrev pub claimed : Event → Option Label
claimed (StepOf i) = none
claimed (WriteBy q k v n) = some q
claimed (RelabelBy q k o) = some q
claimed (NewBy q i v n) = some q
claimed (ExecBy q k) = some q
claimed (StartBy q b) = some q

-- "Answer 3 comes first and changes nothing: .. Q above C": in every state, whichever of the five events it is
abbrev pub AboveC : Type 0
AboveC = (size : ℕ) (K : Book) (s : State History) (e : Event) (q : Label) → claimed e ≡ some q → is_above q K.c ≡ true
    → outcome_of lists size K s e ≡ unchanged no_such s

-- 02, Four, of a job j in any state s, with tables of any size: what it is after choose r, a, b, and what the step does
module _ (size : ℕ) (s : State History) (j : Job History) (r a b : ℕ) where
  abbrev pub chooses : Turn History
  chooses = turn_of lists size s j (Choose r a b)

  -- "The started job has the chooser's label, and its history is the chooser's alone"
  abbrev pub starts : ℕ → Turn History
  starts block = turn lists (moved lists j) (launch (fresh_job lists block j.label j.history))

  pub record Chooses : Type 0 where
    -- "it starts the first block if r is plain and not 0"
    pub not_zero : (n : ℕ) → (register lists j r).value ≡ Plain (suc n) → length s.jobs < size → chooses ≡ starts a
    -- "the second if r is plain 0"
    pub zero : (register lists j r).value ≡ Plain 0 → length s.jobs < size → chooses ≡ starts b
    -- "and is blocked otherwise"
    pub cell_name : (k : ℕ) → (register lists j r).value ≡ CellName k → chooses ≡ stay lists j
    pub code_name : (k : ℕ) → (register lists j r).value ≡ CodeName k → chooses ≡ stay lists j
    -- "or when no job fits"
    pub full : size ≤ length s.jobs → chooses.effect ≡ blocked

abbrev pub ChooseStarts : Type 0
ChooseStarts = (size : ℕ) (s : State History) (j : Job History) (r a b : ℕ) → Chooses size s j r a b
