-- The invariant of the machine that keeps sources, for a book.
--     Fits, Has                  a value has a tree; a register's value has what typing knows of it
--     CellOk, JobOk, Invariant   a cell, a job, a state
--     Grows                      a table that knows at least the shapes of another; what it keeps
-- `x ≤ max C y` says: where x is above C, y is at least x. Assumes nothing.
use mathlib.Core.Path.{◌≡◌}
use mathlib.Core.Bool.{Bool, true, false}
use mathlib.Core.Option.{Option, none, some}
use mathlib.Core.List.{List, [], ◌∷◌, map}
use Prim.Native.Nat.{ℕ, min, max, ◌<◌, ◌≤◌}
use lib.ListN.{get_or, get_elem?, drop}
use Rattle.labels.specs.declared.Label.{Label}
use Rattle.book.specs.declared.Shape.{Shape}
use Rattle.book.specs.declared.Value.{Value}
use Rattle.book.specs.declared.Value.TheVariants.{Plain, CellName, CodeName}
use Rattle.book.specs.declared.Declared.{Declared}
use Rattle.book.specs.declared.Step.{Step}
use Rattle.book.specs.Book.{Book}
use Rattle.book.specs.Refusals.{no_shape}
use Rattle.book.proofs.Every.{All}
use Rattle.typing.specs.declared.Known.{Known}
use Rattle.typing.specs.declared.Known.TheVariants as N
use Rattle.typing.specs.declared.Register.{Register}
use Rattle.typing.specs.declared.State as T
use Rattle.typing.specs.Shapes.{View, view_of, is_cell_shape}
use Rattle.typing.specs.Rules.{Typed, passes, stuck, breaks, step_rule}
use Rattle.machine.specs.States.{Traced, Cell, Job, State}
use Rattle.machine.specs.Events.{block_of}
use Rattle.integrity.proofs.Trees.{Tree, plain, code, cell, tree}
use Rattle.integrity.proofs.Entries.{All2, all2_map}

-- the steps pass, from what a rule says on
module _ (B : View) where
  abbrev pub passes_all : List Step → Typed → Bool
  passes_all [] breaks = false
  passes_all [] stuck = true
  passes_all [] (passes t) = true
  passes_all (p ∷ ps) breaks = false
  passes_all (p ∷ ps) stuck = true
  passes_all (p ∷ ps) (passes t) = passes_all ps (step_rule B t p)

abbrev pub Cells : Type 0
Cells = List (Cell Label)

module _ (K : Book) where
  abbrev pub shape_of : ℕ → Shape
  shape_of i = get_or K.shapes i no_shape

  abbrev pub tree_of : ℕ → Tree
  tree_of i = tree K.c shape_of i

  abbrev pub tree_of? : Option (Cell Label) → Option Tree
  tree_of? none = none
  tree_of? (some c) = some (tree_of c.shape)

  abbrev pub tree_at : Cells → ℕ → Option Tree
  tree_at cs k = tree_of? (get_elem? cs k)

  -- Where a value is a cell and the tree a cell's, it is that cell's tree; code likewise is of at least the bound. Nothing is said of
  -- others: the machine is blocked on them.
  abbrev pub Has : Cells → Value → Tree → Type 0
  Has cs (Plain n) t = Unit {0}
  Has cs (CellName k) plain = Unit {0}
  Has cs (CellName k) (code m) = Unit {0}
  Has cs (CellName k) (cell t s) = tree_at cs k ≡ some (cell t s)
  Has cs (CodeName b) plain = Unit {0}
  Has cs (CodeName b) (code m) = m ≤ (block_of K b).bound.0
  Has cs (CodeName b) (cell t s) = Unit {0}

  -- a value has what typing knows of it
  abbrev pub Fits : Cells → Value → Known → Type 0
  Fits cs v N.Unknown = Unit {0}
  Fits cs v N.Plain = Unit {0}
  Fits cs v (N.Code b) = Has cs v (code b.0)
  Fits cs v (N.CellOf i) = Has cs v (tree_of i)

  -- a cell of content t and trust S, if S is above C: its label and its value's source are at least S, and it holds what its shape says
  pub record Good (cs : Cells) (c : Cell Label) (t : Tree) (S : ℕ) : Type 0 where
    pub label : S ≤ max K.c.0 c.label.0
    pub source : S ≤ max K.c.0 c.content.history.0
    pub has : K.c.0 < S → Has cs c.content.value t

  abbrev pub CellOk : Cells → Cell Label → Type 0
  CellOk cs c = (t : Tree) (S : ℕ) → tree_of c.shape ≡ cell t S → Good cs c t S

  -- a register of a job at label l, if its effect is above C: it holds what is known of it, and its source is at least its used effect
  pub record RegisterOk (cs : Cells) (l : ℕ) (x : Register) (v : Traced Label) : Type 0 where
    pub cellular : (i : ℕ) → x.known ≡ N.CellOf i → is_cell_shape K.c shape_of i ≡ true
    pub fits : K.c.0 < x.effect.0 → Fits cs v.value x.known
    pub source : min x.effect.0 l ≤ max K.c.0 v.history.0

  -- a job that matches a state of the typing: its label is at most P, and P behind a lower; its source is at least its label; its registers match
  pub record Match (cs : Cells) (t : T.State) (j : Job Label) : Type 0 where
    pub label : j.label.0 ≤ max K.c.0 t.p.0
    pub lowered : t.lowered ≡ true → t.p.0 ≤ max K.c.0 j.label.0
    pub source : j.label.0 ≤ max K.c.0 j.history.0
    pub registers : All2 (RegisterOk cs j.label.0) t.registers j.registers

  -- a job: the rest of its block passes from a state that it matches
  pub record JobOk (cs : Cells) (j : Job Label) : Type 0 where
    pub state : T.State
    pub matches : Match cs state j
    pub rest : passes_all (view_of K) (drop j.position (block_of K j.block).steps) (passes state) ≡ true

  pub record Invariant (s : State Label) : Type 0 where
    pub declared : (k i : ℕ) → get_elem? (map (λ (d : Declared). d.shape) K.cells) k ≡ some i → tree_at s.cells k ≡ some (tree_of i)
    pub cells : All (CellOk s.cells) s.cells
    pub jobs : All (JobOk s.cells) s.jobs

  pub record Grows (cs ds : Cells) : Type 0 where
    pub kept : (k : ℕ) (t : Tree) → tree_at cs k ≡ some t → tree_at ds k ≡ some t

  module _ {cs ds : Cells} (x : Grows cs ds) where
    pub has_kept : (v : Value) (t : Tree) → Has cs v t → Has ds v t
    has_kept (Plain n) t h = h
    has_kept (CellName k) plain h = h
    has_kept (CellName k) (code m) h = h
    has_kept (CellName k) (cell t s) h = x.kept k (cell t s) h
    has_kept (CodeName b) plain h = h
    has_kept (CodeName b) (code m) h = h
    has_kept (CodeName b) (cell t s) h = h

    pub fits_kept : (v : Value) (k : Known) → Fits cs v k → Fits ds v k
    fits_kept v N.Unknown h = h
    fits_kept v N.Plain h = h
    fits_kept v (N.Code b) h = has_kept v (code b.0) h
    fits_kept v (N.CellOf i) h = has_kept v (tree_of i) h

    pub cell_kept : (c : Cell Label) → CellOk cs c → CellOk ds c
    cell_kept c h t S e =
        let g = h t S e in
        record { label = g.label; source = g.source; has = λ a. has_kept c.content.value t (g.has a) }

    pub registers_kept : (l : ℕ) (xs : List Register) (vs : List (Traced Label)) → All2 (RegisterOk cs l) xs vs → All2 (RegisterOk ds l) xs vs
    registers_kept l =
        all2_map (λ a b r. record { cellular = r.cellular; fits = λ p. fits_kept b.value a.known (r.fits p); source = r.source })

    pub match_kept : (t : T.State) (j : Job Label) → Match cs t j → Match ds t j
    match_kept t j m =
        record {
          label = m.label;
          lowered = m.lowered;
          source = m.source;
          registers = registers_kept j.label.0 t.registers j.registers m.registers;
        }

    pub job_kept : (j : Job Label) → JobOk cs j → JobOk ds j
    job_kept j h = record { state = h.state; matches = match_kept h.state j h.matches; rest = h.rest }
