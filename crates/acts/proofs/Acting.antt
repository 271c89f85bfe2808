-- Laws of the acts, for the code: an act sees of the cells only the one that it reaches.
--     not_plain, .., kinds                        a value by its kind
--     writes, relabels, makes, starts, execs      one set for each act
-- Assumes nothing.
use mathlib.Core.Path.{◌≡◌, refl, sym, ◌∙◌}
use mathlib.Core.Bool.{Bool, true, false}
use mathlib.Core.Option.{none, some}
use Prim.Native.Nat.{ℕ, zero, suc, ◌<◌, ◌≤◌}
use native.Mathlib.Omega.{arith}
use lib.Dec.{ltb}
use lib.ListN.{replicate, get_elem?, length-replicate}
use borrow.Author.Tests.{lt-ltb, le-ltb, ltb-true, ltb-false, ne_eqb}
use Rattle.labels.specs.declared.Label.{Label}
use Rattle.labels.specs.Labels.{label, lower, reaches}
use Rattle.book.specs.declared.Value.TheVariants.{Plain, CellName, CodeName}
use Rattle.book.specs.Book.{value_of}
use Rattle.book.specs.Control.{both, on_some}
use Rattle.book.proofs.Tests.{clash}
use Rattle.machine.specs.Control.{given, on_plain, on_cell, on_code}
use Rattle.machine.specs.Histories.{sources}
use Rattle.machine.specs.States.{Traced, Job, State}
use Rattle.machine.specs.Acts.{Effect, blocked, store, create, launch, blocked_unless, is_free, acted, fresh_job, exec_label, write_act, relabel_act, new_act, start_act, exec_act}
use Rattle.machine.specs.Records.{kind_of}
use Rattle.machine.specs.Events.{table_size}
use Rattle.acts.specs.declared.Stored.{Stored}
use Rattle.acts.specs.declared.StoredCell.{StoredCell}
use Rattle.acts.specs.declared.Near.{Near}
use Rattle.acts.specs.declared.Act.TheVariants.{Blocked, Store, Create, Launch}
use Rattle.acts.specs.Views.{stored_of, stored_content, cell_with, cell_of, nearby, effect_of, job_after, kept, sort_of, waits, acts, Does, Makes, store_sort, launch_sort}

pub same_some : {A : Type 0} (x : A) (n k : ℕ) → k < n → get_elem? (replicate n x) k ≡ some x
same_some x zero k h = absurd (omega arith)
same_some x (suc n) zero h = refl
same_some x (suc n) (suc k) h = same_some x n k (omega arith)

pub same_none : {A : Type 0} (x : A) (n k : ℕ) → n ≤ k → get_elem? (replicate n x) k ≡ none
same_none x zero k h = refl
same_none x (suc n) zero h = absurd (omega arith)
same_none x (suc n) (suc k) h = same_none x n k (omega arith)

-- a value of kind k, as the code tells kinds apart
value_plain : (k n : ℕ) → k ≡ 0 → value_of k n ≡ Plain n
unfolding value_of
value_plain k n e = simp e

value_cell : (k n : ℕ) → k ≡ 1 → value_of k n ≡ CellName n
unfolding value_of
value_cell k n e = simp e

value_code : (k n : ℕ) → 2 ≤ k → value_of k n ≡ CodeName n
unfolding value_of
value_code k n h =
    let a : k ≡ 0 → ⊥ = λ e. omega arith in
    let b : k ≡ 1 → ⊥ = λ e. omega arith in
    simp (ne_eqb _ _ a, ne_eqb _ _ b)

pub data Kind (k : ℕ) : Type 0 where
  plain : k ≡ 0 → Kind k
  cell : k ≡ 1 → Kind k
  code : 2 ≤ k → Kind k

kind_is : (k : ℕ) → Kind k
kind_is zero = plain refl
kind_is (suc zero) = cell refl
kind_is (suc (suc k)) = code (omega arith)

-- what a case on it gives
module _ {X : Type 0} (x : X) (f : ℕ → X) (n k : ℕ) where
  pub not_plain : (k ≡ 0 → ⊥) → on_plain (value_of k n) x f ≡ x
  unfolding on_plain
  not_plain h = go (kind_is k)
    where
      go : Kind k → on_plain (value_of k n) x f ≡ x
      go (plain e) = absurd (h e)
      go (cell e) = simp (value_cell k n e)
      go (code e) = simp (value_code k n e)

  pub is_plain : k ≡ 0 → on_plain (value_of k n) x f ≡ f n
  unfolding on_plain
  is_plain e = simp (value_plain k n e)

  pub not_cell : (k ≡ 1 → ⊥) → on_cell (value_of k n) x f ≡ x
  unfolding on_cell
  not_cell h = go (kind_is k)
    where
      go : Kind k → on_cell (value_of k n) x f ≡ x
      go (plain e) = simp (value_plain k n e)
      go (cell e) = absurd (h e)
      go (code e) = simp (value_code k n e)

  pub is_cell : k ≡ 1 → on_cell (value_of k n) x f ≡ f n
  unfolding on_cell
  is_cell e = simp (value_cell k n e)

  not_code : k < 2 → on_code (value_of k n) x f ≡ x
  unfolding on_code
  not_code h = go (kind_is k)
    where
      go : Kind k → on_code (value_of k n) x f ≡ x
      go (plain e) = simp (value_plain k n e)
      go (cell e) = simp (value_cell k n e)
      go (code e) = absurd (omega arith)

  is_code : 2 ≤ k → on_code (value_of k n) x f ≡ f n
  unfolding on_code
  is_code e = simp (value_code k n e)

-- the kind, as the tables show it
pub kind_low : (k n : ℕ) → k < 2 → k ≡ kind_of (value_of k n)
kind_low k n h = go (kind_is k)
  where
    go : Kind k → k ≡ kind_of (value_of k n)
    go (plain e) = rw (value_plain k n e) e
    go (cell e) = rw (value_cell k n e) e
    go (code e) = absurd (omega arith)

pub kind_high : (k n : ℕ) → 2 ≤ k → 2 ≡ kind_of (value_of k n)
kind_high k n h = rw (value_code k n h) refl

pub ruleset kinds = (kind_low, kind_high)

-- no job
abbrev idle : Job Label
idle = fresh_job sources 0 (label 0) (label 0)

-- the job that exec starts
abbrev launching : Label → Label → Near → ℕ → Effect Label
launching l h y b =
    blocked_unless (is_free table_size (nearby y).jobs)
    (launch (fresh_job sources b (exec_label l y.cell.label) (lower (lower h y.cell.source) (exec_label l y.cell.label))))

-- what the code hands back, by what the effect e of the act is
module _ {s : State Label} {e : Effect Label} where
  module _ {k : ℕ} where
    is_blocked : {n : ℕ} → e ≡ blocked → Does n s k e Blocked
    unfolding effect_of job_after kept sort_of
    is_blocked q = record { does = λ j. rw q refl; only = waits refl }

    is_store : {c : StoredCell} → e ≡ store k (cell_of c) → Does store_sort s k e (Store c)
    unfolding effect_of job_after kept sort_of
    is_store q = record { does = λ j. rw q refl; only = acts refl }

    is_launch : {b : ℕ} {l h : Label} → e ≡ launch (fresh_job sources b l h) → Does launch_sort s k e (Launch b l h)
    unfolding effect_of job_after kept sort_of
    is_launch q = record { does = λ j. rw q refl; only = acts refl }

  module _ {r : ℕ} where
    is_not_made : e ≡ blocked → Makes s r e Blocked
    unfolding effect_of job_after kept sort_of
    is_not_made q = record { does = λ j. rw q refl; only = waits refl }

    is_made : {c : StoredCell} → e ≡ create (cell_of c) → Makes s r e (Create r c)
    unfolding effect_of job_after kept sort_of
    is_made q = record { does = λ j. rw q refl; only = acts refl }

-- by an actor of label l and source h; y is what it looks at
module _ (l h : Label) (y : Near) where
  there : (k : ℕ) → k < y.cells → get_elem? (replicate y.cells (cell_of y.cell)) k ≡ some (cell_of y.cell)
  there k r = same_some (cell_of y.cell) y.cells k r

  nowhere : (k : ℕ) → y.cells ≤ k → get_elem? (replicate y.cells (cell_of y.cell)) k ≡ none
  nowhere k r = same_none (cell_of y.cell) y.cells k r

  -- o: the cell is open
  module _ (k : ℕ) (o : Bool) (eo : o ≡ both (ltb k y.cells) (reaches l y.cell.label)) where
    pub open_there : o ≡ true → (k < y.cells) × (reaches l y.cell.label ≡ true)
    unfolding both
    open_there f = go (ltb k y.cells) refl
      where
        go : (t : Bool) → ltb k y.cells ≡ t → (k < y.cells) × (reaches l y.cell.label ≡ true)
        go true q = (ltb-true k y.cells q, sym (simp q at eo) ∙ f)
        go false q = clash f (simp q at eo)

    -- whatever is written
    pub write_closed : (v : Traced Label) → o ≡ false → Does store_sort (nearby y) k (write_act sources (nearby y) l h k v) Blocked
    unfolding write_act on_some given both
    write_closed v f = go (ltb k y.cells) refl
      where
        go : (t : Bool) → ltb k y.cells ≡ t → Does store_sort (nearby y) k (write_act sources (nearby y) l h k v) Blocked
        go true q = let e : reaches l y.cell.label ≡ false = sym (simp q at eo) ∙ f in is_blocked (simp (there k (ltb-true k y.cells q), e))
        go false q = is_blocked (simp (nowhere k (ltb-false k y.cells q)))

    pub write_done : (v x : Stored) (c : StoredCell) → o ≡ true → stored_of x ≡ acted sources h (stored_of v) → c ≡ cell_with x y.cell.shape y.cell.label
        → Does store_sort (nearby y) k (write_act sources (nearby y) l h k (stored_of v)) (Store c)
    unfolding write_act on_some given
    write_done v x c f e ec = let p = open_there f in is_store (rw ec (simp (there k p.0, p.1, e)))

    module _ (g : Label) where
      pub relabel_closed : o ≡ false → Does store_sort (nearby y) k (relabel_act sources (nearby y) l h k g) Blocked
      unfolding relabel_act on_some given both
      relabel_closed f = go (ltb k y.cells) refl
        where
          go : (t : Bool) → ltb k y.cells ≡ t → Does store_sort (nearby y) k (relabel_act sources (nearby y) l h k g) Blocked
          go true q = let e : reaches l y.cell.label ≡ false = sym (simp q at eo) ∙ f in is_blocked (simp (there k (ltb-true k y.cells q), e))
          go false q = is_blocked (simp (nowhere k (ltb-false k y.cells q)))

      module _ (f : o ≡ true) (b : Bool) (eb : b ≡ reaches l g) where
        pub relabel_above : b ≡ false → Does store_sort (nearby y) k (relabel_act sources (nearby y) l h k g) Blocked
        unfolding relabel_act on_some given both
        relabel_above q = let p = open_there f in is_blocked (simp (there k p.0, p.1, ← eb, q))

        pub relabel_done : b ≡ true
            → Does store_sort (nearby y) k (relabel_act sources (nearby y) l h k g) (Store (cell_with (stored_content y.cell) y.cell.shape g))
        unfolding relabel_act on_some given both
        relabel_done q = let p = open_there f in is_store (simp (there k p.0, p.1, ← eb, q))

  module _ (r i : ℕ) (v : Stored) where
    pub make_full : 64 ≤ y.cells → Makes (nearby y) r (new_act sources table_size (nearby y) l h i (stored_of v)) Blocked
    unfolding new_act given
    make_full f = is_not_made (simp (length-replicate y.cells (cell_of y.cell), le-ltb _ _ f))

    pub make_done : (x : Stored) (c : StoredCell) → y.cells < 64 → stored_of x ≡ acted sources h (stored_of v) → c ≡ cell_with x i l
        → Makes (nearby y) r (new_act sources table_size (nearby y) l h i (stored_of v)) (Create r c)
    unfolding new_act given
    make_done x c f e ec = is_made (rw ec (simp (length-replicate y.cells (cell_of y.cell), lt-ltb _ _ f, e)))

  module _ (b : ℕ) where
    pub start_full : 64 ≤ y.jobs → Does launch_sort (nearby y) 0 (start_act sources table_size (nearby y) l h b) Blocked
    unfolding start_act given
    start_full r = is_blocked (simp (length-replicate y.jobs idle, le-ltb _ _ r))

    pub start_done : y.jobs < 64 → Does launch_sort (nearby y) 0 (start_act sources table_size (nearby y) l h b) (Launch b l h)
    unfolding start_act given
    start_done r = is_launch (simp (length-replicate y.jobs idle, lt-ltb _ _ r))

  module _ (k : ℕ) where
    pub exec_none : y.cells ≤ k → Does launch_sort (nearby y) k (exec_act sources table_size (nearby y) l h k) Blocked
    unfolding exec_act on_some
    exec_none r = is_blocked (simp (nowhere k r))

    -- v is the cell's content
    module _ (r : k < y.cells) (v : Stored) (ev : v ≡ stored_content y.cell) where
      pub exec_other : v.kind < 2 → Does launch_sort (nearby y) k (exec_act sources table_size (nearby y) l h k) Blocked
      unfolding exec_act on_some
      exec_other n =
          is_blocked (simp (there k r, not_code blocked (launching l h y) y.cell.number y.cell.kind (rw ev at n)))

      module _ (n : 2 ≤ v.kind) where
        pub exec_full : 64 ≤ y.jobs → Does launch_sort (nearby y) k (exec_act sources table_size (nearby y) l h k) Blocked
        unfolding exec_act on_some given
        exec_full f =
            is_blocked
            (simp (there k r, is_code blocked (launching l h y) y.cell.number y.cell.kind (rw ev at n))
            (simp (length-replicate y.jobs idle, le-ltb _ _ f)))

        pub exec_done : (low s t : Label) → y.jobs < 64 → low ≡ lower l y.cell.label → s ≡ lower h v.source → t ≡ lower s low
            → Does launch_sort (nearby y) k (exec_act sources table_size (nearby y) l h k) (Launch v.number low t)
        unfolding exec_act on_some given exec_label
        exec_done low s t f el es et =
            rw ev
            (is_launch
            (simp (there k r, is_code blocked (launching l h y) y.cell.number y.cell.kind (rw ev at n))
            (simp (length-replicate y.jobs idle, lt-ltb _ _ f, et, (rw ev at es), el))))

pub ruleset writes = (write_closed, write_done)

pub ruleset relabels = (relabel_closed, relabel_above, relabel_done)

pub ruleset makes = (make_full, make_done)

pub ruleset starts = (start_full, start_done)

pub ruleset execs = (exec_none, exec_other, exec_full, exec_done)
