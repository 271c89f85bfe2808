-- Acts of an actor at or below C, a job or an outsider: they keep the invariant whatever the book's rules say.
--     BlocksPass, fresh_ok       a job at the start of its block
--     low_write, .., low_exec    the acts
-- Assumes nothing.
use mathlib.Core.Path.{◌≡◌, refl, sym, ap, ◌∙◌}
use mathlib.Core.Bool.{true}
use mathlib.Core.Option.{some}
use Prim.Native.Nat.{ℕ, max, ◌≤◌}
use native.Mathlib.Omega.{arith}
use lib.ListN.{get_elem?}
use borrow.Author.Tests.{leb-true}
use Rattle.labels.specs.declared.Label.{Label}
use Rattle.book.specs.Book.{Book}
use Rattle.book.proofs.Every.{all_at}
use Rattle.book.proofs.Tests.{clash, both_left}
use Rattle.typing.specs.Shapes.{view_of, counted_trust}
use Rattle.typing.specs.Rules.{passes, fresh}
use Rattle.machine.specs.Histories.{sources}
use Rattle.machine.specs.States.{Traced, Cell, State}
use Rattle.machine.specs.Acts.{store, create, fresh_job, write_act, relabel_act, new_act, start_act, exec_act}
use Rattle.machine.specs.Events.{block_of}
use Rattle.integrity.proofs.Trees.{Tree, cell, tree_trust}
use Rattle.integrity.proofs.Entries.{all2_replicate}
use Rattle.integrity.proofs.Numbers.{exec_low}
use Rattle.integrity.proofs.Invariant.{Cells, passes_all, shape_of, tree_of, Good, CellOk, RegisterOk, JobOk, Invariant}
use Rattle.integrity.proofs.Effects.{EffectOk, store_ok, create_ok, launch_ok, store_tree}
use Rattle.integrity.proofs.Walks.{given_act, entry_act, code_act}

-- every block passes from its start
abbrev pub BlocksPass : Book → Type 0
BlocksPass K = (b : ℕ) → passes_all (view_of K) (block_of K b).steps (passes (fresh (block_of K b).bound)) ≡ true

module _ (K : Book) (cs : Cells) where
  pub fresh_ok : BlocksPass K → (b : ℕ) (l h : Label) → l.0 ≤ max K.c.0 (block_of K b).bound.0 → l.0 ≤ max K.c.0 h.0
      → JobOk K cs (fresh_job sources b l h)
  unfolding fresh
  fresh_ok pass b l h p q =
      record {
        state = fresh (block_of K b).bound;
        matches =
            record {
              label = p;
              lowered = λ e. clash e refl;
              source = q;
              registers = all2_replicate (RegisterOk K cs l.0) 8 _ _ (record { cellular = λ i e. cc; fits = λ e. tt; source = omega arith });
            };
        rest = pass b;
      }

  -- a cell of trust at or below C
  pub low_good : (c : Cell Label) (t : Tree) (S : ℕ) → S ≤ K.c.0 → Good K cs c t S
  low_good c t S h = record { label = omega arith; source = omega arith; has = λ z. absurd (omega arith) }

  pub one_shape : (c : Cell Label) (t : Tree) (S : ℕ) → tree_of K c.shape ≡ cell t S → Good K cs c t S → CellOk K cs c
  one_shape c t S e g t' S' e' = let x : t ≡ t' = cc in let y : S ≡ S' = cc in rw (← x, ← y) g

  pub low_create : (c : Cell Label) → (counted_trust K.c (shape_of K) c.shape).0 ≤ K.c.0 → EffectOk K cs (create c)
  low_create c h = create_ok (λ t S e. let y = tree_trust K.c (shape_of K) c.shape t S e in low_good c t S (omega arith))

module _ (K : Book) (s : State Label) (v : Invariant K s) (l h : Label) (lo : l.0 ≤ K.c.0) where
  low_store : (k : ℕ) (c d : Cell Label) → get_elem? s.cells k ≡ some c → c.label.0 ≤ l.0 → d.shape ≡ c.shape
      → EffectOk K s.cells (store k d)
  low_store k c d e p q = store_ok low (store_tree K s.cells k c d e q)
    where
      low : (t : Tree) (S : ℕ) → tree_of K d.shape ≡ cell t S → Good K s.cells d t S
      low t S z =
          let g = all_at (CellOk K s.cells) s.cells k c v.cells e t S (ap (tree_of K) (sym q) ∙ z) in
          low_good K s.cells d t S (omega (arith, g.label))

  pub low_write : (k : ℕ) (w : Traced Label) → EffectOk K s.cells (write_act sources s l h k w)
  unfolding write_act
  low_write k w = entry_act K (λ c ec. given_act K (λ el. low_store k c _ ec (leb-true _ _ el) refl))

  pub low_relabel : (k : ℕ) (o : Label) → EffectOk K s.cells (relabel_act sources s l h k o)
  unfolding relabel_act
  low_relabel k o =
      entry_act K (λ c ec. given_act K (λ e. low_store k c _ ec (leb-true _ _ (both_left _ _ e)) refl))

module _ (K : Book) (size : ℕ) (s : State Label) (v : Invariant K s) (l h : Label) (lo : l.0 ≤ K.c.0) where
  pub low_new : (i : ℕ) (w : Traced Label) → (counted_trust K.c (shape_of K) i).0 ≤ K.c.0 → EffectOk K s.cells (new_act sources size s l h i w)
  unfolding new_act
  low_new i w p = given_act K (λ e. low_create K s.cells _ p)

  module _ (pass : BlocksPass K) where
    low_job : (b : ℕ) (m h : Label) → m.0 ≤ K.c.0 → JobOk K s.cells (fresh_job sources b m h)
    low_job b m h p = fresh_ok K s.cells pass b m h (omega arith) (omega arith)

    pub low_start : (b : ℕ) → EffectOk K s.cells (start_act sources size s l h b)
    unfolding start_act
    low_start b = given_act K (λ e. launch_ok (low_job b l h lo))

    pub low_exec : (k : ℕ) → EffectOk K s.cells (exec_act sources size s l h k)
    unfolding exec_act
    low_exec k =
        entry_act K (λ c ec. code_act K (λ b eb. given_act K (λ e. launch_ok (low_job b _ _ (exec_low K.c.0 l c.label lo)))))
