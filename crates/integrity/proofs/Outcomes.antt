-- What a step gives a job that matches a state of the typing.
--     register_ok, fits_known, known_cell      a register
--     gives_ok, .., moves_ok                   the job after its step
--     tree_at_lem, good_at, put_back               the cell that a register names
-- Assumes nothing.
use mathlib.Core.Path.{◌≡◌, refl}
use mathlib.Core.Bool.{Bool, true, false}
use mathlib.Core.Option.{some}
use Prim.Native.Nat.{ℕ, ◌<◌}
use native.Mathlib.Omega.{arith}
use lib.ListN.{get_elem?}
use Rattle.labels.specs.declared.Label.{Label}
use Rattle.labels.specs.Labels.{label}
use Rattle.book.specs.declared.Value.{Value}
use Rattle.book.specs.declared.Value.TheVariants.{CellName}
use Rattle.book.specs.Book.{Book}
use Rattle.book.proofs.Every.{all_at}
use Rattle.typing.specs.declared.Known.{Known}
use Rattle.typing.specs.declared.Known.TheVariants as N
use Rattle.typing.specs.declared.State as T
use Rattle.typing.specs.Shapes.{is_cell_shape, content_of, counted_trust}
use Rattle.typing.specs.Rules.{passes, known, low_register, is_low}
use Rattle.typing.specs.Rules as R
use Rattle.machine.specs.Histories.{sources}
use Rattle.machine.specs.States.{Traced, Cell, Job, State}
use Rattle.machine.specs.Acts.{Effect, store, zero_with}
use Rattle.machine.specs.Steps.{register, gets, moved}
use Rattle.integrity.proofs.Trees.{Grounded, cell, tree_cell}
use Rattle.integrity.proofs.Entries.{all2_set, all2_get}
use Rattle.integrity.proofs.Numbers.{facts}
use Rattle.integrity.proofs.Invariant.{Cells, shape_of, tree_of, tree_at, Fits, Good, CellOk, RegisterOk, Match, Invariant, registers_kept}
use Rattle.integrity.proofs.Effects.{After, EffectOk, store_ok, grows, store_tree}
use Rattle.integrity.proofs.Walks.{StepOk, fine}
use Rattle.integrity.proofs.LowActs.{one_shape}

pub low_register_lem : (K : Book) (cs : Cells) (l : ℕ) (v : Traced Label) → RegisterOk K cs l low_register v
low_register_lem K cs l v = record { cellular = λ i e. cc; fits = λ (h : K.c.0 < 0). absurd (omega arith); source = omega arith }

-- where typing knows a cell, the effect is above C, and the register holds it
pub known_cell : (c : Label) (t : T.State) (w i : ℕ) → known c t w ≡ N.CellOf i → (is_low c (R.register_type t w).effect ≡ false) × ((R.register_type t w).known ≡ N.CellOf i)
unfolding known
known_cell c t w i e = go (is_low c (R.register_type t w).effect) refl
  where
    go : (b : Bool) → is_low c (R.register_type t w).effect ≡ b → (is_low c (R.register_type t w).effect ≡ false) × ((R.register_type t w).known ≡ N.CellOf i)
    go true p = let z : N.Unknown ≡ N.CellOf i = simp p at e in ((cc), (cc))
    go false p = (p, simp p at e)

module _ (K : Book) (s : State Label) (j : Job Label) (t : T.State) (m : Match K s.cells t j) where
  pub register_ok : (r : ℕ) → RegisterOk K s.cells j.label.0 (R.register_type t r) (register sources j r)
  register_ok r =
      all2_get (RegisterOk K s.cells j.label.0) t.registers j.registers r low_register (zero_with sources j.history) m.registers
      (low_register_lem K s.cells j.label.0 _)

  pub fits_known : (r : ℕ) → Fits K s.cells (register sources j r).value (known K.c t r)
  unfolding known
  fits_known r = go (is_low K.c (R.register_type t r).effect) refl
    where
      go : (b : Bool) → is_low K.c (R.register_type t r).effect ≡ b → Fits K s.cells (register sources j r).value (known K.c t r)
      go true p = simp p tt
      go false p = simp p ((register_ok r).fits (omega facts))

  -- the outcome is a value in a register, and an effect on the tables
  pub gives_ok : (r : ℕ) (k : Known) (x : Label) (w : Value) (h : Label) (e : Effect Label) → EffectOk K s.cells e
      → RegisterOk K (After K s.cells e) j.label.0 (record { known = k; effect = x }) (record { value = w; history = h })
      → StepOk K s.cells j (R.gives t r k x) (record { job = gets sources j r w h; effect = e })
  gives_ok r k x w h e f q =
      fine (record {
        same = refl;
        moved = refl;
        effect = f;
        matches = record {
          label = m.label;
          lowered = m.lowered;
          source = m.source;
          registers =
              all2_set (RegisterOk K (After K s.cells e) j.label.0) t.registers j.registers r _ _
              (registers_kept K (grows K s.cells e f) j.label.0 t.registers j.registers m.registers) q;
        };
      })

  -- a low result
  pub low_ok : (r : ℕ) (w : Value) (h : Label) (e : Effect Label) → EffectOk K s.cells e
      → StepOk K s.cells j (R.gives_low t r) (record { job = gets sources j r w h; effect = e })
  low_ok r w h e f = gives_ok r N.Unknown (label 0) w h e f (low_register_lem K (After K s.cells e) j.label.0 _)

  -- a result with the job's history, of effect P
  pub own_ok : (r : ℕ) (k : Known) (w : Value) (e : Effect Label) → EffectOk K s.cells e
      → ((i : ℕ) → k ≡ N.CellOf i → is_cell_shape K.c (shape_of K) i ≡ true) → Fits K (After K s.cells e) w k
      → StepOk K s.cells j (R.gives t r k t.p) (record { job = gets sources j r w j.history; effect = e })
  own_ok r k w e f c h =
      gives_ok r k t.p w j.history e f (record { cellular = c; fits = λ z. h; source = omega (arith, m.source) })

  -- the step is done, and the registers stand
  pub moves_ok : (e : Effect Label) → EffectOk K s.cells e → StepOk K s.cells j (passes t) (record { job = moved sources j; effect = e })
  moves_ok e f =
      fine (record {
        same = refl;
        moved = refl;
        effect = f;
        matches = record {
          label = m.label;
          lowered = m.lowered;
          source = m.source;
          registers = registers_kept K (grows K s.cells e f) j.label.0 t.registers j.registers m.registers;
        };
      })

  module _ (ok : Grounded (shape_of K)) (v : Invariant K s) (w i k : ℕ) (c : Cell Label) (ei : known K.c t w ≡ N.CellOf i)
      (ek : (register sources j w).value ≡ CellName k) (ec : get_elem? s.cells k ≡ some c) where
    pub tree_at_lem : tree_of K c.shape ≡ cell (tree_of K (content_of K.c (shape_of K) i)) (counted_trust K.c (shape_of K) i).0
    tree_at_lem =
        let x : is_cell_shape K.c (shape_of K) i ≡ true = (register_ok w).cellular i (known_cell K.c t w i ei).1 in
        let y : Fits K s.cells (CellName k) (N.CellOf i) = rw (ei, ek) at (fits_known w) in
        let z : tree_at K s.cells k ≡ some (cell (tree_of K (content_of K.c (shape_of K) i)) (counted_trust K.c (shape_of K) i).0) =
        rw (tree_cell K.c (shape_of K) ok i x) at y in
        cc

    pub good_at : Good K s.cells c (tree_of K (content_of K.c (shape_of K) i)) (counted_trust K.c (shape_of K) i).0
    good_at = all_at (CellOk K s.cells) s.cells k c v.cells ec _ _ tree_at_lem

    pub put_back : {l : Label} {x : Traced Label}
        → Good K s.cells (record { shape = c.shape; label = l; content = x }) (tree_of K (content_of K.c (shape_of K) i)) (counted_trust K.c (shape_of K) i).0
        → StepOk K s.cells j (passes t)
        (record { job = moved sources j; effect = store k (record { shape = c.shape; label = l; content = x }) })
    put_back g = moves_ok _ (store_ok (one_shape K s.cells _ _ _ tree_at_lem g) (store_tree K s.cells k c _ ec refl))
