-- A step at P above C: what the rule says of it holds of what the machine does. One lemma for each kind of step.
-- Assumes nothing.
use mathlib.Core.Path.{◌≡◌, refl, ap}
use mathlib.Core.Bool.{Bool, true, false, not}
use mathlib.Core.Option.{Option, none, some}
use mathlib.Core.List.{[], ◌∷◌, ◌++◌, map}
use Prim.Native.Nat.{ℕ, max, ◌<◌, ◌≤◌}
use native.Mathlib.Omega.{arith}
use lib.Dec.{leb}
use lib.ListN.{length, get_elem?}
use borrow.Author.Tests.{leb-true, leb-false}
use Rattle.labels.specs.declared.Label.{Label}
use Rattle.labels.specs.Labels.{lower}
use Rattle.book.specs.declared.Value.TheVariants.{Plain, CellName, CodeName}
use Rattle.book.specs.declared.Declared.{Declared}
use Rattle.book.specs.Control.{both, either}
use Rattle.book.specs.Book.{Book, Block}
use Rattle.book.proofs.Tests.{clash, both_left, both_right, either_left, either_right}
use Rattle.typing.specs.declared.Known.TheVariants as N
use Rattle.typing.specs.declared.State as T
use Rattle.typing.specs.Shapes.{is_cell_shape, content_of, counted_trust, is_high_trust, known_of}
use Rattle.typing.specs.Rules.{passes, known, is_low, holds, used}
use Rattle.typing.specs.Rules as R
use Rattle.machine.specs.Control.{on_plain}
use Rattle.machine.specs.Histories.{sources}
use Rattle.machine.specs.States.{Cell, Job, State}
use Rattle.machine.specs.Acts.{keep, create, exec_label, fresh_job, acted, write_act, relabel_act, new_act, start_act, exec_act}
use Rattle.machine.specs.Steps.{chosen, register, gets, giving, stay, moved, through, add_step, read_step, lower_step}
use Rattle.machine.specs.Events.{block_of}
use Rattle.machine.proofs.Cases.{chosen_both}
use Rattle.integrity.proofs.Booleans.{both_true, either_second, not-false}
use Rattle.integrity.proofs.Trees.{Grounded, code, tree_cell}
use Rattle.integrity.proofs.Entries.{All2, all2_map}
use Rattle.integrity.proofs.Numbers.{facts, act_source, read_source, read_above, joined_three, add_source, exec_bound, exec_own, exec_code, held_label, lower_number}
use Rattle.integrity.proofs.Invariant.{shape_of, tree_of, Has, Good, CellOk, RegisterOk, Match, JobOk, Invariant}
use Rattle.integrity.proofs.Effects.{keep_ok, create_ok, launch_ok, created}
use Rattle.integrity.proofs.Walks.{StepOk, fine, never_stuck, need_ok, free_ok, either_ok, some_ok, known_cell_ok, known_code_ok, given_ok, entry_ok, plain_ok}
use Rattle.integrity.proofs.Walks.{cell_ok, given_effect, entry_effect, code_effect}
use Rattle.integrity.proofs.Knowledge.{bound_is, named_has, fits_has, has_known, known_code, known_cellular}
use Rattle.integrity.proofs.LowActs.{BlocksPass, fresh_ok, low_good, one_shape}
use Rattle.integrity.proofs.Outcomes.{register_ok, fits_known, gives_ok, low_ok, own_ok, moves_ok, good_at, put_back}

module _ (K : Book) (size : ℕ) (s : State Label) (v : Invariant K s) (ok : Grounded (shape_of K)) (pass : BlocksPass K) (j : Job Label) (t : T.State)
    (m : Match K s.cells t j) where
  pub put_ok : (r n : ℕ) → StepOk K s.cells j (R.gives t r N.Plain t.p) (giving sources j r (Plain n))
  put_ok r n = own_ok K s j t m r N.Plain (Plain n) keep keep_ok (λ i e. cc) tt

  pub name_ok : (r k : ℕ)
      → StepOk K s.cells j (R.name_rule K.c (shape_of K) t r (get_elem? (map (λ (d : Declared). d.shape) K.cells) k)) (giving sources j r (CellName k))
  name_ok r k =
      some_ok K (λ i e. need_ok K (λ c.
      own_ok K s j t m r (N.CellOf i) (CellName k) keep keep_ok (λ n q. let z : i ≡ n = cc in rw z at c) (named_has K s.cells k _ (v.declared k i e))))

  pub code_ok : (r b : ℕ) → StepOk K s.cells j (R.code_rule t r (get_elem? (map (λ (b : Block). b.bound) K.blocks) b)) (giving sources j r (CodeName b))
  code_ok r b =
      some_ok K (λ l e. own_ok K s j t m r (N.Code l) (CodeName b) keep keep_ok (λ i q. cc)
      (let z : (block_of K b).bound ≡ l = bound_is K.blocks b l e in
      let y : (block_of K b).bound.0 ≡ l.0 = ap (λ (l : Label). l.0) z in
      omega arith))

  pub add_ok : (r a b : ℕ) → StepOk K s.cells j (R.add_rule K.c t r a b) (add_step sources j r (register sources j a) (register sources j b))
  unfolding add_step
  add_ok r a b =
      need_ok K (λ p. plain_ok K (λ x ex. plain_ok K (λ y ey. given_ok K (λ e.
      gives_ok K s j t m r N.Plain _ _ _ keep keep_ok
      (record {
        cellular = λ i q. cc;
        fits = λ z. tt;
        source = add_source K.c.0 j.label.0 _ _ t.p _ _ j.history (register_ok K s j t m a).source (register_ok K s j t m b).source m.source;
      })))))

  -- what may be stored in a cell of shape i
  module _ (a i : ℕ) (h : holds K.c (shape_of K) t a i ≡ true) where
    holds_has : Has K s.cells (register sources j a).value (tree_of K (content_of K.c (shape_of K) i))
    unfolding holds
    holds_has = fits_has K s.cells ok _ _ _ (both_left _ _ h) (fits_known K s j t m a)

    holds_used : (counted_trust K.c (shape_of K) i).0 ≤ (used t a).0
    unfolding holds
    holds_used = leb-true _ _ (both_right _ _ h)

    holds_source : K.c.0 < (counted_trust K.c (shape_of K) i).0 → (counted_trust K.c (shape_of K) i).0 ≤ j.label.0
        → (counted_trust K.c (shape_of K) i).0 ≤ max K.c.0 (lower (register sources j a).history j.history).0
    holds_source p q = act_source K.c.0 _ j.label.0 _ t.p _ _ p holds_used q (register_ok K s j t m a).source m.source

  new_cell : (i a : ℕ) → is_cell_shape K.c (shape_of K) i ≡ true → K.c.0 < t.p.0
      → either (not (is_high_trust K.c (shape_of K) i)) (both t.lowered (holds K.c (shape_of K) t a i)) ≡ true
      → CellOk K s.cells (record { shape = i; label = j.label; content = acted sources j.history (register sources j a) })
  new_cell i a ic hi e = one_shape K s.cells _ _ _ (tree_cell K.c (shape_of K) ok i ic) (go (is_high_trust K.c (shape_of K) i) refl)
    where
      go : (b : Bool) → is_high_trust K.c (shape_of K) i ≡ b
          → Good K s.cells (record { shape = i; label = j.label; content = acted sources j.history (register sources j a) })
          (tree_of K (content_of K.c (shape_of K) i)) (counted_trust K.c (shape_of K) i).0
      go false p = low_good K s.cells _ _ _ (omega facts)
      go true p =
          let h = either_second _ _ e (not-false _ p) in
          let w = holds_has a i (both_right _ _ h) in
          let u = holds_used a i (both_right _ _ h) in
          let n = m.lowered (both_left _ _ h) in
          let x = lower_number (R.register_type t a).effect t.p in
          let l : (counted_trust K.c (shape_of K) i).0 ≤ j.label.0 = omega facts in
          record { label = omega arith; source = holds_source a i (both_right _ _ h) (omega facts) l; has = λ z. w }

  pub new_ok : (r i a : ℕ) → K.c.0 < t.p.0
      → StepOk K s.cells j (R.new_rule K.c (shape_of K) t r i a)
      (record { job = gets sources j r (CellName (length s.cells)) j.history; effect = new_act sources size s j.label j.history i (register sources j a) })
  unfolding new_act
  new_ok r i a hi =
      let made : Cell Label = record { shape = i; label = j.label; content = acted sources j.history (register sources j a) } in
      need_ok K (λ e. given_effect K (λ f.
      own_ok K s j t m r (N.CellOf i) (CellName (length s.cells)) (create made) (create_ok (new_cell i a (both_left _ _ e) hi (both_right _ _ e)))
      (λ n q. let z : i ≡ n = cc in let c : is_cell_shape K.c (shape_of K) i ≡ true = both_left _ _ e in rw z at c)
      (named_has K (s.cells ++ (made ∷ [])) (length s.cells) _ (created K s.cells made))))

  pub read_ok : (r w : ℕ) → StepOk K s.cells j (R.read_rule K.c (shape_of K) t r w) (read_step sources s j r w)
  unfolding read_step
  read_ok r w =
      either_ok K (is_low K.c (R.register_type t w).effect)
      (λ e. cell_ok K (λ k ek. entry_ok K (λ c ec. low_ok K s j t m r _ _ keep keep_ok)))
      (λ e. known_cell_ok K (λ i ei. cell_ok K (λ k ek. entry_ok K (λ c ec.
      let g = good_at K s j t m ok v w i k c ei ek ec in
      gives_ok K s j t m r _ _ _ _ keep keep_ok
      (record {
        cellular = known_cellular K (content_of K.c (shape_of K) i);
        fits = λ z. has_known K s.cells ok _ _ (g.has (read_above K.c.0 _ t.p z));
        source = read_source K.c.0 j.label.0 _ t.p _ j.history g.source m.source;
      })))))

  -- lowered to q
  module _ (q : Label) (e : leb q.0 j.label.0 ≡ true) where
    lowered_source : q.0 ≤ max K.c.0 (lower j.history q).0
    lowered_source = let x = lower_number j.history q in let h = m.source in omega facts

    lowered_registers : All2 (RegisterOk K s.cells q.0) t.registers j.registers
    lowered_registers =
        all2_map (λ a b r. record { cellular = r.cellular; fits = r.fits; source = let h = r.source in omega facts }) t.registers j.registers m.registers

    lowered_stuck : either (leb q.0 t.p.0) (leb q.0 K.c.0) ≡ false → ⊥
    lowered_stuck f =
        let x : leb q.0 t.p.0 ≡ false = either_left _ _ f in
        let y : leb q.0 K.c.0 ≡ false = either_right _ _ f in
        let h = m.label in
        omega facts

  pub lower_ok : (q : Label) → StepOk K s.cells j (R.lower_rule K.c t q) (lower_step sources j q)
  unfolding R.lower_rule lower_step
  lower_ok q =
      given_ok K (λ e. free_ok K
      (λ f. fine (record {
        same = refl;
        moved = refl;
        effect = keep_ok;
        matches = record { label = omega arith; lowered = λ z. omega arith; source = lowered_source q e; registers = lowered_registers q e };
      }))
      (λ f. never_stuck K (lowered_stuck q e f)))

  pub write_ok : (w a : ℕ) → K.c.0 < t.p.0
      → StepOk K s.cells j (R.write_rule K.c (shape_of K) t w a) (through sources j w (λ k. write_act sources s j.label j.history k (register sources j a)))
  unfolding write_act
  write_ok w a hi =
      known_cell_ok K (λ i ei. cell_ok K (λ k ek. entry_effect K (λ c ec. given_effect K (λ el. free_ok K
      (λ fr. need_ok K (λ e. put_back K s j t m ok v w i k c ei ek ec (stored i k c ei ek ec (leb-true _ _ el) e (is_high_trust K.c (shape_of K) i) refl)))
      (λ fr. never_stuck K (blocks i k c ei ek ec (leb-true _ _ el) (leb-false _ _ fr)))))))
    where
      stored : (i k : ℕ) (c : Cell Label) → known K.c t w ≡ N.CellOf i → (register sources j w).value ≡ CellName k → get_elem? s.cells k ≡ some c
          → c.label.0 ≤ j.label.0 → either (not (is_high_trust K.c (shape_of K) i)) (holds K.c (shape_of K) t a i) ≡ true
          → (b : Bool) → is_high_trust K.c (shape_of K) i ≡ b
          → Good K s.cells (record { shape = c.shape; label = c.label; content = acted sources j.history (register sources j a) })
          (tree_of K (content_of K.c (shape_of K) i)) (counted_trust K.c (shape_of K) i).0
      stored i k c ei ek ec el e false p = low_good K s.cells _ _ _ (omega facts)
      stored i k c ei ek ec el e true p =
          let g = good_at K s j t m ok v w i k c ei ek ec in
          let h = either_second _ _ e (not-false _ p) in
          let x = holds_has a i h in
          let l = held_label K.c.0 _ c.label.0 j.label.0 (omega facts) g.label el in
          record { label = g.label; source = holds_source a i h (omega facts) l; has = λ z. x }

      blocks : (i k : ℕ) (c : Cell Label) → known K.c t w ≡ N.CellOf i → (register sources j w).value ≡ CellName k → get_elem? s.cells k ≡ some c
          → c.label.0 ≤ j.label.0 → t.p.0 < (counted_trust K.c (shape_of K) i).0 → ⊥
      blocks i k c ei ek ec el fr =
          let g = good_at K s j t m ok v w i k c ei ek ec in
          let x = g.label in
          let y = m.label in
          omega arith

  pub relabel_ok : (w : ℕ) (o : Label) → K.c.0 < t.p.0
      → StepOk K s.cells j (R.relabel_rule K.c (shape_of K) t w o) (through sources j w (λ k. relabel_act sources s j.label j.history k o))
  unfolding relabel_act
  relabel_ok w o hi =
      known_cell_ok K (λ i ei. cell_ok K (λ k ek. entry_effect K (λ c ec. given_effect K (λ el. free_ok K
      (λ fr. need_ok K (λ so. put_back K s j t m ok v w i k c ei ek ec (stored i k c ei ek ec (leb-true _ _ so))))
      (λ fr. never_stuck K (blocks i k c ei ek ec (both_left _ _ el) (both_right _ _ el) _ refl _ refl fr))))))
    where
      stored : (i k : ℕ) (c : Cell Label) → known K.c t w ≡ N.CellOf i → (register sources j w).value ≡ CellName k → get_elem? s.cells k ≡ some c
          → (counted_trust K.c (shape_of K) i).0 ≤ o.0
          → Good K s.cells (record { shape = c.shape; label = o; content = c.content }) (tree_of K (content_of K.c (shape_of K) i)) (counted_trust K.c (shape_of K) i).0
      stored i k c ei ek ec so =
          let g = good_at K s j t m ok v w i k c ei ek ec in
          record { label = omega arith; source = g.source; has = g.has }

      blocks : (i k : ℕ) (c : Cell Label) → known K.c t w ≡ N.CellOf i → (register sources j w).value ≡ CellName k → get_elem? s.cells k ≡ some c
          → leb c.label.0 j.label.0 ≡ true → leb o.0 j.label.0 ≡ true
          → (a : Bool) → leb (counted_trust K.c (shape_of K) i).0 t.p.0 ≡ a → (b : Bool) → leb o.0 t.p.0 ≡ b
          → both (leb (counted_trust K.c (shape_of K) i).0 t.p.0) (leb o.0 t.p.0) ≡ false → ⊥
      blocks i k c ei ek ec el eo false p b q f =
          let x = (good_at K s j t m ok v w i k c ei ek ec).label in
          let y = m.label in
          omega facts
      blocks i k c ei ek ec el eo true p false q f = let y = m.label in omega facts
      blocks i k c ei ek ec el eo true p true q f = clash (both_true _ _ p q) f

  abbrev bound_at : ℕ → Option Label
  bound_at b = get_elem? (map (λ (b : Block). b.bound) K.blocks) b

  -- block b may be started here
  Fitting : ℕ → Type 0
  Fitting b = j.label.0 ≤ max K.c.0 (block_of K b).bound.0

  startable_fits : (b : ℕ) → R.startable t.p (bound_at b) ≡ true → Fitting b
  unfolding Fitting R.startable
  startable_fits b p = go (bound_at b) refl p
    where
      go : (k : Option Label) → bound_at b ≡ k → R.startable t.p k ≡ true → Fitting b
      go none e p = clash p refl
      go (some l) e p =
          let q : t.p.0 ≤ l.0 = leb-true _ _ p in
          let z : (block_of K b).bound ≡ l = bound_is K.blocks b l e in
          let y : (block_of K b).bound.0 ≡ l.0 = ap (λ (l : Label). l.0) z in
          let x = m.label in
          omega arith

  started_ok : (b : ℕ) → Fitting b → StepOk K s.cells j (passes t) (record { job = moved sources j; effect = start_act sources size s j.label j.history b })
  unfolding Fitting start_act
  started_ok b h = given_effect K (λ f. moves_ok K s j t m _ (launch_ok (fresh_ok K s.cells pass b j.label j.history h m.source)))

  pub start_ok : (b : ℕ)
      → StepOk K s.cells j (R.start_rule t (bound_at b)) (record { job = moved sources j; effect = start_act sources size s j.label j.history b })
  start_ok b = need_ok K (λ p. started_ok b (startable_fits b p))

  pub choose_ok : (r a b : ℕ)
      → StepOk K s.cells j (R.choose_rule K.c t r (bound_at a) (bound_at b))
      (on_plain (register sources j r).value (stay sources j)
      (λ n. record { job = moved sources j; effect = start_act sources size s j.label j.history (chosen n a b) }))
  choose_ok r a b =
      need_ok K (λ p. plain_ok K (λ n en.
      let q = both_left _ _ p in
      started_ok (chosen n a b) (chosen_both Fitting n a b (startable_fits a (both_left _ _ q)) (startable_fits b (both_right _ _ q)))))

  pub exec_ok : (w : ℕ) → K.c.0 < t.p.0
      → StepOk K s.cells j (R.exec_rule K.c (shape_of K) t w) (through sources j w (exec_act sources size s j.label j.history))
  unfolding exec_act
  exec_ok w hi =
      known_cell_ok K (λ i ei. known_code_ok K (λ l el. need_ok K (λ p.
      cell_ok K (λ k ek. entry_effect K (λ c ec. code_effect K (λ b eb. given_effect K (λ f.
      moves_ok K s j t m _ (launch_ok (started i l el (leb-true _ _ (both_left _ _ p)) (leb-true _ _ (both_right _ _ p)) k ei ek c ec b eb)))))))))
    where
      started : (i : ℕ) (l : Label) → known_of K.c (shape_of K) (content_of K.c (shape_of K) i) ≡ N.Code l → t.p.0 ≤ l.0
          → t.p.0 ≤ (counted_trust K.c (shape_of K) i).0 → (k : ℕ) → known K.c t w ≡ N.CellOf i → (register sources j w).value ≡ CellName k
          → (c : Cell Label) → get_elem? s.cells k ≡ some c → (b : ℕ) → c.content.value ≡ CodeName b
          → JobOk K s.cells (fresh_job sources b (exec_label j.label c.label) (lower (lower j.history c.content.history) (exec_label j.label c.label)))
      started i l el pl ps k ei ek c ec b eb =
          let g = good_at K s j t m ok v w i k c ei ek ec in
          let x : Has K s.cells (CodeName b) (code l.0) = rw (eb, known_code K s.cells ok _ l el) at (g.has (omega arith)) in
          fresh_ok K s.cells pass b _ _
          (exec_bound K.c.0 t.p.0 l.0 _ j.label c.label m.label pl x)
          (joined_three K.c.0 _ _ _ _
          (exec_own K.c.0 _ j.label c.label m.source)
          (exec_code K.c.0 t.p.0 _ _ j.label c.label m.label ps g.source)
          (omega arith))
