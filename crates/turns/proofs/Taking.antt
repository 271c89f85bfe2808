-- Laws of the steps, for the code: the effect that a function hands back is the machine's turn.
--     adds, reads, throughs, lowers, chooses          one set for each: add; read; write, relabel and exec; lower; choose
--     put_is, name_is, code_is, new_is, start_is      the others
--     as_told                                         a step that is told by its bytes
-- Assumes nothing.
use mathlib.Core.Path.{◌≡◌, refl, sym, ap, ◌∙◌}
use mathlib.Core.Bool.{Bool, true, false}
use Prim.Native.Nat.{ℕ, ◌+◌, ◌<◌, ◌≤◌}
use native.Mathlib.Omega.{arith}
use mathlib.Core.List.{List}
use lib.Dec.{ltb}
use lib.ListN.{get_elem?}
use borrow.Author.Tests.{lt-ltb, le-ltb, ne_eqb}
use Rattle.labels.specs.declared.Label.{Label}
use Rattle.labels.specs.Labels.{lower, reaches}
use Rattle.book.specs.declared.Value.TheVariants.{Plain}
use Rattle.book.specs.declared.Step.{Step}
use Rattle.book.specs.declared.Step.TheVariants.{Put, Name, Code, Add, New, Read, Write, Relabel, Start, Exec, Choose}
use Rattle.book.specs.Book.{value_of}
use Rattle.book.specs.Control.{both, on_some}
use Rattle.machine.specs.Control.{given, on_plain}
use Rattle.machine.specs.Histories.{sources}
use Rattle.machine.specs.States.{Traced, State}
use Rattle.machine.specs.States as States
use Rattle.machine.specs.Acts.{keep, acted, write_act, relabel_act, new_act, start_act, exec_act}
use Rattle.machine.specs.Acts as Acts
use Rattle.machine.specs.Steps.{Turn, summable, chosen, turn, stay, moved, gets, add_step, read_step, lower_step, through, turn_of}
use Rattle.machine.specs.Events.{table_size}
use Rattle.acts.specs.declared.Stored.{Stored}
use Rattle.acts.specs.declared.Near.{Near}
use Rattle.acts.specs.declared.Act.{Act}
use Rattle.acts.specs.declared.Actor.{Actor}
use Rattle.acts.specs.declared.Act.TheVariants.{Blocked, Give, Lower}
use Rattle.acts.specs.Views.{value_in, stored_of, stored_content, cell_of, actor, register_in, nearby, effect_of, job_after, turn_taken, kept, settled}
use Rattle.acts.specs.Views.{sort_of, waits, acts, Does, Makes, give_sort, lower_sort, store_sort, create_sort, launch_sort}
use Rattle.turns.specs.Turns.{number_in, target_by, Takes}
use Rattle.book.proofs.Decoded.{number_is}
use Rattle.acts.proofs.Acting.{write_closed, same_some, same_none, not_plain, is_plain, not_cell, is_cell}

-- what the code hands back for a step p, by what its turn is
module _ {s : State Label} {p : Step} {l h : Label} {rs : List Stored} where
  blocked_is : ((b i : ℕ) → turn_of sources table_size s (actor l h rs b i) p ≡ stay sources (actor l h rs b i)) → {n : ℕ} → Takes n s p l h rs Blocked
  unfolding effect_of job_after kept sort_of
  blocked_is q = record { takes = λ b i. rw (q b i) refl; only = waits refl }

  give_is : {r : ℕ} {v : Stored}
      → ((b i : ℕ) → turn_of sources table_size s (actor l h rs b i) p ≡ turn sources (gets sources (actor l h rs b i) r (value_in v) v.source) keep)
      → Takes give_sort s p l h rs (Give r v)
  unfolding effect_of job_after kept sort_of
  give_is q = record { takes = λ b i. rw (q b i) refl; only = acts refl }

-- a step of a job at label l, with source h and registers rs; y is what it looks at, and g who acts
module _ (l h : Label) (rs : List Stored) (y : Near) where
  pub put_is : (r n : ℕ) → Takes give_sort (nearby y) (Put r n) l h rs (Give r (record { number = n; kind = 0; source = h }))
  unfolding turn_of value_of
  put_is r n = give_is (λ b i. refl)

  pub name_is : (r n : ℕ) → Takes give_sort (nearby y) (Name r n) l h rs (Give r (record { number = n; kind = 1; source = h }))
  unfolding turn_of value_of
  name_is r n = give_is (λ b i. refl)

  pub code_is : (r n : ℕ) → Takes give_sort (nearby y) (Code r n) l h rs (Give r (record { number = n; kind = 2; source = h }))
  unfolding turn_of value_of
  code_is r n = give_is (λ b i. refl)

  module _ (r a b : ℕ) (u v : Stored) (eu : stored_of u ≡ register_in h rs a) (ev : stored_of v ≡ register_in h rs b) where
    adding_is : (m i : ℕ) → turn_of sources table_size (nearby y) (actor l h rs m i) (Add r a b)
        ≡ add_step sources (actor l h rs m i) r (stored_of u) (stored_of v)
    unfolding turn_of
    adding_is m i = rw (eu, ev) refl

    pub add_first : (u.kind ≡ 0 → ⊥) → Takes give_sort (nearby y) (Add r a b) l h rs Blocked
    unfolding add_step
    add_first n = blocked_is (λ m i. adding_is m i ∙ not_plain (stay sources (actor l h rs m i)) _ u.number u.kind n)

    module _ (e : u.kind ≡ 0) where
      pub add_second : (v.kind ≡ 0 → ⊥) → Takes give_sort (nearby y) (Add r a b) l h rs Blocked
      unfolding add_step
      add_second n =
          blocked_is
          (λ m i. adding_is m i ∙ is_plain (stay sources (actor l h rs m i)) _ u.number u.kind e
          ∙ not_plain (stay sources (actor l h rs m i)) _ v.number v.kind n)

      module _ (n : v.kind ≡ 0) where
        summing_is : (m i : ℕ) → turn_of sources table_size (nearby y) (actor l h rs m i) (Add r a b)
            ≡ given (summable u.number v.number)
            (turn sources (gets sources (actor l h rs m i) r (Plain (u.number + v.number)) (lower (lower u.source v.source) h)) keep)
            (stay sources (actor l h rs m i))
        unfolding add_step
        summing_is m i =
            adding_is m i ∙ is_plain (stay sources (actor l h rs m i)) _ u.number u.kind e
            ∙ is_plain (stay sources (actor l h rs m i)) _ v.number v.kind n

        pub add_past : (u.number + v.number < 4294967296 → ⊥) → Takes give_sort (nearby y) (Add r a b) l h rs Blocked
        unfolding summable given
        add_past p = let q : 4294967296 ≤ u.number + v.number = omega arith in blocked_is (λ m i. summing_is m i ∙ simp (le-ltb _ _ q))

        pub add_both : (z : ℕ) (s t : Label) (x : Act) → (u.number + v.number < 4294967296) × (z ≡ u.number + v.number) → s ≡ lower u.source v.source
            → t ≡ lower s h → x ≡ Give r (record { number = z; kind = 0; source = t }) → Takes give_sort (nearby y) (Add r a b) l h rs x
        unfolding summable given value_of
        add_both z s t x p es et ex = rw ex (give_is (λ m i. summing_is m i ∙ rw (et, es) (simp (← p.1, lt-ltb _ _ p.0))))

  pub new_is : (g : Actor) → g ≡ record { label = l; source = h } → (r i a : ℕ) (v : Stored) (x : Act) → stored_of v ≡ register_in h rs a
      → Makes (nearby y) r (new_act sources table_size (nearby y) g.label g.source i (stored_of v)) x → Takes create_sort (nearby y) (New r i a) l h rs x
  unfolding turn_of target_by
  new_is g eg r i a v x ev d = let m = rw eg at d in record { takes = λ b n. m.does (actor l h rs b n) ∙ rw ev refl; only = d.only }

  pub start_is : (g : Actor) → g ≡ record { label = l; source = h } → (b : ℕ) (x : Act)
      → Does launch_sort (nearby y) 0 (start_act sources table_size (nearby y) g.label g.source b) x → Takes launch_sort (nearby y) (Start b) l h rs x
  unfolding turn_of target_by
  start_is g eg b x d = let n = rw eg at d in record { takes = λ m i. n.does (actor l h rs m i); only = d.only }

  -- v is register r
  module _ (r a b : ℕ) (v : Stored) (ev : stored_of v ≡ register_in h rs r) where
    -- block c is started
    abbrev starts : ℕ → ℕ → ℕ → Turn Label
    starts m i c = turn sources (moved sources (actor l h rs m i)) (start_act sources table_size (nearby y) l h c)

    choosing_is : (m i : ℕ) → turn_of sources table_size (nearby y) (actor l h rs m i) (Choose r a b)
        ≡ on_plain (stored_of v).value (stay sources (actor l h rs m i)) (λ n. starts m i (chosen n a b))
    unfolding turn_of
    choosing_is m i =
        ap (λ (t : Traced Label). on_plain t.value (stay sources (actor l h rs m i)) (λ n. starts m i (chosen n a b))) (sym ev)

    pub choose_not : (v.kind ≡ 0 → ⊥) → Takes launch_sort (nearby y) (Choose r a b) l h rs Blocked
    choose_not n = blocked_is (λ m i. choosing_is m i ∙ not_plain (stay sources (actor l h rs m i)) _ v.number v.kind n)

    module _ (x : Act) (e : v.kind ≡ 0) (g : Actor) (eg : g ≡ record { label = l; source = h }) where
      choose_one : (c : ℕ) → chosen v.number a b ≡ c → Does launch_sort (nearby y) 0 (start_act sources table_size (nearby y) g.label g.source c) x
          → Takes launch_sort (nearby y) (Choose r a b) l h rs x
      unfolding target_by
      choose_one c q f =
          let d = rw eg at f in
          record {
            takes = λ m i.
                let z : turn_of sources table_size (nearby y) (actor l h rs m i) (Choose r a b) ≡ starts m i c
                = choosing_is m i ∙ is_plain (stay sources (actor l h rs m i)) _ v.number v.kind e ∙ ap (starts m i) q in
                d.does (actor l h rs m i) ∙ ap (settled (actor l h rs m i)) (sym z);
            only = d.only;
          }

      pub choose_second : v.number ≡ 0 → Does launch_sort (nearby y) 0 (start_act sources table_size (nearby y) g.label g.source b) x
          → Takes launch_sort (nearby y) (Choose r a b) l h rs x
      unfolding chosen given
      choose_second z d = choose_one b (simp z) d

      pub choose_first : (v.number ≡ 0 → ⊥) → Does launch_sort (nearby y) 0 (start_act sources table_size (nearby y) g.label g.source a) x
          → Takes launch_sort (nearby y) (Choose r a b) l h rs x
      unfolding chosen given
      choose_first z d = choose_one a (simp (ne_eqb _ _ z)) d

  module _ (q : Label) (b : Bool) (eb : b ≡ reaches l q) where
    pub lower_not : b ≡ false → Takes lower_sort (nearby y) (Step.Lower q) l h rs Blocked
    unfolding turn_of lower_step given
    lower_not f = blocked_is (λ m i. simp (← eb, f))

    pub lower_done : (s : Label) → b ≡ true → s ≡ lower h q → Takes lower_sort (nearby y) (Step.Lower q) l h rs (Lower q s)
    unfolding turn_of lower_step given effect_of job_after kept sort_of
    lower_done s f es = record { takes = λ m i. simp (← eb, f, es); only = acts refl }

  -- u is register w
  module _ (w : ℕ) (u : Stored) (eu : stored_of u ≡ register_in h rs w) where
    value_is : value_in u ≡ (register_in h rs w).value
    value_is = ap (λ (t : Traced Label). t.value) eu

    module _ (r : ℕ) where
      abbrev found : ℕ → ℕ → States.Cell Label → Turn Label
      found b i c = turn sources (gets sources (actor l h rs b i) r c.content.value (acted sources h c.content).history) keep

      pub read_no : (u.kind ≡ 1 → ⊥) → Takes give_sort (nearby y) (Read r w) l h rs Blocked
      unfolding turn_of read_step
      read_no n = blocked_is (λ b i. rw (← value_is) (not_cell (stay sources (actor l h rs b i)) _ u.number u.kind n))

      module _ (e : u.kind ≡ 1) where
        pub read_none : y.cells ≤ u.number → Takes give_sort (nearby y) (Read r w) l h rs Blocked
        unfolding turn_of read_step on_some
        read_none n =
            blocked_is
            (λ b i. rw (← value_is)
            (is_cell (stay sources (actor l h rs b i)) _ u.number u.kind e ∙ simp (same_none (cell_of y.cell) y.cells u.number n)))

        pub read_done : (v t : Stored) → u.number < y.cells → v ≡ stored_content y.cell → stored_of t ≡ acted sources h (stored_of v)
            → Takes give_sort (nearby y) (Read r w) l h rs (Give r t)
        unfolding turn_of read_step on_some
        read_done v t n ev et =
            give_is
            (λ b i.
            let c : on_some (get_elem? (nearby y).cells u.number) (stay sources (actor l h rs b i)) (found b i)
            ≡ found b i (cell_of y.cell) = simp (same_some (cell_of y.cell) y.cells u.number n) in
            rw (← value_is)
            (is_cell (stay sources (actor l h rs b i)) _ u.number u.kind e
            ∙ c
            ∙ ap (λ (t : Traced Label). turn sources (gets sources (actor l h rs b i) r t.value t.history) keep) (sym (rw ev at et))))

    -- an act on the cell that w names
    module _ (b i : ℕ) (act : ℕ → Acts.Effect Label) where
      no_cell : (u.kind ≡ 1 → ⊥) → through sources (actor l h rs b i) w act ≡ stay sources (actor l h rs b i)
      no_cell n = rw (← value_is) (not_cell (stay sources (actor l h rs b i)) _ u.number u.kind n)

      one_cell : (n : ℕ) (x : Act) → u.kind ≡ 1 → Does n (nearby y) u.number (act u.number) x
          → turn_taken (nearby y) (actor l h rs b i) (number_in (actor l h rs b i) w) x
          ≡ settled (actor l h rs b i) (through sources (actor l h rs b i) w act)
      one_cell n x e d =
          let c : through sources (actor l h rs b i) w act ≡ turn sources (moved sources (actor l h rs b i)) (act u.number)
          = rw (← value_is) (is_cell (stay sources (actor l h rs b i)) _ u.number u.kind e) in
          let k : number_in (actor l h rs b i) w ≡ u.number = rw (← value_is) (number_is u.kind u.number) in
          ap (λ k. turn_taken (nearby y) (actor l h rs b i) k x) k ∙ d.does (actor l h rs b i) ∙ ap (settled (actor l h rs b i)) (sym c)

    module _ (a : ℕ) where
      pub write_no : (u.kind ≡ 1 → ⊥) → Takes store_sort (nearby y) (Write w a) l h rs Blocked
      unfolding turn_of
      write_no n = blocked_is (λ b i. no_cell b i (λ k. write_act sources (nearby y) l h k (register_in h rs a)) n)

      pub write_shut : (o : Bool) → u.kind ≡ 1 → o ≡ both (ltb u.number y.cells) (reaches l y.cell.label) → o ≡ false
          → Takes store_sort (nearby y) (Write w a) l h rs Blocked
      unfolding turn_of target_by sort_of
      write_shut o e eo f =
          record {
            takes = λ b i. one_cell b i (λ k. write_act sources (nearby y) l h k (register_in h rs a)) store_sort Blocked e
                (write_closed l h y u.number o eo (register_in h rs a) f);
            only = waits refl;
          }

      pub write_cell : (g : Actor) → g ≡ record { label = l; source = h } → (x : Act) (v : Stored) → u.kind ≡ 1 → stored_of v ≡ register_in h rs a
          → Does store_sort (nearby y) u.number (write_act sources (nearby y) g.label g.source u.number (stored_of v)) x
          → Takes store_sort (nearby y) (Write w a) l h rs x
      unfolding turn_of target_by
      write_cell g eg x v e ev d =
          let f = rw eg at d in
          record { takes = λ b i. one_cell b i (λ k. write_act sources (nearby y) l h k (register_in h rs a)) store_sort x e (rw ev at f); only = d.only }

    module _ (o : Label) where
      pub relabel_no : (u.kind ≡ 1 → ⊥) → Takes store_sort (nearby y) (Relabel w o) l h rs Blocked
      unfolding turn_of
      relabel_no n = blocked_is (λ b i. no_cell b i (λ k. relabel_act sources (nearby y) l h k o) n)

      pub relabel_cell : (g : Actor) → g ≡ record { label = l; source = h } → (x : Act) → u.kind ≡ 1
          → Does store_sort (nearby y) u.number (relabel_act sources (nearby y) g.label g.source u.number o) x → Takes store_sort (nearby y) (Relabel w o) l h rs x
      unfolding turn_of target_by
      relabel_cell g eg x e f = let d = rw eg at f in record { takes = λ b i. one_cell b i (λ k. relabel_act sources (nearby y) l h k o) store_sort x e d; only = d.only }

    pub exec_no : (u.kind ≡ 1 → ⊥) → Takes launch_sort (nearby y) (Exec w) l h rs Blocked
    unfolding turn_of
    exec_no n = blocked_is (λ b i. no_cell b i (exec_act sources table_size (nearby y) l h) n)

    pub exec_cell : (g : Actor) → g ≡ record { label = l; source = h } → (x : Act) → u.kind ≡ 1
        → Does launch_sort (nearby y) u.number (exec_act sources table_size (nearby y) g.label g.source u.number) x → Takes launch_sort (nearby y) (Exec w) l h rs x
    unfolding turn_of target_by
    exec_cell g eg x e f = let d = rw eg at f in record { takes = λ b i. one_cell b i (exec_act sources table_size (nearby y) l h) launch_sort x e d; only = d.only }

-- the code told the step apart
pub as_told : (n : ℕ) (s : State Label) (p q : Step) (l h : Label) (rs : List Stored) (x : Act) → q ≡ p → Takes n s q l h rs x → Takes n s p l h rs x
as_told n s p q l h rs x e t = rw (← e) t

pub ruleset adds = (add_first, add_second, add_past, add_both)

pub ruleset reads = (read_no, read_none, read_done)

pub ruleset throughs = (write_no, write_shut, write_cell, relabel_no, relabel_cell, exec_no, exec_cell)

pub ruleset lowers = (lower_not, lower_done)

pub ruleset chooses = (choose_not, choose_second, choose_first)
