-- Laws of decoding: what the code makes of the bytes is what stands there.
--     shapes, values, steps      one set for each
--     number_is                  the number of a value by kind and number
--     found, found_steps         the step or the declared cell at an offset, if one stands there
-- Assumes nothing.
use mathlib.Core.Path.{◌≡◌, refl, sym, ◌∙◌}
use mathlib.Core.Bool.{Bool, true, false}
use mathlib.Core.List.{List}
use Prim.Native.Nat.{ℕ, ◌+◌, ◌-◌, ◌≤◌, ◌<◌}
use native.Mathlib.Omega.{arith}
use lib.Dec.{ltb, eqb}
use lib.ListN.{length}
use borrow.Author.Tests.{eq-eqb, ne_eqb, lt-ltb, le-ltb, ltb-true, eqb-true}
use Rattle.labels.proofs.Impossible.{impossible}
use Rattle.labels.specs.Labels.{label, trust}
use Rattle.book.specs.declared.Value.{Value}
use Rattle.book.specs.declared.Value.TheVariants.{Plain, CellName, CodeName}
use Rattle.book.specs.declared.Declared.{Declared}
use Rattle.book.specs.declared.Step.{Step}
use Rattle.book.specs.declared.Step.TheVariants.{Put, Name, Code, Add, New, Read, Write, Relabel, Lower, Start, Exec, Choose}
use Rattle.book.specs.Missing.{StepAt}
use Rattle.std.specs.Prelude.{None, Some}
use Rattle.book.specs.Control.{both}
use Rattle.book.specs.Kinds.{span, group}
use Rattle.book.specs.Records.{byte_at, number_at, next, cut, in_group}
use Rattle.book.specs.Book.{shape_at, value_of, number_of, declared_at, step_at}
use Rattle.book.specs.Stretch.{stands, step_found, step_end, cell_found}
use Rattle.book.proofs.Pairs.{same_found, none_found}
use Rattle.book.proofs.Groups.{is_step, group_span}
use Rattle.book.proofs.Spans.{cut_body, uncut, uncut_span, uncut_inside}

module _ (s : List ℕ) (o : ℕ) where
  pub is_code_shape_lem : (x : ℕ) → x ≡ byte_at s (o + 1) → byte_at s o ≡ 17
      → record { kind = 17; bound = label x; content = 0; trust = trust 0 } ≡ shape_at s o
  unfolding shape_at
  is_code_shape_lem x ex h = simp (h, ex)

  pub is_cell_shape_lem : (x y : ℕ) → x ≡ byte_at s (o + 1) → y ≡ byte_at s (o + 2) → byte_at s o ≡ 18
      → record { kind = 18; bound = label 0; content = x; trust = trust y } ≡ shape_at s o
  unfolding shape_at
  is_cell_shape_lem x y ex ey h = simp (h, ex, ey)

  pub is_plain_shape_lem : (byte_at s o ≡ 17 → ⊥) → (byte_at s o ≡ 18 → ⊥)
      → record { kind = 16; bound = label 0; content = 0; trust = trust 0 } ≡ shape_at s o
  unfolding shape_at
  is_plain_shape_lem h k = simp (ne_eqb _ _ h, ne_eqb _ _ k)

pub ruleset shapes = (is_code_shape_lem, is_cell_shape_lem, is_plain_shape_lem)

module _ (k n : ℕ) where
  pub is_plain : k ≡ 0 → Plain n ≡ value_of k n
  unfolding value_of
  is_plain e = simp (eq-eqb _ _ e)

  pub is_cell_name : k ≡ 1 → CellName n ≡ value_of k n
  unfolding value_of
  is_cell_name e = simp e

  pub is_code_name : (k ≡ 0 → ⊥) → (k ≡ 1 → ⊥) → CodeName n ≡ value_of k n
  unfolding value_of
  is_code_name a b = simp (ne_eqb _ _ a, ne_eqb _ _ b)

pub ruleset values = (is_plain, is_cell_name, is_code_name)

-- the number of a value, whatever its kind
pub number_is : (k n : ℕ) → number_of (value_of k n) ≡ n
unfolding value_of
number_is k n = go (eqb k 0) refl (eqb k 1) refl
  where
    go : (a : Bool) → eqb k 0 ≡ a → (b : Bool) → eqb k 1 ≡ b → number_of (value_of k n) ≡ n
    go true p b q = simp (value_of, p) refl
    go false p true q = simp (value_of, p, q) refl
    go false p false q = simp (value_of, p, q) refl

pub is_declared : (s : List ℕ) (o x l k n : ℕ) (v : Value) → x ≡ byte_at s (o + 1) → l ≡ byte_at s (o + 2) → k ≡ byte_at s (o + 3)
    → n ≡ number_at s (o + 4) → v ≡ value_of k n → record { shape = x; label = label l; value = v } ≡ declared_at s o
unfolding declared_at
is_declared s o x l k n v ex el ek en ev = simp (ev, ex, el, ek, en)

-- x, y, z are the bytes after the kind
module _ (s : List ℕ) (o x : ℕ) (ex : x ≡ byte_at s (o + 1)) where
  pub is_put : (n : ℕ) → n ≡ number_at s (o + 2) → byte_at s o ≡ 64 → Put x n ≡ step_at s o
  unfolding step_at
  is_put n e h = simp (h, ex, e)

  pub is_lower : byte_at s o ≡ 72 → Lower (label x) ≡ step_at s o
  unfolding step_at
  is_lower h = simp (h, ex)

  pub is_start : byte_at s o ≡ 73 → Start x ≡ step_at s o
  unfolding step_at
  is_start h = simp (h, ex)

  pub is_exec : byte_at s o ≡ 74 → Exec x ≡ step_at s o
  unfolding step_at
  is_exec h = simp (h, ex)

  module _ (y : ℕ) (ey : y ≡ byte_at s (o + 2)) where
    pub is_name : byte_at s o ≡ 65 → Name x y ≡ step_at s o
    unfolding step_at
    is_name h = simp (h, ex, ey)

    pub is_code : byte_at s o ≡ 66 → Code x y ≡ step_at s o
    unfolding step_at
    is_code h = simp (h, ex, ey)

    pub is_read : byte_at s o ≡ 69 → Read x y ≡ step_at s o
    unfolding step_at
    is_read h = simp (h, ex, ey)

    pub is_write : byte_at s o ≡ 70 → Write x y ≡ step_at s o
    unfolding step_at
    is_write h = simp (h, ex, ey)

    pub is_relabel : byte_at s o ≡ 71 → Relabel x (label y) ≡ step_at s o
    unfolding step_at
    is_relabel h = simp (h, ex, ey)

    module _ (z : ℕ) (ez : z ≡ byte_at s (o + 3)) where
      pub is_add : byte_at s o ≡ 67 → Add x y z ≡ step_at s o
      unfolding step_at
      is_add h = simp (h, ex, ey, ez)

      pub is_new : byte_at s o ≡ 68 → New x y z ≡ step_at s o
      unfolding step_at
      is_new h = simp (h, ex, ey, ez)

      pub is_choose : (byte_at s o ≡ 64 → ⊥) → (byte_at s o ≡ 65 → ⊥) → (byte_at s o ≡ 66 → ⊥) → (byte_at s o ≡ 67 → ⊥) → (byte_at s o ≡ 68 → ⊥)
          → (byte_at s o ≡ 69 → ⊥) → (byte_at s o ≡ 70 → ⊥) → (byte_at s o ≡ 71 → ⊥) → (byte_at s o ≡ 72 → ⊥) → (byte_at s o ≡ 73 → ⊥)
          → (byte_at s o ≡ 74 → ⊥) → Choose x y z ≡ step_at s o
      unfolding step_at
      is_choose a b c d e f g h i j k =
          simp (
            ne_eqb _ _ a,
            ne_eqb _ _ b,
            ne_eqb _ _ c,
            ne_eqb _ _ d,
            ne_eqb _ _ e,
            ne_eqb _ _ f,
            ne_eqb _ _ g,
            ne_eqb _ _ h,
            ne_eqb _ _ i,
            ne_eqb _ _ j,
            ne_eqb _ _ k,
            ex,
            ey,
            ez,
          )

      -- past exec only choose is left
      pub choose_past : 74 < byte_at s o → Choose x y z ≡ step_at s o
      choose_past l =
          is_choose (λ e. omega arith) (λ e. omega arith) (λ e. omega arith) (λ e. omega arith) (λ e. omega arith) (λ e. omega arith) (λ e. omega arith)
          (λ e. omega arith) (λ e. omega arith) (λ e. omega arith) (λ e. omega arith)

pub ruleset steps = (is_put, is_name, is_code, is_add, is_new, is_read, is_write, is_relabel, is_lower, is_start, is_exec, is_choose)

-- whether a whole record of group g stands at o; d is the group that was found there, p the offset past the record
module _ (s : List ℕ) (g o : ℕ) where
  stands_past : length s ≤ o → stands s g o ≡ false
  unfolding both
  stands_past h = simp (le-ltb o (length s) h)

  module _ (d : ℕ) (h : o < length s) (ed : d ≡ group (byte_at s o)) where
    stands_other : (d ≡ g → ⊥) → stands s g o ≡ false
    unfolding both
    stands_other n = simp (lt-ltb _ _ h, ← ed, ne_eqb _ _ n)

    module _ (p : ℕ) (e : d ≡ g) (q : p ≡ next s o) where
      stands_short : length s < p → stands s g o ≡ false
      unfolding both
      stands_short l = simp (lt-ltb _ _ h, ← ed, eq-eqb _ _ e, cut_body span s o (omega arith))

      stands_whole : 0 < g → p ≤ length s → stands s g o ≡ true
      unfolding both
      stands_whole n l =
          simp (lt-ltb _ _ h, ← ed, eq-eqb _ _ e, uncut span s o (group_span (byte_at s o) g (sym ed ∙ e) n) (omega arith))

-- the offset past what stands is not 0
stood_span : (s : List ℕ) (o : ℕ) → stands s 5 o ≡ true → 0 < next s o
unfolding both
stood_span s o e = go (ltb o (length s)) refl (in_group s 5 o) refl (cut s o) refl
  where
    go : (a : Bool) → ltb o (length s) ≡ a → (b : Bool) → in_group s 5 o ≡ b → (c : Bool) → cut s o ≡ c → 0 < next s o
    go true h true g false q = omega (arith, uncut_span span s o q)
    go true h true g true q = let y : false ≡ true = simp (h, g, q) at e in impossible cc
    go true h false g c q = let y : false ≡ true = simp (h, g) at e in impossible cc
    go false h b g c q = let y : false ≡ true = simp h at e in impossible cc

module _ (s : List ℕ) (o : ℕ) where
  no_end : stands s 5 o ≡ false → 0 ≡ step_end s o
  unfolding step_end
  no_end e = simp e

  no_cell : stands s 3 o ≡ false → None ≡ cell_found s o
  unfolding cell_found
  no_cell e = simp e

  pub end_past : length s ≤ o → 0 ≡ step_end s o
  end_past h = no_end (stands_past s 5 o h)

  pub cell_past : length s ≤ o → None ≡ cell_found s o
  cell_past h = no_cell (stands_past s 3 o h)

  module _ (d : ℕ) (h : o < length s) (ed : d ≡ group (byte_at s o)) where
    pub end_other : (d ≡ 5 → ⊥) → 0 ≡ step_end s o
    end_other n = no_end (stands_other s 5 o d h ed n)

    pub cell_other : (d ≡ 3 → ⊥) → None ≡ cell_found s o
    cell_other n = no_cell (stands_other s 3 o d h ed n)

    module _ (p : ℕ) (q : p ≡ next s o) where
      pub end_short : d ≡ 5 → length s < p → 0 ≡ step_end s o
      end_short e l = no_end (stands_short s 5 o d h ed p e q l)

      pub cell_short : d ≡ 3 → length s < p → None ≡ cell_found s o
      cell_short e l = no_cell (stands_short s 3 o d h ed p e q l)

      module _ (l : p ≤ length s) where
        pub end_there : d ≡ 5 → p ≡ step_end s o
        unfolding step_end
        end_there e = simp (stands_whole s 5 o d h ed p e q (omega arith) l, q)

        pub cell_there : (x : Declared) → d ≡ 3 → x ≡ declared_at s o → Some x ≡ cell_found s o
        unfolding cell_found
        cell_there x e ex = simp (stands_whole s 3 o d h ed p e q (omega arith) l, ex)

-- a step stands where its end is not 0
module _ (s : List ℕ) (o e : ℕ) (q : e ≡ step_end s o) where
  pub step_none : e ≡ 0 → None ≡ step_found s o
  unfolding step_found step_end both
  step_none z = go (stands s 5 o) refl
    where
      go : (t : Bool) → stands s 5 o ≡ t → None ≡ step_found s o
      go true h = absurd (omega (arith, (simp h at q), stood_span s o h))
      go false h = simp h

  pub step_some : (e ≡ 0 → ⊥) → (p : Step) → p ≡ step_at s o → Some (p, e) ≡ step_found s o
  unfolding step_found step_end
  step_some z p ep = go (stands s 5 o) refl
    where
      go : (t : Bool) → stands s 5 o ≡ t → Some (p, e) ≡ step_found s o
      go true h = let n : e ≡ next s o = simp h at q in simp (h, ep, n)
      go false h = let n : e ≡ 0 = simp h at q in absurd (z n)

  pub step_inside : (e ≡ 0 → ⊥) → o < length s
  unfolding step_end both
  step_inside z = go (ltb o (length s)) refl
    where
      go : (t : Bool) → ltb o (length s) ≡ t → o < length s
      go true h = ltb-true _ _ h
      go false h = let n : e ≡ 0 = simp h at q in absurd (z n)

  -- its kind is a step's
  pub step_kind : (e ≡ 0 → ⊥) → (64 ≤ byte_at s o) × (byte_at s o ≤ 75)
  unfolding step_end both
  step_kind z = go (ltb o (length s)) refl (in_group s 5 o) refl
    where
      go : (a : Bool) → ltb o (length s) ≡ a → (b : Bool) → in_group s 5 o ≡ b → (64 ≤ byte_at s o) × (byte_at s o ≤ 75)
      go true h true g = is_step (byte_at s o) (eqb-true _ _ g)
      go true h false g = let n : e ≡ 0 = simp (h, g) at q in absurd (z n)
      go false h b g = let n : e ≡ 0 = simp h at q in absurd (z n)

pub ruleset found = (end_past, cell_past, end_other, cell_other, end_short, cell_short, end_there, cell_there, step_none, step_some, step_inside)

-- the offset past a step that was found
found_next : (s : List ℕ) (o n : ℕ) (p : Step) (x : StepAt) → x ≡ step_found s o → x ≡ Some (p, n) → (o < n) × (n ≤ length s)
unfolding step_found both
found_next s o n p x ex e = go (ltb o (length s)) refl (in_group s 5 o) refl (cut s o) refl
  where
    go : (a : Bool) → ltb o (length s) ≡ a → (b : Bool) → in_group s 5 o ≡ b → (c : Bool) → cut s o ≡ c → (o < n) × (n ≤ length s)
    go true h true g false q =
        let z : next s o ≡ n = (same_found (sym (simp (h, g, q) at ex) ∙ e)).1 in
        (omega (arith, uncut_span span s o q), omega (arith, uncut_inside span s o q))
    go true h true g true q = none_found (sym (simp (h, g, q) at ex) ∙ e)
    go true h false g c q = none_found (sym (simp (h, g) at ex) ∙ e)
    go false h b g c q = none_found (sym (simp h at ex) ∙ e)

module _ (s : List ℕ) (o n : ℕ) (p : Step) (x : StepAt) (ex : x ≡ step_found s o) (e : x ≡ Some (p, n)) where
  pub found_inside : n ≤ length s
  found_inside = (found_next s o n p x ex e).1

  pub found_falls : length s - n < length s - o
  found_falls = let h = found_next s o n p x ex e in omega arith

pub ruleset found_steps = (found_inside, found_falls)
