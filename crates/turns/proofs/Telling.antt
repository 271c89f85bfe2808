-- Laws of the step at an offset, told apart by its kind, for the code.
--     targets       the register that names the cell which it reaches
--     throughs      the same of a step that was told apart
--     tells         what it does
-- Assumes nothing.
use mathlib.Core.Path.{◌≡◌, refl, sym, ◌∙◌}
use mathlib.Core.List.{List}
use Prim.Native.Nat.{ℕ, zero, suc, ◌+◌, ◌-◌, ◌<◌, ◌≤◌}
use native.Mathlib.Omega.{arith}
use Rattle.labels.specs.declared.Label.{Label}
use Rattle.labels.specs.Labels.{label}
use Rattle.book.specs.declared.Step.{Step}
use Rattle.book.specs.declared.Step.TheVariants.{Put, Name, Code, Add, New, Read, Write, Relabel, Start, Exec, Choose}
use Rattle.book.specs.Records.{byte_at, number_at}
use Rattle.book.specs.Book.{step_at}
use Rattle.book.proofs.Decoded.{is_put, is_name, is_code, is_add, is_new, is_read, is_write, is_relabel, is_lower, is_start, is_exec, choose_past}
use Rattle.machine.specs.Histories.{sources}
use Rattle.machine.specs.Acts.{zero_with}
use Rattle.acts.specs.declared.Stored.{Stored}
use Rattle.acts.specs.declared.Near.{Near}
use Rattle.acts.specs.declared.Act.{Act}
use Rattle.acts.specs.declared.Act.TheVariants.{Give}
use Rattle.acts.specs.Views.{stored_of, register_in, nearby, give_sort, lower_sort, store_sort, create_sort, launch_sort}
use Rattle.turns.specs.Turns.{target_by, target_in, Takes, Gives, Changes, Launches}
use Rattle.turns.proofs.Taking.{as_told, put_is, name_is, code_is}

-- a kind below 69, one of five
data First (k : ℕ) : Type 0 where
  put : k ≡ 64 → First k
  name : k ≡ 65 → First k
  code : k ≡ 66 → First k
  add : k ≡ 67 → First k
  new : k ≡ 68 → First k

first : (k : ℕ) → 64 ≤ k → k < 69 → First k
first k a b = go (k - 64) refl
  where
    go : (i : ℕ) → k - 64 ≡ i → First k
    go zero e = put (omega arith)
    go (suc zero) e = name (omega arith)
    go (suc (suc zero)) e = code (omega arith)
    go (suc (suc (suc zero))) e = add (omega arith)
    go (suc (suc (suc (suc zero)))) e = new (omega arith)
    go (suc (suc (suc (suc (suc i))))) e = absurd (omega arith)

-- a kind from 72 on that is not exec
data Other (k : ℕ) : Type 0 where
  lower : k ≡ 72 → Other k
  start : k ≡ 73 → Other k
  choose : 74 < k → Other k

other : (k : ℕ) → 72 ≤ k → (k ≡ 74 → ⊥) → Other k
other k a b = go (k - 72) refl
  where
    go : (i : ℕ) → k - 72 ≡ i → Other k
    go zero e = lower (omega arith)
    go (suc zero) e = start (omega arith)
    go (suc (suc zero)) e = absurd (b (omega arith))
    go (suc (suc (suc i))) e = choose (omega arith)

-- of the kinds that give, read is the last; of those that change a cell, relabel the second
last : {k : ℕ} → Gives k → (k ≡ 64 → ⊥) → (k ≡ 65 → ⊥) → (k ≡ 66 → ⊥) → (k ≡ 67 → ⊥) → k ≡ 69
last {k} g a b c d = go (k - 64) refl
  where
    go : (i : ℕ) → k - 64 ≡ i → k ≡ 69
    go zero e = absurd (a (omega (arith, g.from)))
    go (suc zero) e = absurd (b (omega arith))
    go (suc (suc zero)) e = absurd (c (omega arith))
    go (suc (suc (suc zero))) e = absurd (d (omega arith))
    go (suc (suc (suc (suc zero)))) e = absurd (g.no_new (omega arith))
    go (suc (suc (suc (suc (suc i))))) e = omega (arith, g.to)

second : {k : ℕ} → Changes k → (k ≡ 70 → ⊥) → k ≡ 71
second {k} g a = go (k - 70) refl
  where
    go : (i : ℕ) → k - 70 ≡ i → k ≡ 71
    go zero e = absurd (a (omega (arith, g.from)))
    go (suc i) e = omega (arith, g.to)

-- of those that start a job, choose is the last
third : {k : ℕ} → Launches k → (k ≡ 73 → ⊥) → (k ≡ 74 → ⊥) → 74 < k
third {k} g a b = go (k - 73) refl
  where
    go : (i : ℕ) → k - 73 ≡ i → 74 < k
    go zero e = absurd (a (omega (arith, g.from)))
    go (suc zero) e = absurd (b (omega arith))
    go (suc (suc i)) e = omega arith

below : (k b : ℕ) → k ≡ b → k < 70 → (k ≡ 69 → ⊥) → b < 69
below k b e l n = go (69 - b) refl
  where
    go : (i : ℕ) → 69 - b ≡ i → b < 69
    go zero q = absurd (n (omega arith))
    go (suc i) q = omega arith

-- k is the kind
module _ (s : List ℕ) (o : ℕ) (h : Label) (rs : List Stored) (x : Stored) (k : ℕ) (ek : k ≡ byte_at s o) where
  -- the step is q
  by_step : (q : Step) → q ≡ step_at s o → stored_of x ≡ target_in q h rs → stored_of x ≡ target_in (step_at s o) h rs
  by_step q e t = rw (← e) t

  module _ (z : stored_of x ≡ zero_with sources h) where
    pub target_none : 64 ≤ byte_at s o → k < 70 → (k ≡ 69 → ⊥) → stored_of x ≡ target_in (step_at s o) h rs
    unfolding target_by
    target_none a b c = go (first (byte_at s o) a (below k (byte_at s o) ek b c))
      where
        go : First (byte_at s o) → stored_of x ≡ target_in (step_at s o) h rs
        go (put e) = by_step _ (is_put s o _ refl _ refl e) z
        go (name e) = by_step _ (is_name s o _ refl _ refl e) z
        go (code e) = by_step _ (is_code s o _ refl _ refl e) z
        go (add e) = by_step _ (is_add s o _ refl _ refl _ refl e) z
        go (new e) = by_step _ (is_new s o _ refl _ refl _ refl e) z

    pub target_other : 72 ≤ k → (k ≡ 74 → ⊥) → stored_of x ≡ target_in (step_at s o) h rs
    unfolding target_by
    target_other a b = go (other (byte_at s o) (omega arith) (λ q. b (ek ∙ q)))
      where
        go : Other (byte_at s o) → stored_of x ≡ target_in (step_at s o) h rs
        go (lower e) = by_step _ (is_lower s o _ refl e) z
        go (start e) = by_step _ (is_start s o _ refl e) z
        go (choose l) = by_step _ (choose_past s o _ refl _ refl _ refl l) z

  module _ (w : ℕ) (ex : stored_of x ≡ register_in h rs w) where
    pub target_read : w ≡ byte_at s (o + 2) → k ≡ 69 → stored_of x ≡ target_in (step_at s o) h rs
    unfolding target_by
    target_read ew e = by_step _ (is_read s o _ refl w ew (sym ek ∙ e)) ex

    module _ (ew : w ≡ byte_at s (o + 1)) where
      pub target_change : 70 ≤ k → k < 72 → stored_of x ≡ target_in (step_at s o) h rs
      unfolding target_by
      target_change a b = go (byte_at s o - 70) refl
        where
          go : (i : ℕ) → byte_at s o - 70 ≡ i → stored_of x ≡ target_in (step_at s o) h rs
          go zero e = by_step _ (is_write s o w ew _ refl (omega arith)) ex
          go (suc i) e = by_step _ (is_relabel s o w ew _ refl (omega arith)) ex

      pub target_exec : k ≡ 74 → stored_of x ≡ target_in (step_at s o) h rs
      unfolding target_by
      target_exec e = by_step _ (is_exec s o w ew (sym ek ∙ e)) ex

pub ruleset targets = (target_none, target_other, target_read, target_change, target_exec)

-- a step of a job at label l, with source h and registers rs; v is what it looks at, and r or x the byte behind its kind
module _ (s : List ℕ) (o : ℕ) (l h : Label) (rs : List Stored) (v : Near) (x : Act) (k : ℕ) (ek : k ≡ byte_at s o) where
  told : (n : ℕ) (q : Step) → q ≡ step_at s o → Takes n (nearby v) q l h rs x → Takes n (nearby v) (step_at s o) l h rs x
  told n q e t = as_told n (nearby v) (step_at s o) q l h rs x e t

  module _ (r : ℕ) (er : r ≡ byte_at s (o + 1)) where
    pub tell_put : (n : ℕ) → n ≡ number_at s (o + 2) → k ≡ 64 → x ≡ Give r (record { number = n; kind = 0; source = h })
        → Takes give_sort (nearby v) (step_at s o) l h rs x
    tell_put n en e ex = told give_sort (Put r n) (is_put s o r er n en (sym ek ∙ e)) (rw ex (put_is l h rs v r n))

    pub tell_start : k ≡ 73 → Takes launch_sort (nearby v) (Start r) l h rs x → Takes launch_sort (nearby v) (step_at s o) l h rs x
    tell_start e t = told launch_sort (Start r) (is_start s o r er (sym ek ∙ e)) t

    pub tell_exec : k ≡ 74 → Takes launch_sort (nearby v) (Exec r) l h rs x → Takes launch_sort (nearby v) (step_at s o) l h rs x
    tell_exec e t = told launch_sort (Exec r) (is_exec s o r er (sym ek ∙ e)) t

    pub tell_lower : k ≡ 72 → Takes lower_sort (nearby v) (Step.Lower (label r)) l h rs x → Takes lower_sort (nearby v) (step_at s o) l h rs x
    tell_lower e t = told lower_sort (Step.Lower (label r)) (is_lower s o r er (sym ek ∙ e)) t

    module _ (y : ℕ) (ey : y ≡ byte_at s (o + 2)) where
      pub tell_name : k ≡ 65 → x ≡ Give r (record { number = y; kind = 1; source = h }) → Takes give_sort (nearby v) (step_at s o) l h rs x
      tell_name e ex = told give_sort (Name r y) (is_name s o r er y ey (sym ek ∙ e)) (rw ex (name_is l h rs v r y))

      pub tell_code : k ≡ 66 → x ≡ Give r (record { number = y; kind = 2; source = h }) → Takes give_sort (nearby v) (step_at s o) l h rs x
      tell_code e ex = told give_sort (Code r y) (is_code s o r er y ey (sym ek ∙ e)) (rw ex (code_is l h rs v r y))

      pub tell_add : (z : ℕ) → z ≡ byte_at s (o + 3) → k ≡ 67 → Takes give_sort (nearby v) (Add r y z) l h rs x → Takes give_sort (nearby v) (step_at s o) l h rs x
      tell_add z ez e t = told give_sort (Add r y z) (is_add s o r er y ey z ez (sym ek ∙ e)) t

      pub tell_read : Gives (byte_at s o) → (k ≡ 64 → ⊥) → (k ≡ 65 → ⊥) → (k ≡ 66 → ⊥) → (k ≡ 67 → ⊥)
          → Takes give_sort (nearby v) (Read r y) l h rs x → Takes give_sort (nearby v) (step_at s o) l h rs x
      tell_read g a b c d t = told give_sort (Read r y) (is_read s o r er y ey (last g (λ q. a (ek ∙ q)) (λ q. b (ek ∙ q)) (λ q. c (ek ∙ q)) (λ q. d (ek ∙ q)))) t

      pub tell_new : (z : ℕ) → z ≡ byte_at s (o + 3) → k ≡ 68 → Takes create_sort (nearby v) (New r y z) l h rs x → Takes create_sort (nearby v) (step_at s o) l h rs x
      tell_new z ez e t = told create_sort (New r y z) (is_new s o r er y ey z ez (sym ek ∙ e)) t

      pub tell_choose : (z : ℕ) → z ≡ byte_at s (o + 3) → Launches (byte_at s o) → (k ≡ 73 → ⊥) → (k ≡ 74 → ⊥)
          → Takes launch_sort (nearby v) (Choose r y z) l h rs x → Takes launch_sort (nearby v) (step_at s o) l h rs x
      tell_choose z ez g a b t = told launch_sort (Choose r y z) (choose_past s o r er y ey z ez (third g (λ q. a (ek ∙ q)) (λ q. b (ek ∙ q)))) t

      pub tell_write : k ≡ 70 → Takes store_sort (nearby v) (Write r y) l h rs x → Takes store_sort (nearby v) (step_at s o) l h rs x
      tell_write e t = told store_sort (Write r y) (is_write s o r er y ey (sym ek ∙ e)) t

      pub tell_relabel : Changes (byte_at s o) → (k ≡ 70 → ⊥) → Takes store_sort (nearby v) (Relabel r (label y)) l h rs x → Takes store_sort (nearby v) (step_at s o) l h rs x
      tell_relabel g e t = told store_sort (Relabel r (label y)) (is_relabel s o r er y ey (second g (λ q. e (ek ∙ q)))) t

pub ruleset tells = (tell_put, tell_start, tell_exec, tell_choose, tell_lower, tell_name, tell_code, tell_add, tell_read, tell_new, tell_write, tell_relabel)

-- what the target is, for a step that was told apart
module _ (s : List ℕ) (o : ℕ) (h : Label) (rs : List Stored) (u : Stored) (eu : stored_of u ≡ target_in (step_at s o) h rs) (k : ℕ) (ek : k ≡ byte_at s o) where
  is_target : (q : Step) → q ≡ step_at s o → stored_of u ≡ target_in q h rs
  is_target q e = rw e eu

  module _ (r : ℕ) (er : r ≡ byte_at s (o + 1)) where
    pub exec_through : k ≡ 74 → stored_of u ≡ register_in h rs r
    unfolding target_by
    exec_through e = is_target _ (is_exec s o r er (sym ek ∙ e))

    module _ (y : ℕ) (ey : y ≡ byte_at s (o + 2)) where
      pub read_through : Gives (byte_at s o) → (k ≡ 64 → ⊥) → (k ≡ 65 → ⊥) → (k ≡ 66 → ⊥) → (k ≡ 67 → ⊥)
          → stored_of u ≡ register_in h rs y
      unfolding target_by
      read_through g a b c d = is_target _ (is_read s o r er y ey (last g (λ q. a (ek ∙ q)) (λ q. b (ek ∙ q)) (λ q. c (ek ∙ q)) (λ q. d (ek ∙ q))))

      pub write_through : k ≡ 70 → stored_of u ≡ register_in h rs r
      unfolding target_by
      write_through e = is_target _ (is_write s o r er y ey (sym ek ∙ e))

      pub relabel_through : Changes (byte_at s o) → (k ≡ 70 → ⊥) → stored_of u ≡ register_in h rs r
      unfolding target_by
      relabel_through g e = is_target _ (is_relabel s o r er y ey (second g (λ q. e (ek ∙ q))))

pub ruleset throughs = (exec_through, read_through, write_through, relabel_through)
