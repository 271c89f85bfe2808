-- Laws of refusals 2, 3, 4 and 6, as their code goes through the records. z is what the whole stage gives, os the records that are left.
--     cuts                              a record is cut, by the offset past it
--     sweep_none, sweep_hit, sweep_rest   of any stage: no record is left, one at fault, one that is not
--     orders, tallies, names            the same of refusals 3, 4 and 6
-- Assumes nothing.
use mathlib.Core.Path.{◌≡◌, sym, ◌∙◌}
use mathlib.Core.Bool.{Bool, true, false}
use mathlib.Core.List.{List, [], ◌∷◌}
use Prim.Native.Nat.{ℕ, ◌+◌, min}
use native.Mathlib.Omega.{arith}
use lib.Dec.{eqb, ltb}
use lib.ListN.{length}
use borrow.Author.Tests.{eq-eqb, ne_eqb}
use Rattle.std.specs.Prelude.{None, Some}
use Rattle.book.specs.Missing.{Fault}
use Rattle.book.specs.declared.Tally.{Tally}
use Rattle.book.specs.Control.{either, sweep}
use Rattle.book.specs.Kinds.{span, group}
use Rattle.book.specs.Spans.{cut_by}
use Rattle.book.specs.Records.{byte_at, next, cut}
use Rattle.book.specs.Refusals.{in_order, misplaced, counted, too_many, beyond, dangling, dangles}
use Rattle.book.proofs.Spans.{cut_kind}

-- 2
module _ (s : List ℕ) (o p : ℕ) (q : p ≡ next s o) where
  pub cut_kindless : p ≡ o → eqb p o ≡ cut s o
  cut_kindless e = eq-eqb _ _ e ∙ sym (cut_kind span s o (omega arith))

  pub cut_short : (p ≡ o → ⊥) → ltb (length s) p ≡ cut s o
  unfolding cut_by either
  cut_short n = let k : (span (byte_at s o) ≡ 0 → ⊥) = λ e. n (omega arith) in rw q (simp (ne_eqb _ _ k))

pub ruleset cuts = (cut_kindless, cut_short)

module _ {S : Type 0} (bad : S → ℕ → Bool) (on : S → ℕ → S) (end : S → Fault) (t : S) (os : List ℕ) (z : Fault) (inv : sweep bad on end t os ≡ z) where
  pub sweep_none : os ≡ [] → end t ≡ z
  unfolding sweep
  sweep_none e = simp (e, sweep) at inv

  module _ (o : ℕ) (rest : List ℕ) (e : os ≡ o ∷ rest) where
    pub sweep_hit : bad t o ≡ true → Some o ≡ z
    unfolding sweep
    sweep_hit b = simp (e, sweep, b) at inv

    pub sweep_rest : bad t o ≡ false → sweep bad on end (on t o) rest ≡ z
    unfolding sweep
    sweep_rest b = simp (e, sweep, b) at inv

-- 3
module _ (s : List ℕ) (p : ℕ) (os : List ℕ) (z : Fault) (inv : misplaced s p os ≡ z) where
  pub order_none : os ≡ [] → p ≡ 4 → None ≡ z
  unfolding misplaced
  order_none e h = simp (eq-eqb _ _ h) at (sweep_none _ _ _ p os z inv e)

  pub order_blockless : os ≡ [] → (p ≡ 4 → ⊥) → Some (length s) ≡ z
  unfolding misplaced
  order_blockless e h = simp (ne_eqb _ _ h) at (sweep_none _ _ _ p os z inv e)

  module _ (o : ℕ) (rest : List ℕ) (e : os ≡ o ∷ rest) (g : ℕ) (b : Bool) (eg : g ≡ group (byte_at s o)) (eb : b ≡ in_order p g) where
    pub order_hit : b ≡ false → Some o ≡ z
    unfolding misplaced
    order_hit h = sweep_hit _ _ _ p os z inv o rest e (simp (← eg, ← eb, h))

    pub order_rest : (q : ℕ) → b ≡ true → q ≡ min g 4 → misplaced s q rest ≡ z
    unfolding misplaced
    order_rest q h eq = rw (eq, eg) (sweep_rest _ _ _ p os z inv o rest e (simp (← eg, ← eb, h)))

pub ruleset orders = (order_none, order_blockless, order_hit, order_rest)

-- 4
module _ (s : List ℕ) (n : Tally) (os : List ℕ) (z : Fault) (inv : beyond s n os ≡ z) where
  pub count_none : os ≡ [] → None ≡ z
  unfolding beyond
  count_none e = sweep_none _ _ _ n os z inv e

  module _ (o : ℕ) (rest : List ℕ) (e : os ≡ o ∷ rest) (g : ℕ) (m : Tally) (b : Bool) (eg : g ≡ group (byte_at s o)) (em : m ≡ counted n g)
      (eb : b ≡ too_many m) where
    pub count_hit : b ≡ true → Some o ≡ z
    unfolding beyond
    count_hit h = sweep_hit _ _ _ n os z inv o rest e (simp (← eg, ← em, ← eb, h))

    pub count_rest : b ≡ false → beyond s m rest ≡ z
    unfolding beyond
    count_rest h = rw (em, eg) (sweep_rest _ _ _ n os z inv o rest e (simp (← eg, ← em, ← eb, h)))

pub ruleset tallies = (count_none, count_hit, count_rest)

-- 6
module _ (f : ℕ → Bool) (cells blocks : ℕ) (s : List ℕ) (n : ℕ) (os : List ℕ) (z : Fault) (inv : dangles f cells blocks s n os ≡ z) where
  pub name_none : os ≡ [] → None ≡ z
  unfolding dangles
  name_none e = sweep_none _ _ _ n os z inv e

  module _ (o : ℕ) (rest : List ℕ) (e : os ≡ o ∷ rest) (b : Bool) (eb : b ≡ dangling f cells blocks s n o) where
    pub name_hit : b ≡ true → Some o ≡ z
    unfolding dangles
    name_hit h = sweep_hit _ _ _ n os z inv o rest e (sym eb ∙ h)

    module _ (h : b ≡ false) (g : ℕ) (eg : g ≡ group (byte_at s o)) where
      pub name_shape : g ≡ 2 → dangles f cells blocks s (n + 1) rest ≡ z
      unfolding dangles
      name_shape d = simp (← eg, eq-eqb _ _ d) at (sweep_rest _ _ _ n os z inv o rest e (sym eb ∙ h))

      pub name_other : (g ≡ 2 → ⊥) → dangles f cells blocks s n rest ≡ z
      unfolding dangles
      name_other d = simp (← eg, ne_eqb _ _ d) at (sweep_rest _ _ _ n os z inv o rest e (sym eb ∙ h))

pub ruleset names = (name_none, name_hit, name_shape, name_other)
