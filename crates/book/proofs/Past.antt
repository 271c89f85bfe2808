-- Laws of the groups' records: past one record, and past a run of steps.
--     those_hit, those_miss         past one record
--     PastSteps, past_steps         past the steps that stand from an offset on
--     those_past                    which leaves every other group as it is
-- Assumes nothing.
use mathlib.Core.Path.{◌≡◌, refl, sym, ap, ◌∙◌}
use mathlib.Core.Bool.{Bool, true, false}
use mathlib.Core.List.{List, [], ◌∷◌, ◌++◌}
use Prim.Native.Nat.{ℕ, ◌+◌, ◌≤◌, ◌<◌}
use native.Mathlib.Omega.{arith}
use lib.Dec.{eqb, ltb}
use lib.ListN.{length}
use borrow.Author.Tests.{eq-eqb, ne_eqb, eqb-true, eqb-false, ltb-true, ltb-false}
use Rattle.labels.proofs.Impossible.{impossible}
use Rattle.book.specs.Control.{those, while}
use Rattle.book.specs.Kinds.{group}
use Rattle.book.specs.Records.{byte_at, next, records_from, in_group}
use Rattle.book.specs.Book.{steps_from}
use Rattle.book.specs.Outline.{steps_end}
use Rattle.book.specs.Asked.{Whole}
use Rattle.book.proofs.Records.{walk}
use Rattle.book.proofs.Steps.{steps_end_lem, steps_none, steps_more, end_more, end_none}

module _ (s : List ℕ) (g o : ℕ) (w : Whole s o) (h : o < length s) where
  pub those_hit : group (byte_at s o) ≡ g → those (in_group s g) (records_from s o) ≡ o ∷ those (in_group s g) (records_from s (next s o))
  unfolding those
  those_hit e = simp ((walk s o w h).list, those, eq-eqb _ _ e)

  pub those_miss : (group (byte_at s o) ≡ g → ⊥) → those (in_group s g) (records_from s o) ≡ those (in_group s g) (records_from s (next s o))
  unfolding those
  those_miss n = simp ((walk s o w h).list, those, ne_eqb _ _ n)

pub record PastSteps (s : List ℕ) (a : ℕ) : Type 0 where
  pub bytes : length (steps_from s a) + a ≤ steps_end s a
  pub inside : steps_end s a ≤ length s
  pub whole : Whole s (steps_end s a)
  pub list : records_from s a ≡ steps_from s a ++ records_from s (steps_end s a)

-- no step stands at a
stay : (s : List ℕ) (a : ℕ) → Whole s a → a ≤ length s → steps_from s a ≡ [] → PastSteps s a
stay s a w h e =
    let q = end_none s a e in
    record { bytes = rw (q, e) (omega arith); inside = rw q h; whole = rw q w; list = rw (q, e) refl }

past : (s : List ℕ) (os : List ℕ) (a : ℕ) → records_from s a ≡ os → Whole s a → a ≤ length s → PastSteps s a
past s [] a e w h = go (ltb a (length s)) refl
  where
    go : (b : Bool) → ltb a (length s) ≡ b → PastSteps s a
    go false l = stay s a w h (steps_end_lem s a (ltb-false _ _ l))
    go true l =
        let x : [] ≡ a ∷ records_from s (next s a) = sym e ∙ (walk s a w (ltb-true _ _ l)).list in
        impossible cc
past s (o ∷ os) a e w h = go (ltb a (length s)) refl (eqb (group (byte_at s a)) 5) refl (past s os (next s a))
  where
    go : (b : Bool) → ltb a (length s) ≡ b → (d : Bool) → eqb (group (byte_at s a)) 5 ≡ d
        → (records_from s (next s a) ≡ os → Whole s (next s a) → next s a ≤ length s → PastSteps s (next s a))
        → PastSteps s a
    go false l d q r = stay s a w h (steps_end_lem s a (ltb-false _ _ l))
    go true l false q r = stay s a w h (steps_none s a w (ltb-true _ _ l) (eqb-false _ _ q))
    go true l true q r =
        let i : a < length s = ltb-true _ _ l in
        let k = walk s a w i in
        let t : group (byte_at s a) ≡ 5 = eqb-true _ _ q in
        let x : o ∷ os ≡ a ∷ records_from s (next s a) = sym e ∙ k.list in
        let p = r (cc) k.rest k.inside in
        let m = steps_more s a w i t in
        let n = end_more s a w i t in
        record {
          bytes = rw (n, m) (omega (arith, p.bytes, k.spanned));
          inside = rw n p.inside;
          whole = rw n p.whole;
          list = k.list ∙ rw (n, m) (ap (λ (l : List ℕ). a ∷ l) p.list);
        }

pub past_steps : (s : List ℕ) (a : ℕ) → Whole s a → a ≤ length s → PastSteps s a
past_steps s a w h = past s (records_from s a) a refl w h

module _ (s : List ℕ) (g : ℕ) (n : g ≡ 5 → ⊥) where
  no_steps : (os rest : List ℕ) → those (in_group s g) (while (in_group s 5) os ++ rest) ≡ those (in_group s g) rest
  unfolding those while
  no_steps [] rest = refl
  no_steps (o ∷ os) rest = go (in_group s 5 o) refl (no_steps os rest)
    where
      skip : (l : List ℕ) → in_group s g o ≡ false → those (in_group s g) (o ∷ l) ≡ those (in_group s g) l
      skip l e = simp (those, e)

      go : (b : Bool) → in_group s 5 o ≡ b → those (in_group s g) (while (in_group s 5) os ++ rest) ≡ those (in_group s g) rest
          → those (in_group s g) (while (in_group s 5) (o ∷ os) ++ rest) ≡ those (in_group s g) rest
      go false e r = simp (while, e)
      go true e r =
          let m : in_group s g o ≡ false = ne_eqb _ _ (λ z. n (sym z ∙ eqb-true _ _ e)) in
          let k : while (in_group s 5) (o ∷ os) ≡ o ∷ while (in_group s 5) os = simp (while, e) in
          rw k (skip (while (in_group s 5) os ++ rest) m ∙ r)

  pub those_past : (a : ℕ) → Whole s a → a ≤ length s → those (in_group s g) (records_from s a) ≡ those (in_group s g) (records_from s (steps_end s a))
  unfolding steps_from
  those_past a w h =
      ap (those (in_group s g)) (past_steps s a w h).list ∙ no_steps (records_from s a) (records_from s (steps_end s a))
