-- Laws of a stage: a sweep over the records from an offset on, as a loop goes through it. z is what the whole sweep gives.
--     sweep_end           at the end of the book
--     sweep_bad           a record at fault
--     sweep_past          past a record that is whole and not at fault
--     sweep_on            the same where all records are whole
--     Cleared, cleared    of a stage that finds no fault: each record, and the records behind it
-- Assumes nothing.
use mathlib.Core.Path.{◌≡◌, refl, sym, ◌∙◌}
use mathlib.Core.Bool.{Bool, true, false}
use mathlib.Core.List.{List, [], ◌∷◌}
use Prim.Native.Nat.{ℕ, ◌≤◌, ◌<◌}
use lib.Dec.{ltb}
use lib.ListN.{length}
use borrow.Author.Tests.{ltb-true, ltb-false}
use Rattle.labels.proofs.Impossible.{impossible}
use Rattle.book.specs.Missing.{Fault}
use Rattle.std.specs.Prelude.{None, Some}
use Rattle.book.specs.Control.{sweep}
use Rattle.book.specs.Records.{next, cut, records_from}
use Rattle.book.specs.Asked.{Whole}
use Rattle.book.proofs.Every.{All}
use Rattle.book.proofs.Records.{records_end, records_more, walk}

module _ {S : Type 0} (bad : S → ℕ → Bool) (on : S → ℕ → S) (end : S → Fault) (s : List ℕ) (t : S) (o : ℕ) (z : Fault)
    (inv : sweep bad on end t (records_from s o) ≡ z) where
  pub sweep_end : length s ≤ o → end t ≡ z
  unfolding sweep
  sweep_end h = simp (records_end s o h) at inv

  pub sweep_past : o < length s → cut s o ≡ false → bad t o ≡ false → sweep bad on end (on t o) (records_from s (next s o)) ≡ z
  unfolding sweep
  sweep_past h k b = simp (records_more s o h k, sweep, b) at inv

  module _ (w : Whole s o) (h : o < length s) where
    pub sweep_bad : bad t o ≡ true → Some o ≡ z
    unfolding sweep
    sweep_bad b = simp ((walk s o w h).list, sweep, b) at inv

    pub sweep_on : bad t o ≡ false → sweep bad on end (on t o) (records_from s (next s o)) ≡ z
    sweep_on b = sweep_past h (walk s o w h).uncut b

pub somewhere : {X : Type 0} {o : ℕ} → Some o ≡ None → X
somewhere e = impossible cc

module _ {S : Type 0} (bad : S → ℕ → Bool) (on : S → ℕ → S) (end : S → Fault) (s : List ℕ) where
  -- the record at o is not at fault, and none behind it is
  pub record Cleared (o : ℕ) : Type 0 where
    pub before : S
    pub fine : bad before o ≡ false
    pub whole : Whole s (next s o)
    pub rest : sweep bad on end (on before o) (records_from s (next s o)) ≡ None

  clear : (os : List ℕ) (t : S) (o : ℕ) → records_from s o ≡ os → Whole s o → sweep bad on end t (records_from s o) ≡ None → All Cleared os
  clear [] t o e w h = tt
  clear (x ∷ xs) t o e w h = go (ltb o (length s)) refl (bad t o) refl (clear xs (on t o) (next s o))
    where
      go : (a : Bool) → ltb o (length s) ≡ a → (b : Bool) → bad t o ≡ b
          → (records_from s (next s o) ≡ xs → Whole s (next s o) → sweep bad on end (on t o) (records_from s (next s o)) ≡ None → All Cleared xs)
          → All Cleared (x ∷ xs)
      go false l b q r =
          let y : x ∷ xs ≡ [] = sym e ∙ records_end s o (ltb-false _ _ l) in
          impossible cc
      go true l true q r = somewhere (sweep_bad bad on end s t o None h w (ltb-true _ _ l) q)
      go true l false q r =
          let k = walk s o w (ltb-true _ _ l) in
          let f = sweep_on bad on end s t o None h w (ltb-true _ _ l) q in
          let y : x ∷ xs ≡ o ∷ records_from s (next s o) = sym e ∙ k.list in
          let i : o ≡ x = cc in
          let c : Cleared o = record { before = t; fine = q; whole = k.rest; rest = f } in
          (rw i at c, r (cc) k.rest f)

  pub cleared : (t : S) (o : ℕ) → Whole s o → sweep bad on end t (records_from s o) ≡ None → All Cleared (records_from s o)
  cleared t o w h = clear (records_from s o) t o refl w h
