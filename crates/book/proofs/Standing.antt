-- What a call for the step at an offset found, in a stretch that is whole from there on.
--     Stood, there      it found the step that stands there, and the offset past it
--     no                it found none: no step stands there
-- Assumes nothing.
use mathlib.Core.Path.{◌≡◌, refl, sym, ◌∙◌}
use mathlib.Core.Bool.{Bool, true, false}
use mathlib.Core.List.{List}
use Prim.Native.Nat.{ℕ, ◌<◌}
use lib.ListN.{length}
use borrow.Author.Tests.{lt-ltb, eq-eqb, eqb-true}
use Rattle.book.specs.declared.Step.{Step}
use Rattle.book.specs.Missing.{StepAt}
use Rattle.std.specs.Prelude.{None, Some}
use Rattle.book.specs.Control.{both}
use Rattle.book.specs.Kinds.{group}
use Rattle.book.specs.Records.{byte_at, next, in_group}
use Rattle.book.specs.Book.{step_at}
use Rattle.book.specs.Stretch.{step_found}
use Rattle.book.specs.Asked.{Whole}
use Rattle.book.proofs.Pairs.{same_found, none_found}
use Rattle.book.proofs.Records.{walk}

pub record Stood (w : List ℕ) (o : ℕ) (p : Step) (n : ℕ) : Type 0 where
  pub kind : group (byte_at w o) ≡ 5
  pub is : p ≡ step_at w o
  pub on : n ≡ next w o

module _ (w : List ℕ) (o : ℕ) (whole : Whole w o) (h : o < length w) (x : StepAt) (ex : x ≡ step_found w o) where
  pub no : x ≡ None → group (byte_at w o) ≡ 5 → ⊥
  unfolding step_found both
  no e g =
      let k : in_group w 5 o ≡ true = eq-eqb _ _ g in
      none_found (sym e ∙ simp (lt-ltb _ _ h, k, (walk w o whole h).uncut) at ex)

  pub there : (p : Step) (n : ℕ) → x ≡ Some (p, n) → Stood w o p n
  unfolding step_found both
  there p n e = go (in_group w 5 o) refl
    where
      go : (b : Bool) → in_group w 5 o ≡ b → Stood w o p n
      go true k =
          let y : (step_at w o ≡ p) × (next w o ≡ n) = same_found (sym (simp (lt-ltb _ _ h, k, (walk w o whole h).uncut) at ex) ∙ e) in
          record { kind = eqb-true _ _ k; is = sym y.0; on = sym y.1 }
      go false k =
          none_found (sym (simp (lt-ltb _ _ h, k) at ex) ∙ e)
