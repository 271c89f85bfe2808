-- Laws of the cell that a step reaches.
--     target_number      its number is that of the register that names it
--     reached_same       it is the same cell, whatever the job's label, block and position
-- Assumes nothing.
use mathlib.Core.Path.{◌≡◌, refl, sym, ap, ◌∙◌}
use mathlib.Core.List.{List}
use mathlib.Core.Option.{Option, none, some}
use Prim.Native.Nat.{ℕ}
use Rattle.labels.specs.declared.Label.{Label}
use Rattle.labels.specs.Labels.{label}
use Rattle.book.specs.declared.Step.{Step}
use Rattle.book.specs.Parts.{parts_of}
use Rattle.machine.specs.States.{Traced}
use Rattle.machine.specs.Records.{number_of}
use Rattle.book.proofs.Decoded.{number_is}
use Rattle.acts.specs.declared.Stored.{Stored}
use Rattle.acts.specs.Views.{stored_of, actor}
use Rattle.turns.specs.Turns.{target_through, target_by, target_in, reached_by, reached_in}

-- u is the register that names the cell which step p reaches
module _ (p : Step) (h : Label) (rs : List Stored) where
  pub target_number : (u : Stored) → stored_of u ≡ target_in p h rs → u.number ≡ reached_in p h rs
  target_number u e = sym (number_is u.kind u.number) ∙ ap (λ (t : Traced Label). number_of t.value) e

  pub reached_same : (l : Label) (b i : ℕ) → reached_by p (actor l h rs b i) ≡ reached_in p h rs
  unfolding target_by
  reached_same l b i = go (parts_of p).through
    where
      go : (w : Option ℕ) → number_of (target_through w (actor l h rs b i)).value ≡ number_of (target_through w (actor (label 0) h rs 0 0)).value
      go none = refl
      go (some w) = refl
