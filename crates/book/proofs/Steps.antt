-- Laws of the steps that stand from an offset on.
--     steps_end_lem, steps_none, steps_more     none at the end of the book or before another record; else the first, and the rest
--     skip_more, skip_stop, skip_end            a loop past them: at o, n of those from a on lie behind
-- Assumes nothing.
use mathlib.Core.Path.{◌≡◌, sym, ap, ◌∙◌}
use mathlib.Core.List.{List, [], ◌∷◌}
use Prim.Native.Nat.{ℕ, ◌+◌, ◌≤◌, ◌<◌}
use native.Mathlib.Omega.{arith}
use lib.ListN.{length}
use borrow.Author.Tests.{eq-eqb, ne_eqb}
use Rattle.book.specs.declared.Skipped.{Skipped}
use Rattle.book.specs.Control.{while}
use Rattle.book.specs.Kinds.{group}
use Rattle.book.specs.Records.{byte_at, next}
use Rattle.book.specs.Book.{steps_from}
use Rattle.book.specs.Outline.{end_of, steps_end}
use Rattle.book.specs.Asked.{Whole, skipped}
use Rattle.book.proofs.Records.{records_end, walk}

module _ (s : List ℕ) (o : ℕ) where
  pub steps_end_lem : length s ≤ o → steps_from s o ≡ []
  unfolding steps_from while
  steps_end_lem h = simp (records_end s o h)

  module _ (w : Whole s o) (h : o < length s) where
    pub steps_none : (group (byte_at s o) ≡ 5 → ⊥) → steps_from s o ≡ []
    unfolding steps_from while
    steps_none n = simp ((walk s o w h).list, while, ne_eqb _ _ n)

    pub steps_more : group (byte_at s o) ≡ 5 → steps_from s o ≡ o ∷ steps_from s (next s o)
    unfolding steps_from while
    steps_more e = simp ((walk s o w h).list, while, eq-eqb _ _ e)

    pub end_more : group (byte_at s o) ≡ 5 → steps_end s o ≡ steps_end s (next s o)
    unfolding steps_end end_of
    end_more e = simp (steps_more e, end_of)

  pub end_none : steps_from s o ≡ [] → steps_end s o ≡ o
  unfolding steps_end end_of
  end_none e = simp e

-- a loop past the steps from a on has come to o, with n of them behind
pub record Skipping (s : List ℕ) (a o n : ℕ) : Type 0 where
  pub inside : o ≤ length s
  pub few : n + a ≤ o
  pub whole : Whole s o
  pub end : steps_end s o ≡ steps_end s a
  pub count : n + length (steps_from s o) ≡ length (steps_from s a)

module _ (s : List ℕ) (a o n : ℕ) (k : Skipping s a o n) where
  pub skip_more : (g p : ℕ) → o < length s → g ≡ group (byte_at s o) → g ≡ 5 → p ≡ next s o → Skipping s a p (n + 1)
  skip_more g p h e f q =
      let w = walk s o k.whole h in
      let i : group (byte_at s o) ≡ 5 = sym e ∙ f in
      let x : length (steps_from s o) ≡ length (steps_from s (next s o)) + 1 = ap length (steps_more s o k.whole h i) ∙ omega arith in
      rw q
      (record {
        inside = w.inside;
        few = omega (arith, w.spanned, k.few);
        whole = w.rest;
        end = sym (end_more s o k.whole h i) ∙ k.end;
        count = omega (arith, k.count);
      })

  stop : steps_from s o ≡ [] → ◌≡◌ {A = Skipped} (record { at = o; count = n }) (skipped s a)
  stop e =
      let x : length (steps_from s o) ≡ 0 = ap length e in
      let y : n ≡ length (steps_from s a) = omega (arith, k.count) in
      let z : o ≡ steps_end s a = sym (end_none s o e) ∙ k.end in
      cc

  pub skip_stop : (g : ℕ) → o < length s → g ≡ group (byte_at s o) → (g ≡ 5 → ⊥) → ◌≡◌ {A = Skipped} (record { at = o; count = n }) (skipped s a)
  skip_stop g h e f = stop (steps_none s o k.whole h (λ z. f (e ∙ z)))

  pub skip_end : length s ≤ o → ◌≡◌ {A = Skipped} (record { at = o; count = n }) (skipped s a)
  skip_end h = stop (steps_end_lem s o h)
