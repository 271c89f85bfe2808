-- The loop through the declared cells: z is what the whole list gives.
--     cells       for the code
-- Assumes nothing.
use mathlib.Core.Path.{◌≡◌, sym, ap, ◌∙◌}
use mathlib.Core.Bool.{Bool, true, false}
use mathlib.Core.List.{List}
use Prim.Native.Nat.{ℕ, ◌+◌, ◌≤◌, ◌<◌}
use native.Mathlib.Numerals.{add-one}
use lib.ListN.{length, get_or, drop, drop_of_length-le}
use lib.Seq.{drop-cons}
use Rattle.labels.proofs.Impossible.{impossible}
use Rattle.book.specs.Missing.{Fault}
use Rattle.std.specs.Prelude.{None, Some}
use Rattle.book.specs.declared.Declared.{Declared}
use Rattle.book.specs.Missing.{CellAt}
use Rattle.book.specs.Control.{sweep}
use Rattle.book.specs.Book.{declared_at}
use Rattle.book.specs.Stretch.{cell_found}
use Rattle.book.specs.Asked.{Listed}
use Rattle.typing.specs.Shapes.{View, declared_ok}
use Rattle.typing.specs.Verdict.{cell_fault}

module _ (B : View) (s os : List ℕ) (i : ℕ) (z : Fault) (inv : cell_fault B s (drop i os) ≡ z) where
  pub cell_end : length os ≤ i → None ≡ z
  unfolding cell_fault sweep
  cell_end h = simp (drop_of_length-le os h) at inv

  -- x is what stands there, at o
  module _ (u : Listed s os) (h : i < length os) (o : ℕ) (x : CellAt) (eo : o ≡ get_or os i 0) (ex : x ≡ cell_found s o) where
    listed : x ≡ Some (declared_at s (get_or os i 0))
    listed = ex ∙ ap (cell_found s) eo ∙ u.there i h

    pub cell_none : x ≡ None → None ≡ z
    cell_none e =
        let y : None ≡ Some (declared_at s (get_or os i 0)) = sym e ∙ listed in
        impossible cc

    module _ (d : Declared) (b : Bool) (e : x ≡ Some d) (eb : b ≡ declared_ok B d) where
      ok : declared_ok B (declared_at s (get_or os i 0)) ≡ b
      ok =
          let y : Some (declared_at s (get_or os i 0)) ≡ Some d = sym listed ∙ e in
          let q : declared_at s (get_or os i 0) ≡ d = cc in
          ap (declared_ok B) q ∙ sym eb

      pub cell_bad : b ≡ false → Some o ≡ z
      unfolding cell_fault sweep
      cell_bad n = ap Some eo ∙ simp (drop-cons os i 0 h, sweep, ok, n) at inv

      pub cell_good : b ≡ true → cell_fault B s (drop (i + 1) os) ≡ z
      unfolding cell_fault sweep
      cell_good n = rw (add-one i) (simp (drop-cons os i 0 h, sweep, ok, n) at inv)

pub ruleset cells = (cell_end, cell_none, cell_bad, cell_good)
