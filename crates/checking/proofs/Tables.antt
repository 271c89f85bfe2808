-- What typing asks of a book that can be read, from the tables of its outline.
--     fronts               for the code: what is asked of the tables
--     refuse7, refuse8, accept     for the code: a readable book's verdict
--     typed_err            a stage's refusal
--     answer_typed, answer_err     the verdict
-- Assumes nothing.
use mathlib.Core.Path.{◌≡◌, refl, sym, ap, ◌∙◌, fun_ext}
use mathlib.Core.List.{List, [], ◌∷◌, map, map-map}
use mathlib.Core.Option.{Option}
use Prim.Native.Nat.{ℕ, zero, suc, ◌-◌}
use Rattle.std.proofs.Math.Nat.{sub-zero}
use lib.ListN.{get_elem?, take, drop}
use Rattle.labels.proofs.Impossible.{impossible}
use Rattle.labels.specs.declared.Label.{Label}
use Rattle.book.specs.declared.Shape.{Shape}
use Rattle.book.specs.declared.Declared.{Declared}
use Rattle.book.specs.Missing.{Fault}
use Rattle.std.specs.Prelude.{None, Some, Ok, Err}
use Rattle.book.specs.declared.Outline.{Outline}
use Rattle.book.specs.Outline.{Reading}
use Rattle.book.specs.declared.Counts.{Counts}
use Rattle.book.specs.declared.Refused as D
use Rattle.book.specs.Outcome.{Refusal, Passed, Given, ground_number}
use Rattle.book.specs.Outcome as R
use Rattle.book.specs.Book.{Block, cells_of, blocks_of, declared_at, block_at, parse}
use Rattle.book.specs.Refusals.{or_refuse, unreadable}
use Rattle.book.specs.Outline.{bound_at, outline_of, reading_of, read_by, reading}
use Rattle.book.proofs.Blocks.{passed, outline_is}
use Rattle.book.specs.Asked.{Listed, Laid}
use Rattle.book.proofs.Outlines.{shape_is, shaped_are, bounds_are, cells_are, drawn_sound, drawn_cell, drawn_shaped, drawn_bound, drawn_start, drawn_length, drawn_listed, drawn_laid}
use Rattle.book.proofs.Outcomes.{refused_so}
use Rattle.typing.specs.Shapes.{View, view_of}
use Rattle.typing.specs.Verdict.{Verdict, Accepted, Refused, verdict_by, cell_fault, step_fault, or_refused, typed, verdict_of, verdict}
use Rattle.typing.specs.Asked.{as_label, table_view}

bound_get : (s l : List ℕ) (b : ℕ) → as_label (get_elem? (map (bound_at s) l) b) ≡ get_elem? (map (λ (b : Block). b.bound) (map (block_at s) l)) b
unfolding block_at
bound_get s [] b = refl
bound_get s (x ∷ xs) zero = refl
bound_get s (x ∷ xs) (suc b) = bound_get s xs b

view_eq : {c c' : Label} {f f' : ℕ → Shape} {g g' : ℕ → Option ℕ} {h h' : ℕ → Option Label} → c ≡ c' → f ≡ f' → g ≡ g' → h ≡ h'
    → ◌≡◌ {A = View} (record { c = c; shape = f; cell = g; bound = h }) (record { c = c'; shape = f'; cell = g'; bound = h' })
view_eq p q r u = cc

-- what typing asks, from an outline's tables
abbrev outline_view : Outline → View
outline_view t = table_view t.c t.shapes (take t.counts.cells t.shaped) (take t.counts.blocks t.bounds)

front : (n : ℕ) (l : List ℕ) → take n l ≡ take (n - 0) (drop 0 l)
front n l = rw sub-zero refl

module _ (s : List ℕ) (e : unreadable s ≡ Passed) (t : Outline) (et : t ≡ outline_of s) where
  view_is : outline_view t ≡ view_of (parse s)
  unfolding view_of parse outline_of declared_at
  view_is =
      view_eq
      (ap (λ (t : Outline). t.c) et)
      (fun_ext (shape_is s e t et))
      (ap get_elem? (front _ _ ∙ shaped_are s e t et ∙ sym (map-map (λ (d : Declared). d.shape) (declared_at s) (cells_of s))))
      (fun_ext (λ b. ap (λ (l : List ℕ). as_label (get_elem? l b)) (front _ _ ∙ bounds_are s e t et) ∙ bound_get s (blocks_of s) b))

  pub front_listed : Listed s (take t.counts.cells t.offsets)
  front_listed = rw (front t.counts.cells t.offsets) (drawn_listed s e t et)

  pub front_laid : Laid s (take t.counts.blocks t.bounds) (take t.counts.blocks t.starts) (take t.counts.blocks t.lengths)
  front_laid = rw (front t.counts.blocks t.bounds, front t.counts.blocks t.starts, front t.counts.blocks t.lengths) (drawn_laid s e t et)

  module _ (x : Fault) (ex : x ≡ cell_fault (outline_view t) s (take t.counts.cells t.offsets)) where
    cell_fault_lem : cell_fault (view_of (parse s)) s (cells_of s) ≡ x
    cell_fault_lem = sym (ex ∙ rw (view_is, front t.counts.cells t.offsets, cells_are s e t et) refl)

    pub refuse7 : (o : ℕ) → x ≡ Some o → Refused 7 o ≡ typed s
    unfolding typed or_refused
    refuse7 o q = simp (cell_fault_lem, q)

    module _ (q : x ≡ None) (y : Fault) (ey : y ≡ step_fault (outline_view t) s (blocks_of s)) where
      step_fault_lem : step_fault (view_of (parse s)) s (blocks_of s) ≡ y
      step_fault_lem = sym (ey ∙ rw view_is refl)

      pub refuse8 : (o : ℕ) → y ≡ Some o → Refused 8 o ≡ typed s
      unfolding typed or_refused
      refuse8 o p = simp (cell_fault_lem, q, step_fault_lem, p)

      pub accept : y ≡ None → Accepted t.counts.shapes t.counts.cells t.counts.blocks t.counts.steps ≡ typed s
      unfolding typed or_refused outline_of
      accept p = rw et (simp (cell_fault_lem, q, step_fault_lem, p))

pub ruleset fronts = (drawn_sound, drawn_cell, drawn_shaped, drawn_bound, drawn_start, drawn_length, front_listed, front_laid)

-- what read gave, r, refuses the check too
module _ (s : List ℕ) (r : Reading) (er : r ≡ reading s) where
  answer_refused : (n o : ℕ) → r.refusal ≡ R.Refused n o → Refused n o ≡ verdict s
  unfolding verdict_of reading_of
  answer_refused n o e = go (unreadable s) refl
    where
      go : (x : Refusal) → unreadable s ≡ x → Refused n o ≡ verdict_of (unreadable s) s
      go Passed q =
          let y : r.refusal ≡ Passed = ap (λ (x : Reading). x.refusal) (er ∙ ap (λ (x : Refusal). reading_of x s) q) in
          impossible cc
      go (R.Refused m p) q =
          let y : r.refusal ≡ R.Refused m p = ap (λ (x : Reading). x.refusal) (er ∙ ap (λ (x : Refusal). reading_of x s) q) in
          let a : n ≡ m = cc in
          let b : o ≡ p = cc in
          rw (q, a, b) refl

-- t is the outline that read gave
module _ (s : List ℕ) (t : Outline) (et : read_by (Ok t) ≡ reading s) where
  pub answer_passed : unreadable s ≡ Passed
  answer_passed = passed s (read_by (Ok t)) et refl

  pub answer_outline : t ≡ outline_of s
  answer_outline = outline_is s (read_by (Ok t)) et refl

  pub answer_typed : (x : Given Counts) → verdict_by x ≡ typed s → verdict_by x ≡ verdict s
  unfolding verdict_of
  answer_typed x ex = ex ∙ simp answer_passed

-- r is what check gives
pub answer_err : (s : List ℕ) (r : Given Counts) (e : D.Refused) → r ≡ Err e → read_by (Err e) ≡ reading s → verdict_by r ≡ verdict s
answer_err s r e er h = ap verdict_by er ∙ answer_refused s (read_by (Err e)) h _ _ refl

-- a stage that refuses, f what it found
pub typed_err : (s : List ℕ) (n : ℕ) (f : Fault) (r : Given Counts) (e : D.Refused) → r ≡ Err e
    → R.Refused (ground_number e.why) e.place ≡ or_refuse n f Passed → ((o : ℕ) → f ≡ Some o → Refused n o ≡ typed s) → verdict_by r ≡ typed s
typed_err s n f r e er h law =
    let y = refused_so n f e h in
    ap verdict_by er ∙ ap (λ k. Refused k e.place) y.0 ∙ law e.place y.1
