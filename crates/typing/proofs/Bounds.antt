-- How large the numbers of a verdict are.
--     verdict_place      the place of a refusal
--     verdict_counts     the counts of an accepted book
-- Assumes nothing.
use mathlib.Core.Path.{◌≡◌, refl, sym, ap, ◌∙◌}
use mathlib.Core.List.{List, [], ◌∷◌}
use Prim.Native.Nat.{ℕ, ◌≤◌}
use native.Mathlib.Omega.{arith}
use lib.ListN.{length}
use Rattle.labels.proofs.Impossible.{impossible}
use Rattle.book.specs.Missing.{Fault}
use Rattle.std.specs.Prelude.{None, Some}
use Rattle.book.specs.Outcome.{Refusal, Passed}
use Rattle.book.specs.Outcome as R
use Rattle.book.specs.declared.Step.{Step}
use Rattle.book.specs.Book.{parse, shapes_of, cells_of, blocks_of}
use Rattle.book.specs.Refusals.{unreadable}
use Rattle.book.specs.Outline.{step_count}
use Rattle.book.proofs.Limits.{most_shapes, most_cells, most_blocks}
use Rattle.book.proofs.Readable.{readable}
use Rattle.book.proofs.Bounds.{Below, none, more, PlacedIn, nowhere_placed, at_placed, sweep_clean, group_below, steps_below, steps_short, refused_short}
use Rattle.typing.specs.declared.State.{State}
use Rattle.typing.specs.Verdict.{Verdict}
use Rattle.typing.specs.Verdict.{Accepted, Refused}
use Rattle.typing.specs.Shapes.{View, view_of}
use Rattle.typing.specs.Rules.{Typed, passes, stuck, breaks, step_rule, fault}
use Rattle.typing.specs.Verdict.{cell_fault, or_then, block_fault, step_fault, or_refused, typed, verdict_of, verdict}

-- the steps of a block
module _ (B : View) (at : ℕ → Step) (l : ℕ) where
  fault_placed : {os : List ℕ} → Below l os → (t : State) → PlacedIn l (fault B at t os)
  unfolding fault
  fault_placed none t = nowhere_placed l
  fault_placed (more {o} {os} h r) t = go (step_rule B t (at o)) refl (fault_placed r)
    where
      go : (y : Typed) → step_rule B t (at o) ≡ y → ((u : State) → PlacedIn l (fault B at u os)) → PlacedIn l (fault B at t (o ∷ os))
      go (passes u) e i = simp (fault, e) (i u)
      go stuck e i = simp (fault, e) (nowhere_placed l)
      go breaks e i = simp (fault, e) (at_placed l o h)

or_placed : (l : ℕ) (f g : Fault) → PlacedIn l f → PlacedIn l g → PlacedIn l (or_then f g)
unfolding or_then
or_placed l None g p q = q
or_placed l (Some o) g p q = p

-- refusals 7 and 8
module _ (B : View) (s : List ℕ) where
  cell_placed : PlacedIn (length s) (cell_fault B s (cells_of s))
  unfolding cell_fault
  cell_placed = sweep_clean _ _ (length s) (group_below s 3) tt

  step_placed : (os : List ℕ) → PlacedIn (length s) (step_fault B s os)
  unfolding step_fault block_fault
  step_placed [] = nowhere_placed (length s)
  step_placed (o ∷ os) = or_placed (length s) _ _ (fault_placed B _ (length s) (steps_below s _) _) (step_placed os)

-- a refusal is at most at l
stage : (l m : ℕ) (f : Fault) (v : Verdict) → PlacedIn l f → ((n o : ℕ) → v ≡ Refused n o → o ≤ l) → (n o : ℕ) → or_refused m f v ≡ Refused n o → o ≤ l
unfolding or_refused
stage l m None v p q n o e = q n o e
stage l m (Some k) v p q n o e = let z : k ≡ o = cc in omega (arith, p k refl)

-- what acceptance reports
through : (m : ℕ) (f : Fault) (v : Verdict) (i k b p : ℕ) → or_refused m f v ≡ Accepted i k b p → v ≡ Accepted i k b p
unfolding or_refused
through m None v i k b p e = e
through m (Some o) v i k b p e = impossible cc

pub record Counted (i k b p : ℕ) : Type 0 where
  pub shapes : i ≤ 32
  pub cells : k ≤ 32
  pub blocks : b ≤ 64
  pub steps : p ≤ 2097152

module _ (s : List ℕ) where
  typed_place : (n o : ℕ) → typed s ≡ Refused n o → o ≤ length s
  unfolding typed
  typed_place =
      let B = view_of (parse s) in
      stage (length s) 7 (cell_fault B s (cells_of s)) _ (cell_placed B s)
      (stage (length s) 8 (step_fault B s (blocks_of s)) _ (step_placed B s (blocks_of s))
      (λ n o e. impossible cc))

  typed_counts : unreadable s ≡ Passed → (i k b p : ℕ) → typed s ≡ Accepted i k b p → Counted i k b p
  unfolding typed
  typed_counts h i k b p e =
      let B = view_of (parse s) in
      let r = readable s h in
      let x : Accepted (length (shapes_of s)) (length (cells_of s)) (length (blocks_of s)) (step_count s (blocks_of s)) ≡ Accepted i k b p
      = through 8 (step_fault B s (blocks_of s)) _ i k b p (through 7 (cell_fault B s (cells_of s)) _ i k b p e) in
      let ei : length (shapes_of s) ≡ i = cc in
      let ek : length (cells_of s) ≡ k = cc in
      let eb : length (blocks_of s) ≡ b = cc in
      let ep : step_count s (blocks_of s) ≡ p = cc in
      record {
        shapes = omega (arith, most_shapes s r.few);
        cells = omega (arith, most_cells s r.few);
        blocks = omega (arith, most_blocks s r.few);
        steps = omega (arith, most_blocks s r.few, steps_short s r.short (blocks_of s));
      }

-- v is the verdict
module _ (s : List ℕ) (v : Verdict) (ev : v ≡ verdict s) where
  given : (x : Refusal) → unreadable s ≡ x → v ≡ verdict_of x s
  given x q = ev ∙ ap (λ (x : Refusal). verdict_of x s) q

  pub verdict_place : (n o : ℕ) → v ≡ Refused n o → o ≤ 32768
  unfolding verdict_of
  verdict_place n o e = go (unreadable s) refl
    where
      go : (x : Refusal) → unreadable s ≡ x → o ≤ 32768
      go (R.Refused m p) q =
          let y : v ≡ Refused m p = given (R.Refused m p) q in
          let z : p ≡ o = cc in
          omega (arith, refused_short s m p q)
      go Passed q = omega (arith, typed_place s n o (sym (given Passed q) ∙ e), (readable s q).short)

  pub verdict_counts : (i k b p : ℕ) → v ≡ Accepted i k b p → Counted i k b p
  unfolding verdict_of
  verdict_counts i k b p e = go (unreadable s) refl
    where
      go : (x : Refusal) → unreadable s ≡ x → Counted i k b p
      go (R.Refused m o) q =
          let y : v ≡ Refused m o = given (R.Refused m o) q in
          impossible cc
      go Passed q = typed_counts s q i k b p (sym (given Passed q) ∙ e)
