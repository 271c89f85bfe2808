-- From the verdict on bytes to the parsed book: what acceptance says of it.
--     accepted        an accepted book's parsed book is accepted
-- Assumes nothing.
use Prim.Native.Nat.{ℕ, ◌+◌, ◌<◌, ◌≤◌}
use mathlib.Core.Path.{◌≡◌, refl}
use mathlib.Core.Bool.{Bool, true, false, not}
use mathlib.Core.List.{List, [], ◌∷◌, map}
use native.Mathlib.Omega.{arith}
use lib.Dec.{eqb, ltb}
use lib.ListN.{get_or}
use borrow.Author.Tests.{eqb-true, ltb-false, not-false}
use Rattle.labels.proofs.Impossible.{impossible}
use Rattle.book.specs.declared.Shape.{Shape}
use Rattle.book.specs.declared.Step.{Step}
use Rattle.book.specs.Missing.{Fault}
use Rattle.std.specs.Prelude.{None, Some}
use Rattle.book.specs.Outcome.{Refusal}
use Rattle.book.specs.Outcome as B
use Rattle.book.specs.Control.{either, sweep, first}
use Rattle.book.specs.Kinds.{limits}
use Rattle.book.specs.Records.{byte_at, records, in_group}
use Rattle.book.specs.Book.{Block, group_of, shapes_of, cells_of, blocks_of, steps_from, shape_at, declared_at, step_at, block_at, parse}
use Rattle.book.specs.Refusals.{no_shape, above, out_of_range, range_fault, unreadable}
use Rattle.book.proofs.Every.{All, all_get, mapped, those_all}
use Rattle.book.proofs.Tests.{either_left, either_right}
use Rattle.book.proofs.Sweep.{somewhere}
use Rattle.book.proofs.Lower.{content_lower}
use Rattle.book.proofs.Readable.{readable}
use Rattle.typing.specs.declared.State.{State}
use Rattle.typing.specs.Verdict.{Verdict}
use Rattle.typing.specs.Verdict as Verdicts
use Rattle.typing.specs.Shapes.{View, view_of, declared_ok}
use Rattle.typing.specs.Rules.{Typed, passes, stuck, breaks, fresh, step_rule, fault}
use Rattle.typing.specs.Verdict.{cell_fault, or_then, block_fault, step_fault, or_refused, typed, verdict_of, verdict}
use Rattle.machine.specs.Events.{no_block}
use Rattle.integrity.proofs.Invariant.{passes_all}
use Rattle.integrity.proofs.Begins.{Accepted}

-- where no record is at fault, each passes
first_all : (f : ℕ → Bool) (os : List ℕ) → first f os ≡ None → All (λ o. f o ≡ false) os
unfolding sweep
first_all f [] e = tt
first_all f (o ∷ os) e = go (f o) refl (first_all f os)
  where
    go : (b : Bool) → f o ≡ b → (first f os ≡ None → All (λ o. f o ≡ false) os) → All (λ o. f o ≡ false) (o ∷ os)
    go true p r = somewhere (simp (sweep, p) at e)
    go false p r = (p, r (simp (sweep, p) at e))

-- a trust is a label, and only a cell shape has one
pub record Trusty (x : Shape) : Type 0 where
  pub small : x.trust.0 ≤ 15
  pub cellular : 0 < x.trust.0 → eqb x.kind 18 ≡ true

module _ (s : List ℕ) where
  small_trust : (o : ℕ) → byte_at s o ≡ 18 → above s (o + 1) (limits (byte_at s o)) ≡ false → byte_at s (o + 2) ≤ 15
  unfolding above limits
  small_trust o k e =
      let x : either (ltb 255 (byte_at s (o + 1))) (either (ltb 15 (byte_at s (o + 1 + 1))) false) ≡ false = rw k at e in
      let y : byte_at s (o + 1 + 1) ≤ 15 = ltb-false _ _ (either_left _ _ (either_right _ _ x)) in
      let z : o + 1 + 1 ≡ o + 2 = omega arith in
      rw z at y

  trusty : (o : ℕ) → out_of_range s o ≡ false → Trusty (shape_at s o)
  unfolding out_of_range shape_at
  trusty o e = go (eqb (byte_at s o) 17) refl (eqb (byte_at s o) 18) refl
    where
      go : (a : Bool) → eqb (byte_at s o) 17 ≡ a → (b : Bool) → eqb (byte_at s o) 18 ≡ b → Trusty (shape_at s o)
      go true p b q = simp p (record { small = omega arith; cellular = λ (h : 0 < 0). absurd (omega arith) })
      go false p true q = simp (p, q) (record { small = small_trust o (eqb-true _ _ q) e; cellular = λ h. refl })
      go false p false q = simp (p, q) (record { small = omega arith; cellular = λ (h : 0 < 0). absurd (omega arith) })

  trusties : range_fault s ≡ None → All Trusty (parse s).shapes
  unfolding range_fault parse group_of
  trusties e = mapped _ Trusty (shape_at s) (λ o p. trusty o p.known) (shapes_of s) (those_all _ (in_group s 2) (records s) (first_all (out_of_range s) (records s) e))

  declareds : (B : View) → cell_fault B s (cells_of s) ≡ None → All (λ d. declared_ok B d ≡ true) (parse s).cells
  unfolding cell_fault parse
  declareds B e =
      mapped _ (λ d. declared_ok B d ≡ true) (declared_at s) (λ o h. not-false _ h) (cells_of s) (first_all (λ o. not (declared_ok B (declared_at s o))) (cells_of s) e)

-- the steps of a block
module _ (B : View) (at : ℕ → Step) where
  stuck_passes : (ps : List Step) → passes_all B ps stuck ≡ true
  stuck_passes [] = refl
  stuck_passes (p ∷ ps) = refl

  fault_passes : (os : List ℕ) (t : State) → fault B at t os ≡ None → passes_all B (map at os) (passes t) ≡ true
  unfolding fault
  fault_passes [] t e = refl
  fault_passes (o ∷ os) t e = go (step_rule B t (at o)) refl (fault_passes os)
    where
      go : (x : Typed) → step_rule B t (at o) ≡ x → ((u : State) → fault B at u os ≡ None → passes_all B (map at os) (passes u) ≡ true)
          → passes_all B (map at os) (step_rule B t (at o)) ≡ true
      go (passes u) h r = rw h (r u (simp (fault, h) at e))
      go stuck h r = rw h (stuck_passes (map at os))
      go breaks h r = somewhere (simp (fault, h) at e)

or_then_lem : (f g : Fault) → or_then f g ≡ None → (f ≡ None) × (g ≡ None)
unfolding or_then
or_then_lem None g e = (refl, e)
or_then_lem (Some o) g e = somewhere e

abbrev BlockPasses : View → Block → Type 0
BlockPasses B b = passes_all B b.steps (passes (fresh b.bound)) ≡ true

blocks_pass : (B : View) (s os : List ℕ) → step_fault B s os ≡ None → All (BlockPasses B) (map (block_at s) os)
unfolding step_fault block_fault block_at
blocks_pass B s [] e = tt
blocks_pass B s (o ∷ os) e =
    let x = or_then_lem _ _ e in
    (fault_passes B (step_at s) (steps_from s (o + 2)) _ x.0, blocks_pass B s os x.1)

parsed_blocks : (s : List ℕ) (B : View) → step_fault B s (blocks_of s) ≡ None → All (BlockPasses B) (parse s).blocks
unfolding parse
parsed_blocks s B e = blocks_pass B s (blocks_of s) e

-- the verdict
module _ (m n k l : ℕ) where
  pub passed : (r : Refusal) (s : List ℕ) → verdict_of r s ≡ Verdicts.Accepted m n k l → (r ≡ B.Passed) × (typed s ≡ Verdicts.Accepted m n k l)
  unfolding verdict_of
  passed B.Passed s e = (refl, e)
  passed (B.Refused i o) s e = impossible cc

  stage : (i : ℕ) (f : Fault) (x : Verdict) → or_refused i f x ≡ Verdicts.Accepted m n k l → (f ≡ None) × (x ≡ Verdicts.Accepted m n k l)
  unfolding or_refused
  stage i None x e = (refl, e)
  stage i (Some o) x e = impossible cc

  faultless : (s : List ℕ) → typed s ≡ Verdicts.Accepted m n k l
      → (cell_fault (view_of (parse s)) s (cells_of s) ≡ None) × (step_fault (view_of (parse s)) s (blocks_of s) ≡ None)
  unfolding typed
  faultless s e =
      let x = stage 7 (cell_fault (view_of (parse s)) s (cells_of s)) _ e in
      let y = stage 8 (step_fault (view_of (parse s)) s (blocks_of s)) _ x.1 in
      (x.0, y.0)

  pub accepted : (s : List ℕ) → verdict s ≡ Verdicts.Accepted m n k l → Accepted (parse s)
  accepted s e =
      let p = passed (unreadable s) s e in
      let r = readable s p.0 in
      let f = faultless s p.1 in
      let t : (i : ℕ) → Trusty (get_or (parse s).shapes i no_shape) =
      λ i. all_get Trusty (parse s).shapes i no_shape (trusties s r.narrow) (record { small = omega arith; cellular = λ (h : 0 < 0). absurd (omega arith) }) in
      record {
        sound = record { falls = content_lower s r.named };
        labels = λ i. (t i).small;
        cellular = λ i h. (t i).cellular (omega arith);
        cells = declareds s (view_of (parse s)) f.0;
        blocks = λ b. all_get (BlockPasses (view_of (parse s))) (parse s).blocks b no_block (parsed_blocks s (view_of (parse s)) f.1) refl;
      }
