-- Laws of the blocks of a book, each checked as its own stretch.
--     fault_shift              a fault of a stretch, by its offset in the book
--     rounds                   the loop through the blocks: z is what the whole list gives
-- Assumes nothing.
use mathlib.Core.Path.{◌≡◌, refl, sym, ap, ◌∙◌}
use mathlib.Core.List.{List, [], ◌∷◌, map}
use Prim.Native.Nat.{ℕ, suc, ◌+◌, ◌-◌, ◌≤◌, ◌<◌}
use native.Mathlib.Omega.{arith}
use native.Mathlib.Numerals.{add-one}
use lib.ListN.{length, get_or, take, drop, drop_of_length-le, length-map}
use lib.Seq.{drop-cons}
use Rattle.labels.specs.Labels.{label}
use Rattle.book.specs.declared.Step.{Step}
use Rattle.book.specs.Missing.{Fault}
use Rattle.std.specs.Prelude.{None, Some}
use Rattle.book.specs.Book.{blocks_of, step_at, steps_from}
use Rattle.book.specs.Outline.{steps_end, bound_at}
use Rattle.book.specs.Asked.{Laid}
use Rattle.book.proofs.Part.{parted}
use Rattle.book.proofs.Stretches.{block, blocks, bound_is, a_is, part_is}
use Rattle.typing.specs.declared.State.{State}
use Rattle.typing.specs.Shapes.{View}
use Rattle.typing.specs.Rules.{Typed, passes, stuck, breaks, fresh, step_rule, fault}
use Rattle.typing.specs.Verdict.{or_then, block_fault, step_fault}
use Rattle.checking.specs.Asked.{shifted, stretch_fault}

module _ (B : View) (at to : ℕ → Step) (a : ℕ) where
  fault_shift : (xs : List ℕ) (t : State) → map at xs ≡ map to (map (λ x. a + x) xs) → shifted a (fault B at t xs) ≡ fault B to t (map (λ x. a + x) xs)
  unfolding fault shifted
  fault_shift [] t e = refl
  fault_shift (x ∷ xs) t e = go (step_rule B t (at x)) refl (fault_shift xs)
    where
      here : at x ≡ to (a + x)
      here = cc

      rest : map at xs ≡ map to (map (λ x. a + x) xs)
      rest = cc

      go : (y : Typed) → step_rule B t (at x) ≡ y
          → ((t : State) → map at xs ≡ map to (map (λ x. a + x) xs) → shifted a (fault B at t xs) ≡ fault B to t (map (λ x. a + x) xs))
          → shifted a (fault B at t (x ∷ xs)) ≡ fault B to t ((a + x) ∷ map (λ x. a + x) xs)
      go (passes u) q r = let p : step_rule B t (to (a + x)) ≡ passes u = ap (step_rule B t) (sym here) ∙ q in simp (fault, q, p) (r u rest)
      go stuck q r = let p : step_rule B t (to (a + x)) ≡ stuck = ap (step_rule B t) (sym here) ∙ q in simp (fault, q, p)
      go breaks q r = let p : step_rule B t (to (a + x)) ≡ breaks = ap (step_rule B t) (sym here) ∙ q in simp (fault, q, p)

-- block i, which starts at a and is l long
module _ (s bounds starts lengths : List ℕ) (u : Laid s bounds starts lengths) (i : ℕ) (h : i < length bounds) (a l : ℕ) (ea : a ≡ get_or starts i 0)
    (el : l ≡ get_or lengths i 0) where
  abbrev o : ℕ
  o = get_or (blocks_of s) i 0

  block_fault_lem : (B : View) → stretch_fault B (take (a + l - a) (drop a s)) a (label (get_or bounds i 0)) ≡ block_fault B s o
  unfolding stretch_fault block_fault
  block_fault_lem B =
      let b = block s bounds starts lengths u i h in
      let p = parted s (o + 2) b.whole b.inside in
      let z : o + 2 + 0 ≡ o + 2 = omega arith in
      let w = take (steps_end s (o + 2) - (o + 2)) (drop (o + 2) s) in
      let q : map (λ i. o + 2 + i) (steps_from w 0) ≡ steps_from s (o + 2) = rw z at p.offsets in
      let r : map (step_at w) (steps_from w 0) ≡ map (step_at s) (steps_from s (o + 2)) = rw z at p.steps in
      let t = fresh (label (bound_at s o)) in
      rw (part_is s bounds starts lengths u i h a l ea el, a_is s bounds starts lengths u i h a l ea el, bound_is s bounds starts lengths u i h)
      (fault_shift B (step_at w) (step_at s) (o + 2) (steps_from w 0) t (r ∙ ap (map (step_at s)) (sym q)) ∙ ap (fault B (step_at s) t) q)

  -- x is what the block checker gave
  module _ (B : View) (z x : Fault) (inv : step_fault B s (drop i (blocks_of s)) ≡ z)
      (ex : x ≡ stretch_fault B (take (a + l - a) (drop a s)) a (label (get_or bounds i 0))) where
    now : or_then x (step_fault B s (drop (suc i) (blocks_of s))) ≡ z
    unfolding step_fault
    now =
        let e : x ≡ block_fault B s o = ex ∙ block_fault_lem B in
        rw e (simp (drop-cons (blocks_of s) i 0 (blocks s bounds starts lengths u i h), step_fault) at inv)

    pub round_bad : (p : ℕ) → x ≡ Some p → Some p ≡ z
    unfolding or_then
    round_bad p e = simp e at now

    pub round_good : x ≡ None → step_fault B s (drop (i + 1) (blocks_of s)) ≡ z
    unfolding or_then
    round_good e = rw (add-one i) (simp e at now)

pub round_end : (s bounds starts lengths : List ℕ) (u : Laid s bounds starts lengths) (i : ℕ) (B : View) (z : Fault)
    → step_fault B s (drop i (blocks_of s)) ≡ z → length bounds ≤ i → None ≡ z
unfolding step_fault
round_end s bounds starts lengths u i B z inv h =
    let e : length bounds ≡ length (blocks_of s) = ap length u.bound ∙ length-map (blocks_of s) (bound_at s) in
    simp (drop_of_length-le (blocks_of s) {i = i} (omega arith)) at inv

pub ruleset rounds = (round_bad, round_good, round_end)
