-- What refusal 3 leaves of the records of a book: C, then the shapes, then the cells, then the blocks, each with its steps behind it.
--     spread         the blocks at these offsets, each with its steps behind it
--     c_stands       C is the first record
--     laid_out       the records of a book in order
-- Assumes nothing.
use mathlib.Core.Path.{◌≡◌, refl, sym, ap, ◌∙◌}
use mathlib.Core.Bool.{Bool, true, false}
use mathlib.Core.List.{List, [], ◌∷◌, ◌++◌}
use Prim.Native.Nat.{ℕ, ◌+◌, ◌<◌, ◌≤◌, min}
use native.Mathlib.Omega.{arith}
use lib.Dec.{ltb, leb, eqb}
use lib.ListN.{length}
use borrow.Author.Tests.{eq-eqb, ne_eqb, eqb-true, eqb-false, ltb-true, leb-true}
use Rattle.std.specs.Prelude.{None}
use Rattle.book.specs.Control.{both, those, while, sweep}
use Rattle.book.specs.Kinds.{group}
use Rattle.book.specs.Records.{byte_at, next, records, records_from, in_group}
use Rattle.book.specs.Book.{group_of, shapes_of, cells_of, blocks_of, steps_from}
use Rattle.book.specs.Refusals.{in_order, misplaced, order_fault}
use Rattle.book.specs.Asked.{Whole}
use Rattle.book.proofs.Tests.{both_left, both_right}
use Rattle.book.proofs.Groups.{group_most, block_span}
use Rattle.book.proofs.Part.{up}
use Rattle.book.proofs.Sweep.{somewhere}
use Rattle.roundtrip.proofs.RecordRows.{heads}

unfoldable pub spread : List ℕ → List ℕ → List ℕ
spread s [] = []
spread s (o ∷ os) = o ∷ (steps_from s (o + 2) ++ spread s os)

-- a group that may stand behind group p, which is not none
record Follows (p g : ℕ) : Type 0 where
  pub past_c : 1 < g
  pub not_before : p ≤ min g 4

follows : (p g : ℕ) → 0 < p → p ≤ 4 → g ≤ 5 → in_order p g ≡ true → Follows p g
unfolding in_order
follows p g h k m e = go (eqb g 5) refl
  where
    go : (b : Bool) → eqb g 5 ≡ b → Follows p g
    go true q =
        let x : eqb p 4 ≡ true = simp (ne_eqb p 0 (λ z. omega arith), q) at e in
        let y : p ≡ 4 = eqb-true _ _ x in
        let z : g ≡ 5 = eqb-true _ _ q in
        record { past_c = omega arith; not_before = omega arith }
    go false q =
        let x : both (ltb 1 g) (leb p g) ≡ true = simp (ne_eqb p 0 (λ z. omega arith), q) at e in
        let y : 1 < g = ltb-true _ _ (both_left _ _ x) in
        let z : p ≤ g = leb-true _ _ (both_right (ltb 1 g) _ x) in
        record { past_c = omega arith; not_before = omega arith }

module _ (s : List ℕ) where
  -- the first record is in order, and so are those behind it
  record Placed (p o : ℕ) (os : List ℕ) : Type 0 where
    pub follows : Follows p (group (byte_at s o))
    pub rest : misplaced s (min (group (byte_at s o)) 4) os ≡ None

  placed : (p o : ℕ) (os : List ℕ) → 0 < p → p ≤ 4 → misplaced s p (o ∷ os) ≡ None → Placed p o os
  unfolding misplaced sweep
  placed p o os h k e = go (in_order p (group (byte_at s o))) refl
    where
      go : (b : Bool) → in_order p (group (byte_at s o)) ≡ b → Placed p o os
      go false q = somewhere (simp (sweep, q) at e)
      go true q = record { follows = follows p (group (byte_at s o)) h k (group_most (byte_at s o)) q; rest = simp (sweep, q) at e }

  hit : (g o : ℕ) (os : List ℕ) → group (byte_at s o) ≡ g → those (in_group s g) (o ∷ os) ≡ o ∷ those (in_group s g) os
  unfolding those
  hit g o os e = simp (those, eq-eqb _ _ e)

  miss : (g o : ℕ) (os : List ℕ) → (group (byte_at s o) ≡ g → ⊥) → those (in_group s g) (o ∷ os) ≡ those (in_group s g) os
  unfolding those
  miss g o os n = simp (those, ne_eqb _ _ n)

  stops : (o : ℕ) (os : List ℕ) → (group (byte_at s o) ≡ 5 → ⊥) → while (in_group s 5) (o ∷ os) ≡ []
  unfolding while
  stops o os n = simp (while, ne_eqb _ _ n)

  goes : (o : ℕ) (os : List ℕ) → group (byte_at s o) ≡ 5 → while (in_group s 5) (o ∷ os) ≡ o ∷ while (in_group s 5) os
  unfolding while
  goes o os e = simp (while, eq-eqb _ _ e)

  -- a group that comes before p stands no more; before the first block no step stands
  none_before : (g : ℕ) → g < 4 → (os : List ℕ) (p : ℕ) → g < p → p ≤ 4 → misplaced s p os ≡ None → those (in_group s g) os ≡ []
  unfolding those
  none_before g f [] p h k e = refl
  none_before g f (o ∷ os) p h k e =
      let r = placed p o os (omega arith) k e in
      let l = r.follows.not_before in
      miss g o os (λ z. omega arith) ∙ none_before g f os (min (group (byte_at s o)) 4) (omega arith) (omega arith) r.rest

  no_step_yet : (os : List ℕ) (p : ℕ) → 0 < p → p < 4 → misplaced s p os ≡ None → while (in_group s 5) os ≡ []
  unfolding while in_order misplaced sweep
  no_step_yet [] p h k e = refl
  no_step_yet (o ∷ os) p h k e = go (eqb (group (byte_at s o)) 5) refl
    where
      go : (b : Bool) → eqb (group (byte_at s o)) 5 ≡ b → while (in_group s 5) (o ∷ os) ≡ []
      go false q = stops o os (eqb-false _ _ q)
      go true q =
          let x : in_order p (group (byte_at s o)) ≡ false = simp (ne_eqb p 0 (λ z. omega arith), q, ne_eqb p 4 (λ z. omega arith)) in
          somewhere (simp (sweep, x) at e)

  -- the records of a list in order, group by group; steps that stand first are of a block before
  abbrev grouped : List ℕ → List ℕ
  grouped os = those (in_group s 2) os ++ (those (in_group s 3) os ++ (while (in_group s 5) os ++ spread s (those (in_group s 4) os)))

  -- the record at o, where those behind it are
  module _ (o : ℕ) (os : List ℕ) (e : misplaced s (min (group (byte_at s o)) 4) os ≡ None) (ih : os ≡ grouped os) where
    shape_first : group (byte_at s o) ≡ 2 → o ∷ os ≡ grouped (o ∷ os)
    shape_first g =
        let q : min (group (byte_at s o)) 4 ≡ 2 = omega arith in
        let n : while (in_group s 5) os ≡ [] = no_step_yet os 2 (omega arith) (omega arith) (rw q at e) in
        rw (hit 2 o os g, miss 3 o os (λ z. omega arith), stops o os (λ z. omega arith), miss 4 o os (λ z. omega arith))
        (ap {B = List ℕ} (λ l. o ∷ l) (ih ∙ rw n refl))

    cell_first : group (byte_at s o) ≡ 3 → o ∷ os ≡ grouped (o ∷ os)
    cell_first g =
        let q : min (group (byte_at s o)) 4 ≡ 3 = omega arith in
        let d : misplaced s 3 os ≡ None = rw q at e in
        let n : while (in_group s 5) os ≡ [] = no_step_yet os 3 (omega arith) (omega arith) d in
        let m : those (in_group s 2) os ≡ [] = none_before 2 (omega arith) os 3 (omega arith) (omega arith) d in
        rw (miss 2 o os (λ z. omega arith), hit 3 o os g, stops o os (λ z. omega arith), miss 4 o os (λ z. omega arith), m)
        (ap {B = List ℕ} (λ l. o ∷ l) (ih ∙ rw (n, m) refl))

    -- from a block on, no shape and no cell stands
    late : 4 ≤ group (byte_at s o) → (those (in_group s 2) os ≡ []) × (those (in_group s 3) os ≡ [])
    late h =
        let q : min (group (byte_at s o)) 4 ≡ 4 = omega arith in
        let d : misplaced s 4 os ≡ None = rw q at e in
        (none_before 2 (omega arith) os 4 (omega arith) (omega arith) d, none_before 3 (omega arith) os 4 (omega arith) (omega arith) d)

    block_first : records_from s (next s o) ≡ os → group (byte_at s o) ≡ 4 → o ∷ os ≡ grouped (o ∷ os)
    unfolding spread steps_from
    block_first r g =
        let n = late (omega arith) in
        let x : while (in_group s 5) os ≡ steps_from s (o + 2)
        = ap (while (in_group s 5)) (sym r) ∙ ap (λ m. steps_from s (o + m)) (block_span (byte_at s o) g) in
        rw (miss 2 o os (λ z. omega arith), miss 3 o os (λ z. omega arith), stops o os (λ z. omega arith), hit 4 o os g, n.0, n.1)
        (ap {B = List ℕ} (λ l. o ∷ l) (ih ∙ rw (n.0, n.1, x) refl))

    step_first : group (byte_at s o) ≡ 5 → o ∷ os ≡ grouped (o ∷ os)
    step_first g =
        let n = late (omega arith) in
        rw (miss 2 o os (λ z. omega arith), miss 3 o os (λ z. omega arith), goes o os g, miss 4 o os (λ z. omega arith), n.0, n.1)
        (ap {B = List ℕ} (λ l. o ∷ l) (ih ∙ rw (n.0, n.1) refl))

  laid : (os : List ℕ) (a p : ℕ) → records_from s a ≡ os → Whole s a → 0 < p → p ≤ 4 → misplaced s p os ≡ None → os ≡ grouped os
  unfolding those while spread
  laid [] a p r w h k e = refl
  laid (o ∷ os) a p r w h k e =
      let i = heads s a o os r w in
      let m = placed p o os h k e in
      let g = group (byte_at s o) in
      let f = m.follows in
      let l : 2 ≤ g = f.past_c in
      let q : g ≤ 5 = group_most (byte_at s o) in
      let ih = laid os (next s a) (min g 4) i.rest i.whole (omega arith) (omega arith) m.rest in
      up g 2 l (shape_first o os m.rest ih) (λ l. up g 3 l (cell_first o os m.rest ih)
      (λ l. up g 4 l (block_first o os m.rest ih (ap (λ x. records_from s (next s x)) i.at ∙ i.rest)) (λ l. step_first o os m.rest ih (omega arith))))

  -- C first
  c_first : (o : ℕ) (os : List ℕ) → misplaced s 0 (o ∷ os) ≡ None → (group (byte_at s o) ≡ 1) × (misplaced s 1 os ≡ None)
  unfolding misplaced sweep in_order
  c_first o os e = go (eqb (group (byte_at s o)) 1) refl
    where
      go : (b : Bool) → eqb (group (byte_at s o)) 1 ≡ b → (group (byte_at s o) ≡ 1) × (misplaced s 1 os ≡ None)
      go false q = somewhere (simp (sweep, q) at e)
      go true q = let g : group (byte_at s o) ≡ 1 = eqb-true _ _ q in (g, simp (sweep, g) at e)

  laid_from : (os : List ℕ) → records_from s 0 ≡ os → Whole s 0 → misplaced s 0 os ≡ None
      → os ≡ 0 ∷ (those (in_group s 2) os ++ (those (in_group s 3) os ++ spread s (those (in_group s 4) os)))
  unfolding misplaced sweep
  laid_from [] r w e = somewhere e
  laid_from (o ∷ os) r w e =
      let i = heads s 0 o os r w in
      let c = c_first o os e in
      let g = c.0 in
      let l = laid os (next s 0) 1 i.rest i.whole (omega arith) (omega arith) c.1 in
      let n : while (in_group s 5) os ≡ [] = no_step_yet os 1 (omega arith) (omega arith) c.1 in
      rw (miss 2 o os (λ z. omega arith), miss 3 o os (λ z. omega arith), miss 4 o os (λ z. omega arith), i.at)
      (ap {B = List ℕ} (λ l. 0 ∷ l) (l ∙ rw n refl))

  starts : (os : List ℕ) → records_from s 0 ≡ os → Whole s 0 → misplaced s 0 os ≡ None → (0 < length s) × (group (byte_at s 0) ≡ 1)
  unfolding misplaced sweep
  starts [] r w e = somewhere e
  starts (o ∷ os) r w e = let i = heads s 0 o os r w in (i.inside, ap (λ x. group (byte_at s x)) (sym i.at) ∙ (c_first o os e).0)

  pub c_stands : Whole s 0 → order_fault s ≡ None → (0 < length s) × (group (byte_at s 0) ≡ 1)
  unfolding order_fault
  c_stands w e = starts (records s) refl w e

  pub laid_out : Whole s 0 → order_fault s ≡ None → records s ≡ 0 ∷ (shapes_of s ++ (cells_of s ++ spread s (blocks_of s)))
  unfolding order_fault group_of
  laid_out w e = laid_from (records s) refl w e
