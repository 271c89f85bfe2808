-- How large a book's numbers are: no place is past its end, and it has no more records than bytes.
--     Below, PlacedIn               the members of a list, the place of a fault: at most a number
--     sweep_placed, sweep_clean     a stage is at fault at a record, or where its end is
--     offsets_below, few_offsets    records by any span
--     group_below, steps_below      the records of a group, the steps of a block
--     steps_short                   how many steps the blocks have
--     stage, none_refused           the place of a refusal by one stage, where that of the stages after it is told
--     order_placed, .., refused_short     the place of each stage; of a refusal by 1 to 6
--     found_place, found_short      the place of a refusal by 1 to 6 or 12; a block's stretch
-- Assumes nothing.
use mathlib.Core.Path.{◌≡◌, refl, ap, ◌∙◌}
use mathlib.Core.Bool.{Bool, true, false}
use mathlib.Core.List.{List, [], ◌∷◌}
use Prim.Native.Nat.{ℕ, zero, suc, ◌+◌, ◌*◌, ◌≤◌}
use native.Mathlib.Omega.{arith}
use lib.Dec.{ltb, eqb}
use lib.ListN.{length}
use borrow.Author.Tests.{ltb-true, ltb-false}
use Rattle.labels.proofs.Impossible.{impossible}
use Rattle.book.specs.Missing.{Fault}
use Rattle.std.specs.Prelude.{None, Some}
use Rattle.book.specs.Outcome.{Refusal, Passed, Refused}
use Rattle.book.specs.Stretch.{Found}
use Rattle.book.specs.Control.{when◌then◌else◌, those, while, sweep}
use Rattle.book.specs.Kinds.{span}
use Rattle.book.specs.Spans.{next_by, cut_by, offsets_in, offsets_by}
use Rattle.book.specs.Records.{records_from, in_group}
use Rattle.book.specs.Book.{group_of, blocks_of, steps_from}
use Rattle.book.specs.Refusals.{cut_fault, order_fault, misplaced, count_fault, beyond, range_fault, name_fault, dangles, or_refuse, unreadable}
use Rattle.book.specs.Outline.{step_count}
use Rattle.book.specs.Stretch.{found_in, found_block}
use Rattle.book.proofs.Readable.{readable}
use Rattle.book.proofs.Blocks.{within}

-- no member is above l
pub data Below (l : ℕ) : List ℕ → Type 0 where
  none : Below l []
  more : {o : ℕ} {os : List ℕ} → o ≤ l → Below l os → Below l (o ∷ os)

-- a fault is at most at l
abbrev pub PlacedIn : ℕ → Fault → Type 0
PlacedIn l f = (o : ℕ) → f ≡ Some o → o ≤ l

pub nowhere_placed : (l : ℕ) → PlacedIn l None
nowhere_placed l o e = impossible cc

pub at_placed : (l p : ℕ) → p ≤ l → PlacedIn l (Some p)
at_placed l p h o e = let z : p ≡ o = cc in omega arith

module _ (f : ℕ → Bool) (l : ℕ) where
  pub those_below : {os : List ℕ} → Below l os → Below l (those f os)
  unfolding those
  those_below none = none
  those_below (more {o} {os} h r) = go (f o) refl (those_below r)
    where
      go : (b : Bool) → f o ≡ b → Below l (those f os) → Below l (those f (o ∷ os))
      go true e i = simp (those, e) (more h i)
      go false e i = simp (those, e) i

  pub while_below : {os : List ℕ} → Below l os → Below l (while f os)
  unfolding while
  while_below none = none
  while_below (more {o} {os} h r) = go (f o) refl (while_below r)
    where
      go : (b : Bool) → f o ≡ b → Below l (while f os) → Below l (while f (o ∷ os))
      go true e i = simp (while, e) (more h i)
      go false e i = simp (while, e) none

pub while_few : (f : ℕ → Bool) (os : List ℕ) → length (while f os) ≤ length os
unfolding while
while_few f [] = omega arith
while_few f (o ∷ os) = go (f o) refl (while_few f os)
  where
    go : (b : Bool) → f o ≡ b → length (while f os) ≤ length os → length (while f (o ∷ os)) ≤ length (o ∷ os)
    go true e i = simp (while, e) (omega arith)
    go false e i = simp (while, e) (omega arith)

module _ {S : Type 0} (bad : S → ℕ → Bool) (on : S → ℕ → S) (end : S → Fault) (l : ℕ) (ends : (t : S) → PlacedIn l (end t)) where
  pub sweep_placed : {os : List ℕ} → Below l os → (t : S) → PlacedIn l (sweep bad on end t os)
  unfolding sweep
  sweep_placed none t = ends t
  sweep_placed (more {o} {os} h r) t = go (bad t o) refl (sweep_placed r (on t o))
    where
      go : (b : Bool) → bad t o ≡ b → PlacedIn l (sweep bad on end (on t o) os) → PlacedIn l (sweep bad on end t (o ∷ os))
      go true e i = simp (sweep, e) (at_placed l o h)
      go false e i = simp (sweep, e) i

-- a stage whose end is never at fault
pub sweep_clean : {S : Type 0} (bad : S → ℕ → Bool) (on : S → ℕ → S) (l : ℕ) {os : List ℕ} → Below l os → (t : S)
    → PlacedIn l (sweep bad on (λ u. None) t os)
sweep_clean bad on l r t = sweep_placed bad on (λ u. None) l (λ u. nowhere_placed l) r t

-- of records by any span
module _ (span : ℕ → ℕ) (s : List ℕ) where
  in_below : (n o : ℕ) → Below (length s) (offsets_in span n s o)
  unfolding offsets_in
  in_below zero o = none
  in_below (suc n) o = go (ltb o (length s)) refl (cut_by span s o) refl (in_below n (next_by span s o))
    where
      go : (b : Bool) → ltb o (length s) ≡ b → (d : Bool) → cut_by span s o ≡ d → Below (length s) (offsets_in span n s (next_by span s o))
          → Below (length s) (offsets_in span (suc n) s o)
      go false p d q i = simp (offsets_in, p) none
      go true p true q i = let h : o ≤ length s = omega (arith, ltb-true o (length s) p) in simp (offsets_in, p, q) (more h none)
      go true p false q i = let h : o ≤ length s = omega (arith, ltb-true o (length s) p) in simp (offsets_in, p, q) (more h i)

  pub offsets_below : (o : ℕ) → Below (length s) (offsets_by span s o)
  unfolding offsets_by
  offsets_below o = in_below (length s) o

  in_few : (n o : ℕ) → length (offsets_in span n s o) ≤ n
  unfolding offsets_in
  in_few zero o = omega arith
  in_few (suc n) o = go (ltb o (length s)) refl (cut_by span s o) refl (in_few n (next_by span s o))
    where
      go : (b : Bool) → ltb o (length s) ≡ b → (d : Bool) → cut_by span s o ≡ d → length (offsets_in span n s (next_by span s o)) ≤ n
          → length (offsets_in span (suc n) s o) ≤ suc n
      go false p d q i = simp (offsets_in, p) (omega arith)
      go true p true q i = simp (offsets_in, p, q) (omega arith)
      go true p false q i = simp (offsets_in, p, q) (omega arith)

  pub few_offsets : (o : ℕ) → length (offsets_by span s o) ≤ length s
  unfolding offsets_by
  few_offsets o = in_few (length s) o

module _ (s : List ℕ) where
  pub records_below : (o : ℕ) → Below (length s) (records_from s o)
  records_below o = offsets_below span s o

  pub few_records : (o : ℕ) → length (records_from s o) ≤ length s
  few_records o = few_offsets span s o

  pub group_below : (g : ℕ) → Below (length s) (group_of s g)
  unfolding group_of
  group_below g = those_below _ _ (records_below 0)

  pub steps_below : (o : ℕ) → Below (length s) (steps_from s o)
  unfolding steps_from
  steps_below o = while_below _ _ (records_below o)

  few_steps : (o : ℕ) → length (steps_from s o) ≤ length s
  unfolding steps_from
  few_steps o = omega (arith, while_few (in_group s 5) (records_from s o), few_records o)

  pub steps_short : length s ≤ 32768 → (os : List ℕ) → step_count s os ≤ 32768 * length os
  unfolding step_count
  steps_short h [] = omega arith
  steps_short h (o ∷ os) = let r = steps_short h os in let k = few_steps (o + 2) in omega arith

-- a refusal is at most at l
pub stage : (l m : ℕ) (f : Fault) (r : Refusal) → PlacedIn l f → ((n o : ℕ) → r ≡ Refused n o → o ≤ l) → (n o : ℕ) → or_refuse m f r ≡ Refused n o → o ≤ l
unfolding or_refuse
stage l m None r p q n o e = q n o e
stage l m (Some k) r p q n o e = let z : k ≡ o = cc in let h = p k refl in omega arith

pub none_refused : (l n o : ℕ) → Passed ≡ Refused n o → o ≤ l
none_refused l n o e = impossible cc

-- refusals 1 to 6
module _ (s : List ℕ) where
  cut_placed : PlacedIn (length s) (cut_fault s)
  unfolding cut_fault
  cut_placed = sweep_clean _ _ (length s) (records_below s 0) tt

  pub order_placed : PlacedIn (length s) (order_fault s)
  unfolding order_fault misplaced
  order_placed = sweep_placed _ _ _ (length s) (λ p. ends (eqb p 4)) (records_below s 0) 0
    where
      ends : (b : Bool) → PlacedIn (length s) (when b then None else Some (length s))
      ends true = nowhere_placed (length s)
      ends false = at_placed (length s) (length s) (omega arith)

  pub count_placed : PlacedIn (length s) (count_fault s)
  unfolding count_fault beyond
  count_placed = sweep_clean _ _ (length s) (records_below s 0) _

  pub range_placed : PlacedIn (length s) (range_fault s)
  unfolding range_fault
  range_placed = sweep_clean _ _ (length s) (records_below s 0) tt

  pub name_placed : PlacedIn (length s) (name_fault s)
  unfolding name_fault dangles
  name_placed = sweep_clean _ _ (length s) (records_below s 0) 0

  pub refused_short : (n o : ℕ) → unreadable s ≡ Refused n o → o ≤ 32768
  unfolding unreadable
  refused_short n o e = go (ltb 32768 (length s)) refl
    where
      go : (b : Bool) → ltb 32768 (length s) ≡ b → o ≤ 32768
      go true h = let x : Refused 1 0 ≡ Refused n o = simp h at e in let z : 0 ≡ o = cc in omega arith
      go false h =
          let l = ltb-false 32768 (length s) h in
          let k : o ≤ length s
          = stage (length s) 2 (cut_fault s) _ cut_placed
          (stage (length s) 3 (order_fault s) _ order_placed
          (stage (length s) 4 (count_fault s) _ count_placed
          (stage (length s) 5 (range_fault s) _ range_placed
          (stage (length s) 6 (name_fault s) Passed name_placed (none_refused (length s))))))
          n o (simp h at e) in
          omega arith

-- f is what find_block gave
module _ (s : List ℕ) (i : ℕ) (f : Found) (ef : f ≡ found_block s i) where
  there : (x : Refusal) → unreadable s ≡ x → f ≡ found_in x s i
  there x q = ef ∙ ap (λ (x : Refusal). found_in x s i) q

  pub found_place : (n o : ℕ) → f.refusal ≡ Refused n o → o ≤ 32768
  unfolding found_in
  found_place n o e = go (unreadable s) refl (ltb i (length (blocks_of s))) refl
    where
      go : (x : Refusal) → unreadable s ≡ x → (b : Bool) → ltb i (length (blocks_of s)) ≡ b → o ≤ 32768
      go (Refused m p) q b l =
          let y : f.refusal ≡ Refused m p = ap (λ (f : Found). f.refusal) (there (Refused m p) q) in
          let z : p ≡ o = cc in
          omega (arith, refused_short s m p q)
      go Passed q true l =
          let y : f.refusal ≡ Passed = ap (λ (f : Found). f.refusal) (simp l at (there Passed q)) in
          impossible cc
      go Passed q false l =
          let y : f.refusal ≡ Refused 12 0 = ap (λ (f : Found). f.refusal) (simp l at (there Passed q)) in
          let z : 0 ≡ o = cc in
          omega arith

  pub found_short : f.refusal ≡ Passed → f.start + f.length ≤ 32768
  unfolding found_in
  found_short e = go (unreadable s) refl
    where
      go : (x : Refusal) → unreadable s ≡ x → f.start + f.length ≤ 32768
      go (Refused m p) q =
          let y : f.refusal ≡ Refused m p = ap (λ (f : Found). f.refusal) (there (Refused m p) q) in
          impossible cc
      go Passed q =
          let h : f.start + f.length ≤ length s = rw ef (within s i) in
          omega (arith, (readable s q).short)
