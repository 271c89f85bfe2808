-- Laws of a block of a book: where its record stands, its entry in the outline, and its stretch.
--     Stands, stands            the records of a group stand in the book, whole
--     get_pad, nth, entry_at    an entry of an outline's array
--     founds                    what find_block answers
--     stretches                 the stretch, which lies in the book
-- Assumes nothing.
use mathlib.Core.Path.{◌≡◌, refl, sym, ap, ◌∙◌}
use mathlib.Core.Bool.{Bool, true, false}
use mathlib.Core.List.{List, [], ◌∷◌, ◌++◌, map}
use Prim.Native.Nat.{ℕ, zero, suc, ◌+◌, ◌-◌, ◌≤◌, ◌<◌}
use native.Mathlib.Omega.{arith}
use lib.Dec.{ltb}
use lib.ListN.{length, get_or, take, drop, replicate}
use borrow.Author.Tests.{lt-ltb, le-ltb, ltb-true, ltb-false, eqb-true}
use Rattle.labels.proofs.Impossible.{impossible}
use Rattle.std.specs.Prelude.{None}
use Rattle.book.specs.Outcome.{Refusal, Passed, Refused}
use Rattle.book.specs.declared.Outline.{Outline}
use Rattle.book.specs.Outline.{Reading}
use Rattle.book.specs.Stretch.{Found}
use Rattle.book.specs.Control.{those}
use Rattle.book.specs.Kinds.{group}
use Rattle.book.specs.Records.{byte_at, next, records, records_from, in_group}
use Rattle.book.specs.Book.{group_of, blocks_of}
use Rattle.book.specs.Refusals.{cut_fault, unreadable}
use Rattle.book.specs.Outline.{pad, start_at, length_at, outline_of, reading_of, reading}
use Rattle.book.specs.Stretch.{lost, found_in, found_block, stretch}
use Rattle.book.specs.Asked.{Whole}
use Rattle.book.proofs.Groups.{block_span}
use Rattle.book.proofs.Records.{records_end, walk}
use Rattle.book.proofs.Past.{past_steps}
use Rattle.book.proofs.Limits.{most_blocks}
use Rattle.book.proofs.Readable.{readable}

-- a whole record of group g stands at o
pub record Stands (s : List ℕ) (g o : ℕ) : Type 0 where
  pub inside : o < length s
  pub whole : Whole s o
  pub kind : group (byte_at s o) ≡ g

module _ (s : List ℕ) (g : ℕ) where
  all_stand : (os : List ℕ) (a : ℕ) → records_from s a ≡ os → Whole s a → (i : ℕ) → i < length (those (in_group s g) os) → Stands s g (get_or (those (in_group s g) os) i 0)
  unfolding those
  all_stand [] a e w i h = absurd (omega arith)
  all_stand (o ∷ os) a e w i h = go (ltb a (length s)) refl (in_group s g o) refl i h (all_stand os (next s a))
    where
      go : (b : Bool) → ltb a (length s) ≡ b → (d : Bool) → in_group s g o ≡ d → (i : ℕ) → i < length (those (in_group s g) (o ∷ os))
          → (records_from s (next s a) ≡ os → Whole s (next s a) → (i : ℕ) → i < length (those (in_group s g) os) → Stands s g (get_or (those (in_group s g) os) i 0))
          → Stands s g (get_or (those (in_group s g) (o ∷ os)) i 0)
      go false l d q i h r = let x : o ∷ os ≡ [] = sym e ∙ records_end s a (ltb-false _ _ l) in impossible cc
      go true l true q zero h r =
          let n : a < length s = ltb-true _ _ l in
          let x : o ∷ os ≡ a ∷ records_from s (next s a) = sym e ∙ (walk s a w n).list in
          let y : o ≡ a = cc in
          simp (those, q) (record { inside = rw y n; whole = rw y w; kind = eqb-true _ _ q })
      go true l true q (suc i) h r =
          let k = walk s a w (ltb-true _ _ l) in
          let x : o ∷ os ≡ a ∷ records_from s (next s a) = sym e ∙ k.list in
          let m : suc i < suc (length (those (in_group s g) os)) = simp (those, q) at h in
          simp (those, q) (r (cc) k.rest i (omega arith))
      go true l false q i h r =
          let k = walk s a w (ltb-true _ _ l) in
          let x : o ∷ os ≡ a ∷ records_from s (next s a) = sym e ∙ k.list in
          simp (those, q) (r (cc) k.rest i (simp (those, q) at h))

  pub stands : cut_fault s ≡ None → (i : ℕ) → i < length (group_of s g) → Stands s g (get_or (group_of s g) i 0)
  unfolding cut_fault group_of
  stands w i h = all_stand (records s) 0 refl w i h

-- past the list stands the default, in an array too
module _ {A : Type 0} (d : A) where
  rest : (m i : ℕ) → get_or (replicate m d) i d ≡ d
  rest zero i = refl
  rest (suc m) zero = refl
  rest (suc m) (suc i) = rest m i

  pub get_pad : (l : List A) (m i : ℕ) → get_or (l ++ replicate m d) i d ≡ get_or l i d
  get_pad [] m i = rest m i
  get_pad (x ∷ xs) m zero = refl
  get_pad (x ∷ xs) m (suc i) = get_pad xs m i

-- an entry of a list that is made of another
pub nth : {A : Type 0} (f : ℕ → A) (d : A) (l : List ℕ) (i : ℕ) → i < length l → get_or (map f l) i d ≡ f (get_or l i 0)
nth f d [] i h = absurd (omega arith)
nth f d (x ∷ xs) zero h = refl
nth f d (x ∷ xs) (suc i) h = nth f d xs i (omega arith)

-- an entry of an outline's array
pub entry_at : {A : Type 0} (f : ℕ → A) (d : A) (n i : ℕ) (l : List ℕ) → i < length l → get_or (pad n d (map f l)) i d ≡ f (get_or l i 0)
entry_at f d n i l h = get_pad d (map f l) (n - length (map f l)) i ∙ nth f d l i h

-- what find_block answers; r is what read gave
module _ (s : List ℕ) (r : Reading) (er : r ≡ reading s) where
  pub passed : r.refusal ≡ Passed → unreadable s ≡ Passed
  unfolding reading_of
  passed e = go (unreadable s) refl
    where
      go : (x : Refusal) → unreadable s ≡ x → unreadable s ≡ Passed
      go Passed q = q
      go (Refused n o) q =
          let y : r ≡ reading_of (Refused n o) s = er ∙ ap (λ (x : Refusal). reading_of x s) q in
          let z : r.refusal ≡ Refused n o = ap (λ (x : Reading). x.refusal) y in
          impossible cc

  pub outline_is : r.refusal ≡ Passed → r.outline ≡ outline_of s
  unfolding reading_of
  outline_is e = ap (λ (x : Reading). x.outline) (er ∙ ap (λ (x : Refusal). reading_of x s) (passed e))

  blocks_are : r.refusal ≡ Passed → r.outline.counts.blocks ≡ length (blocks_of s)
  unfolding outline_of
  blocks_are e = ap (λ (t : Outline). t.counts.blocks) (outline_is e)

  pub found_room : (i : ℕ) → r.refusal ≡ Passed → i < r.outline.counts.blocks → i < 64
  found_room i e h = let m = most_blocks s (readable s (passed e)).few in omega (arith, blocks_are e)

  pub found_refused : (i n o : ℕ) (f : Found) → r.refusal ≡ Refused n o → f ≡ lost n o → f ≡ found_block s i
  unfolding found_in reading_of
  found_refused i n o f e ef = go (unreadable s) refl
    where
      go : (x : Refusal) → unreadable s ≡ x → f ≡ found_in (unreadable s) s i
      go Passed q =
          let y : r.refusal ≡ Passed = ap (λ (x : Reading). x.refusal) (er ∙ ap (λ (x : Refusal). reading_of x s) q) in
          impossible cc
      go (Refused m p) q =
          let y : r.refusal ≡ Refused m p = ap (λ (x : Reading). x.refusal) (er ∙ ap (λ (x : Refusal). reading_of x s) q) in
          let a : n ≡ m = cc in
          let b : o ≡ p = cc in
          rw (q, ← a, ← b) ef

  module _ (i : ℕ) (e : r.refusal ≡ Passed) where
    pub found_missing : (f : Found) → r.outline.counts.blocks ≤ i → f ≡ lost 12 0 → f ≡ found_block s i
    unfolding found_in
    found_missing f h ef = ef ∙ simp (passed e, le-ltb i (length (blocks_of s)) (omega (arith, blocks_are e)))

    pub found_there : i < r.outline.counts.blocks
        → record { refusal = Passed; start = get_or r.outline.starts i 0; length = get_or r.outline.lengths i 0 } ≡ found_block s i
    unfolding found_in outline_of
    found_there h =
        let l : i < length (blocks_of s) = omega (arith, blocks_are e) in
        let x : get_or r.outline.starts i 0 ≡ start_at (get_or (blocks_of s) i 0)
        = ap (λ (t : Outline). get_or t.starts i 0) (outline_is e) ∙ entry_at start_at 0 64 i (blocks_of s) l in
        let y : get_or r.outline.lengths i 0 ≡ length_at s (get_or (blocks_of s) i 0)
        = ap (λ (t : Outline). get_or t.lengths i 0) (outline_is e) ∙ entry_at (length_at s) 0 64 i (blocks_of s) l in
        simp (passed e, lt-ltb _ _ l, x, y)

pub ruleset founds = (found_refused, found_missing, found_there)

-- the stretch lies in the book
module _ (s : List ℕ) (i : ℕ) where
  inside : unreadable s ≡ Passed → i < length (blocks_of s)
      → start_at (get_or (blocks_of s) i 0) + length_at s (get_or (blocks_of s) i 0) ≤ length s
  unfolding length_at
  inside e h =
      let o = get_or (blocks_of s) i 0 in
      let x = stands s 4 (readable s e).whole i h in
      let w = walk s o x.whole x.inside in
      let n = block_span (byte_at s o) x.kind in
      let p = past_steps s (o + 2) (rw n at w.rest) (rw n at w.inside) in
      omega (arith, p.bytes, p.inside)

  pub within : (found_block s i).start + (found_block s i).length ≤ length s
  unfolding found_in
  within = go (unreadable s) refl (ltb i (length (blocks_of s))) refl
    where
      go : (x : Refusal) → unreadable s ≡ x → (b : Bool) → ltb i (length (blocks_of s)) ≡ b → (found_in x s i).start + (found_in x s i).length ≤ length s
      go (Refused n o) q b l = omega arith
      go Passed q true l = rw l (inside q (ltb-true _ _ l))
      go Passed q false l = rw l (omega arith)

-- f is what find_block gave
module _ (s : List ℕ) (i : ℕ) (f : Found) (ef : f ≡ found_block s i) where
  pub stretch_inside : f.start + f.length ≤ length s
  stretch_inside = rw ef (within s i)

  pub stretch_is : take (f.start + f.length - f.start) (drop f.start s) ≡ stretch s i
  unfolding stretch
  stretch_is =
      let n : f.start + f.length - f.start ≡ f.length = omega arith in
      rw (n, ef) refl

pub ruleset stretches = (stretch_inside, stretch_is)
