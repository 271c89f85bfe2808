-- A ring of places, and a scan of it.
--     by_order                                two numbers, by their order
--     first_on, first_wraps, first_inside     where a scan begins
--     far, far_on, .., far_next               how far a place is from another
--     scan_hits, scan_misses                  one place of a scan
--     all_ahead, .., misses_behind            the same where the code scans the ring in two straight runs
--     Finds, finds                            the scan finds the first that passes
--     closer                                  a turn brings the next place nearer to every other
--     scan_same, scan_inside, scan_passes     what a scan depends on, and what it finds
--     scan_none                               where it finds none, none passes
-- Assumes nothing.
use Prim.Native.Nat.{ℕ, zero, suc, ◌+◌, ◌-◌, ◌≤◌, ◌<◌}
use native.Mathlib.Omega.{arith}
use mathlib.Core.Path.{◌≡◌, refl, sym, ap, ◌∙◌}
use mathlib.Core.Bool.{Bool, true, false}
use lib.Dec.{ltb}
use borrow.Author.Tests.{ltb-true, ltb-false, lt-ltb, le-ltb}
use Rattle.labels.proofs.Impossible.{impossible}
use Rattle.book.specs.Control.{when◌then◌else◌}
use Rattle.book.proofs.Tests.{clash}
use Rattle.rotation.specs.Found.{JobFound}
use Rattle.std.specs.Prelude.{Some, None}
use Rattle.rotation.specs.Round.{first_place, after, scan}

pub by_order : {X : Type 0} (a b : ℕ) → (a < b → X) → (b ≤ a → X) → X
by_order {X} a b f g = go (ltb a b) refl
  where
    go : (c : Bool) → ltb a b ≡ c → X
    go true e = f (ltb-true a b e)
    go false e = g (ltb-false a b e)

-- ---- the first place
pub first_on : (i m : ℕ) → i < m → first_place i m ≡ i
unfolding first_place
first_on i m h = simp (lt-ltb i m h)

pub first_wraps : (i m : ℕ) → m ≤ i → first_place i m ≡ 0
unfolding first_place
first_wraps i m h = simp (le-ltb i m h)

pub first_inside : (i m : ℕ) → 0 < m → first_place i m < m
first_inside i m h =
    by_order i m (λ l. let e = first_on i m l in omega arith) (λ l. let e = first_wraps i m l in omega arith)

-- ---- distances
-- how far place t is from place i in a ring of n
unfoldable pub far : ℕ → ℕ → ℕ → ℕ
far n i t = when ltb t i then n - i + t else t - i

pub far_wraps : (n i t : ℕ) → t < i → far n i t ≡ n - i + t
unfolding far
far_wraps n i t h = simp (lt-ltb t i h)

pub far_on : (n i t : ℕ) → i ≤ t → far n i t ≡ t - i
unfolding far
far_on n i t h = simp (le-ltb t i h)

pub far_inside : (n i t : ℕ) → i ≤ n → t < n → far n i t < n
far_inside n i t l h =
    by_order t i (λ a. let e = far_wraps n i t a in omega arith) (λ a. let e = far_on n i t a in omega arith)

-- a place that is not this one is one nearer from the next
pub far_next : (m i t : ℕ) → i < m → t < m → (i ≡ t → ⊥) → suc (far m (after i m) t) ≡ far m i t
far_next m i t l lt ne =
    by_order (suc i) m
    (λ h. rw (first_on (suc i) m h) (by_order t i
    (λ p. let a = far_wraps m i t p in let b = far_wraps m (suc i) t (omega arith) in omega arith)
    (λ p. let a = far_on m i t p in let q : i < t = strict i t p ne in let b = far_on m (suc i) t (omega arith) in omega arith)))
    (λ h. rw (first_wraps (suc i) m h) (by_order t i
    (λ p. let a = far_wraps m i t p in let b = far_on m 0 t (omega arith) in omega arith)
    (λ p. absurd (ne (omega arith)))))
  where
    strict : (i t : ℕ) → i ≤ t → (i ≡ t → ⊥) → i < t
    strict i t p ne = by_order i t (λ q. q) (λ q. absurd (ne (omega arith)))

-- ---- one place of a scan
module _ (f : ℕ → Bool) (m k i : ℕ) where
  pub scan_hits : f i ≡ true → scan f m (suc k) i ≡ Some i
  unfolding scan
  scan_hits e = simp (scan, e)

  pub scan_misses : f i ≡ false → scan f m (suc k) i ≡ scan f m k (after i m)
  unfolding scan
  scan_misses e = simp (scan, e)

-- ---- the ring in two straight runs: the places ahead, from a place on, and then those behind it
module _ (f : ℕ → Bool) (m : ℕ) where
  pub all_ahead : (i : ℕ) → i < m → scan f m (m - i + i) (first_place i m) ≡ scan f m m i
  all_ahead i l = let c : m - i + i ≡ m = omega arith in ap (λ (k : ℕ). scan f m k (first_place i m)) c ∙ ap (scan f m m) (first_on i m l)

  ahead : (r b i : ℕ) → i < m → scan f m (suc r + b) (first_place i m) ≡ scan f m (suc (r + b)) i
  ahead r b i l =
      let c : suc r + b ≡ suc (r + b) = omega arith in
      ap (λ (k : ℕ). scan f m k (first_place i m)) c ∙ ap (scan f m (suc (r + b))) (first_on i m l)

  pub hits_ahead : (r b i : ℕ) → f i ≡ true → i < m → Some i ≡ scan f m (suc r + b) (first_place i m)
  hits_ahead r b i e l = sym (ahead r b i l ∙ scan_hits f m (r + b) i e)

  pub misses_ahead : (r b i : ℕ) → f i ≡ false → i < m → scan f m (r + b) (first_place (i + 1) m) ≡ scan f m (suc r + b) (first_place i m)
  misses_ahead r b i e l =
      let n : i + 1 ≡ suc i = omega arith in
      ap (λ (j : ℕ). scan f m (r + b) (first_place j m)) n ∙ sym (ahead r b i l ∙ scan_misses f m (r + b) i e)

  pub none_ahead : (b i : ℕ) → m ≤ i → scan f m b 0 ≡ scan f m (zero + b) (first_place i m)
  none_ahead b i l = let c : b ≡ zero + b = omega arith in ap (λ (k : ℕ). scan f m k 0) c ∙ sym (ap (scan f m (zero + b)) (first_wraps i m l))

  pub misses_behind : (k i : ℕ) → f i ≡ false → i + 1 < m → scan f m k (i + 1) ≡ scan f m (suc k) i
  misses_behind k i e l =
      let n : after i m ≡ suc i = first_on (suc i) m (omega arith) in
      let a : after i m ≡ i + 1 = omega arith in
      sym (scan_misses f m k i e ∙ ap (scan f m k) a)

-- ---- what a scan finds
-- it passes, it is a place of the ring, and it is no further than t
pub record Finds (f : ℕ → Bool) (m i t : ℕ) (x : JobFound) : Type 0 where
  pub at : ℕ
  pub is : x ≡ Some at
  pub passes : f at ≡ true
  pub inside : at < m
  pub near : far m i at ≤ far m i t

module _ (f : ℕ → Bool) (m t : ℕ) (ft : f t ≡ true) (lt : t < m) where
  pub finds : (k i : ℕ) → i < m → far m i t < k → Finds f m i t (scan f m k i)
  finds zero i l h = absurd (omega arith)
  finds (suc k) i l h = go (f i) refl (λ a b. finds k (after i m) a b)
    where
      go : (b : Bool) → f i ≡ b → (after i m < m → far m (after i m) t < k → Finds f m (after i m) t (scan f m k (after i m)))
          → Finds f m i t (scan f m (suc k) i)
      go true e r = record { at = i; is = scan_hits f m k i e; passes = e; inside = l; near = let z = far_on m i i (omega arith) in omega arith }
      go false e g =
          let ne : (i ≡ t → ⊥) = λ q. clash ft (ap f (sym q) ∙ e) in
          let n = far_next m i t l lt ne in
          let r = g (first_inside (suc i) m (omega arith)) (omega arith) in
          let na : (i ≡ r.at → ⊥) = λ q. clash r.passes (ap f (sym q) ∙ e) in
          let n' = far_next m i r.at l r.inside na in
          let w = r.near in
          record { at = r.at; is = scan_misses f m k i e ∙ r.is; passes = r.passes; inside = r.inside; near = omega arith }

-- A turn steps job j, the first from place i on, and the next begins at the place after it: each other job t that has a step left is then
-- nearer than it was, in a ring of the tables' size too.
module _ (size m i j t : ℕ) (li : i ≤ m) (fits : m ≤ size) (lj : j < m) (lt : t < m) (ne : j ≡ t → ⊥) where
  pub closer : far m (first_place i m) j ≤ far m (first_place i m) t → far size (suc j) t < far size i t
  closer h =
      by_order i m
      (λ a. let e = first_on i m a in by_order t i
      (λ p. let x = far_wraps size i t p in let x₀ = far_wraps m (first_place i m) t (omega arith) in
      by_order j i
      (λ q. let y₀ = far_wraps m (first_place i m) j (omega arith) in let s : j < t = lower (omega arith) in let z = far_on size (suc j) t (omega arith) in omega arith)
      (λ q. let z = far_wraps size (suc j) t (omega arith) in omega arith))
      (λ p. let x = far_on size i t p in let x₀ = far_on m (first_place i m) t (omega arith) in
      by_order j i
      (λ q. let y₀ = far_wraps m (first_place i m) j (omega arith) in absurd (omega arith))
      (λ q. let y₀ = far_on m (first_place i m) j (omega arith) in let s : j < t = lower (omega arith) in let z = far_on size (suc j) t (omega arith) in omega arith)))
      (λ a. let e = first_wraps i m a in
      let x = far_wraps size i t (omega arith) in let x₀ = far_on m (first_place i m) t (omega arith) in let y₀ = far_on m (first_place i m) j (omega arith) in
      let s : j < t = lower (omega arith) in let z = far_on size (suc j) t (omega arith) in omega arith)
    where
      lower : j ≤ t → j < t
      lower p = by_order j t (λ q. q) (λ q. absurd (ne (omega arith)))

-- ---- what a scan depends on, and what its answer says
-- only the tests of the ring's own places
pub scan_same : (f g : ℕ → Bool) (m : ℕ) → ((i : ℕ) → i < m → f i ≡ g i) → (k i : ℕ) → i < m → scan f m k i ≡ scan g m k i
unfolding scan
scan_same f g m h zero i l = refl
scan_same f g m h (suc k) i l = go (f i) refl (scan_same f g m h k (after i m) (first_inside (suc i) m (omega arith)))
  where
    go : (b : Bool) → f i ≡ b → scan f m k (after i m) ≡ scan g m k (after i m) → scan f m (suc k) i ≡ scan g m (suc k) i
    go true p r = scan_hits f m k i p ∙ sym (scan_hits g m k i (sym (h i l) ∙ p))
    go false p r = scan_misses f m k i p ∙ r ∙ sym (scan_misses g m k i (sym (h i l) ∙ p))

pub scan_inside : (f : ℕ → Bool) (m k i j : ℕ) → i < m → scan f m k i ≡ Some j → j < m
unfolding scan
scan_inside f m zero i j l e = impossible cc
scan_inside f m (suc k) i j l e = go (f i) refl (scan_inside f m k (after i m) j (first_inside (suc i) m (omega arith)))
  where
    go : (b : Bool) → f i ≡ b → (scan f m k (after i m) ≡ Some j → j < m) → j < m
    go true p r = let q = scan_hits f m k i p in let z : i ≡ j = cc in omega arith
    go false p r = r (sym (scan_misses f m k i p) ∙ e)

pub scan_passes : (f : ℕ → Bool) (m k i j : ℕ) → scan f m k i ≡ Some j → f j ≡ true
unfolding scan
scan_passes f m zero i j e = impossible cc
scan_passes f m (suc k) i j e = go (f i) refl (scan_passes f m k (after i m) j)
  where
    go : (b : Bool) → f i ≡ b → (scan f m k (after i m) ≡ Some j → f j ≡ true) → f j ≡ true
    go true p r = let q = scan_hits f m k i p in let z : i ≡ j = cc in cc
    go false p r = r (sym (scan_misses f m k i p) ∙ e)

pub scan_none : (f : ℕ → Bool) (m i : ℕ) → scan f m m i ≡ None → i < m → (j : ℕ) → j < m → f j ≡ false
scan_none f m i e l j lj = go (f j) refl
  where
    go : (b : Bool) → f j ≡ b → f j ≡ false
    go false p = p
    go true p =
        let r = finds f m j p lj m i l (far_inside m i j (omega arith) lj) in
        let a : scan f m m i ≡ Some r.at = r.is in
        impossible cc
