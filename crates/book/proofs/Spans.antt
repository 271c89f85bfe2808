-- Laws of records that lie one after the other, by any span, with no word of how many there may be.
--     cut_kind, cut_body, uncut                  which records are cut
--     uncut_span, uncut_inside                   what one that is not says of the next offset
--     offsets_end, offsets_cut, offsets_more     the records from an offset on
--     fault_end, fault_cut, fault_more           z is the first that is cut, of those from an offset on
--     Walked, walk, falls                        what a whole record says of the next
--     packed_join                                records and then others, one after the other
-- Assumes nothing.
use mathlib.Core.Path.{◌≡◌, refl, sym, ap, ◌∙◌}
use mathlib.Core.Bool.{Bool, true, false}
use mathlib.Core.List.{List, [], ◌∷◌, ◌++◌, append_assoc}
use Prim.Native.Nat.{ℕ, zero, suc, ◌+◌, ◌-◌, ◌≤◌, ◌<◌}
use native.Mathlib.Omega.{arith}
use lib.Dec.{eqb, ltb}
use lib.ListN.{length}
use borrow.Author.Tests.{lt-ltb, le-ltb, eq-eqb, ne_eqb, eqb-false, ltb-false}
use Rattle.labels.proofs.Impossible.{impossible}
use Rattle.book.specs.Missing.{Fault}
use Rattle.std.specs.Prelude.{None, Some}
use Rattle.book.specs.Control.{either, sweep, first}
use Rattle.book.specs.Spans.{byte_at, next_by, cut_by, offsets_in, offsets_by, packed}
use Rattle.book.proofs.Tests.{either_left, either_right, either_true}

module _ (span : ℕ → ℕ) where
  module _ (s : List ℕ) (o : ℕ) where
    pub cut_kind : span (byte_at s o) ≡ 0 → cut_by span s o ≡ true
    unfolding cut_by either
    cut_kind e = simp (eq-eqb _ _ e)

    pub cut_body : length s < next_by span s o → cut_by span s o ≡ true
    unfolding cut_by
    cut_body h = simp (lt-ltb (length s) (next_by span s o) h, either_true)

    pub uncut : (span (byte_at s o) ≡ 0 → ⊥) → next_by span s o ≤ length s → cut_by span s o ≡ false
    unfolding cut_by either
    uncut n h = simp (ne_eqb _ _ n, le-ltb (length s) (next_by span s o) h)

    module _ (c : cut_by span s o ≡ false) where
      pub uncut_span : 0 < span (byte_at s o)
      unfolding cut_by
      uncut_span =
          let w : (span (byte_at s o) ≡ 0 → ⊥) = eqb-false _ _ (either_left _ _ c) in
          omega arith

      pub uncut_inside : next_by span s o ≤ length s
      unfolding cut_by
      uncut_inside = ltb-false _ _ (either_right (eqb (span (byte_at s o)) 0) (ltb (length s) (next_by span s o)) c)

  -- any number that the rest of the bytes has room in will do
  enough : (f g : ℕ) (s : List ℕ) (o : ℕ) → length s ≤ o + f → length s ≤ o + g → offsets_in span f s o ≡ offsets_in span g s o
  unfolding offsets_in
  enough zero zero s o p q = refl
  enough zero (suc g) s o p q = simp (offsets_in, le-ltb o (length s) (omega arith))
  enough (suc f) zero s o p q = simp (offsets_in, le-ltb o (length s) (omega arith))
  enough (suc f) (suc g) s o p q = inside (ltb o (length s)) refl (λ h k. enough f g s (next_by span s o) h k)
    where
      here : (b : Bool) → cut_by span s o ≡ b → ltb o (length s) ≡ true
          → (length s ≤ next_by span s o + f → length s ≤ next_by span s o + g → offsets_in span f s (next_by span s o) ≡ offsets_in span g s (next_by span s o))
          → offsets_in span (suc f) s o ≡ offsets_in span (suc g) s o
      here true k h r = simp (offsets_in, h, k)
      here false k h r =
          let w = uncut_span s o k in
          simp (offsets_in, h, k) (ap (λ (l : List ℕ). o ∷ l) (r (omega arith) (omega arith)))

      inside : (b : Bool) → ltb o (length s) ≡ b
          → (length s ≤ next_by span s o + f → length s ≤ next_by span s o + g → offsets_in span f s (next_by span s o) ≡ offsets_in span g s (next_by span s o))
          → offsets_in span (suc f) s o ≡ offsets_in span (suc g) s o
      inside false h r = simp (offsets_in, h)
      inside true h r = here (cut_by span s o) refl h r

  module _ (s : List ℕ) (o : ℕ) where
    pub offsets_end : length s ≤ o → offsets_by span s o ≡ []
    unfolding offsets_by offsets_in
    offsets_end h = ends (length s)
      where
        ends : (f : ℕ) → offsets_in span f s o ≡ []
        ends zero = refl
        ends (suc f) = simp (offsets_in, le-ltb o (length s) h)

    pub offsets_cut : o < length s → cut_by span s o ≡ true → offsets_by span s o ≡ o ∷ []
    unfolding offsets_by offsets_in
    offsets_cut h k = go (length s) (omega arith)
      where
        go : (f : ℕ) → 0 < f → offsets_in span f s o ≡ o ∷ []
        go zero p = absurd (omega arith)
        go (suc f) p = simp (offsets_in, lt-ltb o (length s) h, k)

    pub offsets_more : o < length s → cut_by span s o ≡ false → offsets_by span s o ≡ o ∷ offsets_by span s (next_by span s o)
    unfolding offsets_by offsets_in
    offsets_more h k = go (length s) (omega arith)
      where
        go : (f : ℕ) → length s ≤ f → offsets_in span f s o ≡ o ∷ offsets_in span (length s) s (next_by span s o)
        go zero p = absurd (omega arith)
        go (suc f) p =
            let w = uncut_span s o k in
            simp (offsets_in, lt-ltb o (length s) h, k)
            (ap (λ (l : List ℕ). o ∷ l) (enough f (length s) s (next_by span s o) (omega arith) (omega arith)))

    module _ (z : Fault) (inv : first (cut_by span s) (offsets_by span s o) ≡ z) where
      pub fault_end : length s ≤ o → None ≡ z
      unfolding sweep
      fault_end h = simp (offsets_end h) at inv

      pub fault_cut : o < length s → cut_by span s o ≡ true → Some o ≡ z
      unfolding sweep
      fault_cut h c = simp (offsets_cut h c, sweep, c) at inv

      pub fault_more : o < length s → cut_by span s o ≡ false → first (cut_by span s) (offsets_by span s (next_by span s o)) ≡ z
      unfolding sweep
      fault_more h c = simp (offsets_more h c, sweep, c) at inv

  -- the record at o is whole, and so are those after it
  pub record Walked (s : List ℕ) (o : ℕ) : Type 0 where
    pub uncut : cut_by span s o ≡ false
    pub spanned : 0 < span (byte_at s o)
    pub inside : next_by span s o ≤ length s
    pub list : offsets_by span s o ≡ o ∷ offsets_by span s (next_by span s o)
    pub rest : first (cut_by span s) (offsets_by span s (next_by span s o)) ≡ None

  module _ (s : List ℕ) (o : ℕ) (w : first (cut_by span s) (offsets_by span s o) ≡ None) (h : o < length s) where
    pub walk : Walked s o
    walk = go (cut_by span s o) refl
      where
        go : (b : Bool) → cut_by span s o ≡ b → Walked s o
        go true c =
            let e : Some o ≡ None = fault_cut s o None w h c in
            impossible cc
        go false c =
            record {
              uncut = c;
              spanned = uncut_span s o c;
              inside = uncut_inside s o c;
              list = offsets_more s o h c;
              rest = fault_more s o None w h c;
            }

    -- what is left of the bytes falls
    pub falls : (p : ℕ) → p ≡ next_by span s o → length s - p < length s - o
    falls p e = omega (arith, walk.spanned, walk.inside)

pub packed_join : {A : Type 0} (bytes : A → List ℕ) (l m : List A) → packed bytes (l ++ m) ≡ packed bytes l ++ packed bytes m
packed_join bytes [] m = refl
packed_join bytes (x ∷ l) m =
    ap (λ (r : List ℕ). bytes x ++ r) (packed_join bytes l m) ∙ sym (append_assoc (bytes x) (packed bytes l) (packed bytes m))
