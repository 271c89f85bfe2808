-- An array that is filled from its front, an entry for each record of a group.
--     Filled                        done records behind, left records ahead, n entries in the array
--     fill_start, fill_push         empty; one more
--     fill_room, fill_end           there is room for one more; nothing is left
-- Assumes nothing.
use mathlib.Core.Path.{◌≡◌, refl, sym, ap, ◌∙◌}
use mathlib.Core.List.{List, [], ◌∷◌, ◌++◌, map, map-append, append_assoc, append-nil}
use Prim.Native.Nat.{ℕ, zero, suc, ◌+◌, ◌-◌, ◌≤◌, ◌<◌}
use native.Mathlib.Omega.{arith}
use lib.ListN.{length, set, replicate, length-append, length-map}
use lib.Seq.{set_at}
use Rattle.book.specs.Outline.{pad}

module _ {A : Type 0} (d : A) (size : ℕ) (entry : ℕ → A) where
  pub record Filled (all left : List ℕ) (n : ℕ) (arr : List A) : Type 0 where
    pub done : List ℕ
    pub room : ℕ
    pub parts : all ≡ done ++ left
    pub is : arr ≡ map entry done ++ replicate room d
    pub count : n ≡ length done
    pub fits : n + room ≡ size

  pub fill_start : (all : List ℕ) → Filled all all 0 (replicate size d)
  fill_start all = record { done = []; room = size; parts = refl; is = refl; count = refl; fits = omega arith }

  module _ (all left : List ℕ) (n : ℕ) (arr : List A) where
    pub fill_room : (o : ℕ) → length all ≤ size → Filled all (o ∷ left) n arr → n < size
    fill_room o h f =
        let e : length all ≡ length f.done + suc (length left) = ap length f.parts ∙ length-append f.done (o ∷ left) in
        omega (arith, f.count)

    pub fill_push : (o : ℕ) → length all ≤ size → Filled all (o ∷ left) n arr → Filled all left (n + 1) (set arr n (entry o))
    fill_push o h f = go f.room f.is f.fits
      where
        go : (m : ℕ) → arr ≡ map entry f.done ++ replicate m d → n + m ≡ size → Filled all left (n + 1) (set arr n (entry o))
        go zero e g = let r = fill_room o h f in absurd (omega arith)
        go (suc m) e g =
            let k : length (map entry f.done) ≡ n = length-map f.done entry ∙ sym f.count in
            record {
              done = f.done ++ (o ∷ []);
              room = m;
              parts = f.parts ∙ sym (append_assoc f.done (o ∷ []) left);
              is =
                  rw (e, map-append)
                  (set_at (map entry f.done) d (replicate m d) (entry o) n k ∙ sym (append_assoc (map entry f.done) (entry o ∷ []) (replicate m d)));
              count = simp length-append (omega (arith, f.count));
              fits = omega arith;
            }

    pub fill_end : Filled all [] n arr → (arr ≡ pad size d (map entry all)) × (n ≡ length all)
    fill_end f =
        let e : all ≡ f.done = f.parts ∙ append-nil f.done in
        let l : n ≡ length all = f.count ∙ ap length (sym e) in
        let k : length (map entry all) ≡ length all = length-map all entry in
        let m : f.room ≡ size - length (map entry all) = omega (arith, f.fits) in
        (rw (f.is, ← e, m), l)
