-- Laws of a table of shapes, four bytes to a shape.
--     shape_get, shape_read          the shape of a number
--     shape_put                      four stores
--     Tabled                         a table that is filled from its front, done records behind and left records ahead
--     table_start, table_push        empty; one more
--     table_room, table_end          there is room for one more; nothing is left
-- Assumes nothing.
use mathlib.Core.Path.{◌≡◌, refl, sym, ap, ◌∙◌}
use mathlib.Core.List.{List, [], ◌∷◌, ◌++◌, map, map-append, append_assoc, append-nil}
use Prim.Native.Nat.{ℕ, zero, suc, ◌+◌, ◌-◌, ◌*◌, ◌≤◌, ◌<◌}
use native.Mathlib.Omega.{arith}
use native.Mathlib.Numerals.{add-one, add-two, add-three}
use lib.ListN.{length, get_or, set, take, drop, replicate, length-append, length-map, length-replicate}
use lib.Seq.{take_at, drop-append-add, sets-eq}
use Rattle.labels.specs.Labels.{label, trust}
use Rattle.book.specs.declared.Shape.{Shape}
use Rattle.book.specs.Records.{byte_at}
use Rattle.book.specs.Refusals.{no_shape}
use Rattle.book.specs.Book.{shape_at}
use Rattle.book.specs.Outline.{pad, shape_bytes, shape_in, shapes_table}

pub table_length : (xs : List Shape) → length (shapes_table xs) ≡ 4 * length xs
unfolding shapes_table
table_length [] = refl
table_length (x ∷ xs) = let h = table_length xs in simp length-append (omega arith)

table_append : (xs ys : List Shape) → shapes_table (xs ++ ys) ≡ shapes_table xs ++ shapes_table ys
unfolding shapes_table
table_append [] ys = refl
table_append (x ∷ xs) ys = ap (λ (l : List ℕ). shape_bytes x ++ l) (table_append xs ys)

table_more : (xs : List Shape) (x : Shape) → shapes_table (xs ++ (x ∷ [])) ≡ shapes_table xs ++ shape_bytes x
unfolding shapes_table
table_more xs x = table_append xs (x ∷ [])

abbrev zeros : ℕ → List ℕ
zeros n = replicate n 0

rest : (m i : ℕ) → ◌≡◌ {A = ℕ} (get_or (zeros m) i 0) 0
rest zero i = refl
rest (suc m) zero = refl
rest (suc m) (suc i) = rest m i

shape_eq : {k k' b b' c c' t t' : ℕ} → k ≡ k' → b ≡ b' → c ≡ c' → t ≡ t'
    → ◌≡◌ {A = Shape} (record { kind = k; bound = label b; content = c; trust = trust t }) (record { kind = k'; bound = label b'; content = c'; trust = trust t' })
shape_eq p q r u = cc

-- four bytes on
on : (a b c d : ℕ) (l : List ℕ) (n m : ℕ) → n ≡ suc (suc (suc (suc m))) → get_or (a ∷ b ∷ c ∷ d ∷ l) n 0 ≡ get_or l m 0
on a b c d l n m e = ap (λ (i : ℕ). get_or (a ∷ b ∷ c ∷ d ∷ l) i 0) e

pub shape_get : (xs : List Shape) (m i : ℕ) → shape_in (shapes_table xs ++ zeros m) i ≡ get_or xs i no_shape
unfolding shapes_table
shape_get [] m i = shape_eq (rest m _) (rest m _) (rest m _) (rest m _)
shape_get (x ∷ xs) m zero = refl
shape_get (x ∷ xs) m (suc i) =
    let l = shapes_table xs ++ zeros m in
    shape_eq
    (on _ _ _ _ l (4 * suc i) (4 * i) (omega arith))
    (on _ _ _ _ l (4 * suc i + 1) (4 * i + 1) (omega arith))
    (on _ _ _ _ l (4 * suc i + 2) (4 * i + 2) (omega arith))
    (on _ _ _ _ l (4 * suc i + 3) (4 * i + 3) (omega arith))
    ∙ shape_get xs m i

-- four stores
pub shape_put : (shapes : List ℕ) (i : ℕ) (x : Shape) → i < 32 → length shapes ≡ 128
    → set (set (set (set shapes (4 * i) x.kind) (4 * i + 1) x.bound.0) (4 * i + 2) x.content) (4 * i + 3) x.trust.0
    ≡ take (4 * i) shapes ++ shape_bytes x ++ drop (4 * i + 4) shapes
shape_put shapes i x h e = rw (add-one, add-two, add-three) (sets-eq (shape_bytes x) shapes (4 * i) (omega arith))

module _ (s : List ℕ) where
  pub record Tabled (all left : List ℕ) (n : ℕ) (shapes : List ℕ) : Type 0 where
    pub done : List ℕ
    pub room : ℕ
    pub parts : all ≡ done ++ left
    pub is : shapes ≡ shapes_table (map (shape_at s) done) ++ zeros (4 * room)
    pub count : n ≡ length done
    pub fits : n + room ≡ 32

  pub table_start : (all : List ℕ) → Tabled all all 0 (replicate 128 0)
  unfolding shapes_table
  table_start all = record { done = []; room = 32; parts = refl; is = refl; count = refl; fits = refl }

  module _ (all left : List ℕ) (n : ℕ) (shapes : List ℕ) where
    sized : (done : List ℕ) → n ≡ length done → length (shapes_table (map (shape_at s) done)) ≡ 4 * n
    sized done e = table_length (map (shape_at s) done) ∙ ap (λ (k : ℕ). 4 * k) (length-map done (shape_at s) ∙ sym e)

    pub table_sized : Tabled all left n shapes → length shapes ≡ 128
    table_sized f =
        let a = sized f.done f.count in
        ap length f.is ∙ simp (length-append, length-replicate) (omega (arith, f.fits))

    pub table_room : (o : ℕ) → length all ≤ 32 → Tabled all (o ∷ left) n shapes → n < 32
    table_room o h f =
        let e : length all ≡ length f.done + suc (length left) = ap length f.parts ∙ length-append f.done (o ∷ left) in
        omega (arith, f.count)

    pub table_push : (o : ℕ) (x : Shape) (next : List ℕ) → length all ≤ 32 → x ≡ shape_at s o
        → next ≡ take (4 * n) shapes ++ shape_bytes x ++ drop (4 * n + 4) shapes → Tabled all (o ∷ left) n shapes → Tabled all left (n + 1) next
    table_push o x next h ex en f = go f.room f.is f.fits
      where
        T : List ℕ
        T = shapes_table (map (shape_at s) f.done)

        front : (R : List ℕ) → take (4 * n) (T ++ R) ≡ T
        front R = take_at T R (4 * n) (sized f.done f.count)

        back : (R : List ℕ) → drop (4 * n + 4) (T ++ R) ≡ drop 4 R
        back R = ap (λ (k : ℕ). drop (k + 4) (T ++ R)) (sym (sized f.done f.count)) ∙ drop-append-add T R 4

        go : (m : ℕ) → shapes ≡ T ++ zeros (4 * m) → n + m ≡ 32 → Tabled all left (n + 1) next
        go zero e g = let r = table_room o h f in absurd (omega arith)
        go (suc m) e g =
            let k : 4 * suc m ≡ suc (suc (suc (suc (4 * m)))) = omega arith in
            let R = zeros (4 * suc m) in
            let d : drop 4 R ≡ zeros (4 * m) = ap (λ (j : ℕ). drop 4 (zeros j)) k in
            let a : next ≡ T ++ shape_bytes (shape_at s o) ++ zeros (4 * m)
            = en ∙ rw (e, front R, back R, d, ex) refl in
            record {
              done = f.done ++ (o ∷ []);
              room = m;
              parts = f.parts ∙ sym (append_assoc f.done (o ∷ []) left);
              is =
                  a ∙ ap (λ (l : List ℕ). l ++ zeros (4 * m))
                  (sym (ap shapes_table (map-append (shape_at s) f.done (o ∷ [])) ∙ table_more (map (shape_at s) f.done) (shape_at s o)));
              count = simp length-append (omega (arith, f.count));
              fits = omega arith;
            }

    pub table_end : Tabled all [] n shapes → (shapes ≡ pad 128 0 (shapes_table (map (shape_at s) all))) × (n ≡ length all)
    table_end f =
        let e : all ≡ f.done = f.parts ∙ append-nil f.done in
        let l : n ≡ length all = f.count ∙ ap length (sym e) in
        let k = sized f.done f.count in
        let m : 4 * f.room ≡ 128 - length (shapes_table (map (shape_at s) f.done)) = omega (arith, f.fits) in
        (rw (f.is, e, m), l)

pub shape_read : (shapes : List ℕ) (i k b c t : ℕ) → k ≡ byte_at shapes (4 * i) → b ≡ byte_at shapes (4 * i + 1) → c ≡ byte_at shapes (4 * i + 2)
    → t ≡ byte_at shapes (4 * i + 3) → record { kind = k; bound = label b; content = c; trust = trust t } ≡ shape_in shapes i
shape_read shapes i k b c t p q r u = shape_eq p q r u
