-- Records put one after the other into a list, for any record type.
--     padded        zeros are put behind what stands in the front
--     packed_on     behind some records is put one more
-- Assumes nothing.
use mathlib.Core.Path.{◌≡◌, refl, sym, ap, ◌∙◌}
use mathlib.Core.List.{List, [], ◌∷◌, ◌++◌, map, map-append, append_assoc, append-nil}
use Prim.Native.Nat.{ℕ, ◌+◌, ◌≤◌, ◌<◌}
use native.Mathlib.Omega.{arith}
use native.Mathlib.Numerals.{add-one}
use lib.ListN.{length, get_or, take, drop, length-append}
use lib.Seq.{take_at, take-suc, length-take-le}
use Rattle.book.specs.Outline.{pad}
use Rattle.book.proofs.Spans.{packed_join}
use Rattle.tables.specs.Bytes.{packed}
use Rattle.records.specs.Copies.{put_at}
use Rattle.tables.specs.Asked.{cleared}

packed_append : {B : Type 0} (bytes : B → List ℕ) (l : List B) (x : B) → packed bytes (l ++ x ∷ []) ≡ packed bytes l ++ bytes x
packed_append bytes l x = packed_join bytes l (x ∷ []) ∙ ap (λ (r : List ℕ). packed bytes l ++ r) (append-nil (bytes x))

put_front : (d : List ℕ) (at : ℕ) (s : List ℕ) → at + length s ≤ length d → take (at + length s) (put_at d at s) ≡ take at d ++ s
put_front d at s h =
    take_at (take at d ++ s) (drop (at + length s) d) (at + length s) (length-append (take at d) s ∙ omega (arith, length-take-le at d (omega arith)))

pub padded : (d xs new : List ℕ) (at size : ℕ) → take at d ≡ xs → at ≤ length d → length d ≡ size → new ≡ cleared d at → new ≡ pad size 0 xs
padded d xs new at size t h l e =
    let m : length xs ≡ at = sym (ap length t) ∙ length-take-le at d h in
    e ∙ rw (t, m, l) refl

-- behind pre and the bytes of the first i entries of l is put the next; `of` gives the record of what the code holds, and `bytes` its bytes
pub packed_on : {A B : Type 0} (of : A → B) (bytes : B → List ℕ) (pre : List ℕ) (l : List A) (out new b : List ℕ) (i p q : ℕ) (z : A)
    → take p out ≡ pre ++ packed bytes (map of (take i l)) → i < length l → b ≡ bytes (of (get_or l i z)) → p + length b ≤ length out
    → new ≡ put_at out p b → q ≡ p + length b
    → take q new ≡ pre ++ packed bytes (map of (take (i + 1) l))
packed_on of bytes pre l out new b i p q z front lt be room en e =
    rw (e, en, put_front out p b room, front, add-one, take-suc l i z lt, map-append, packed_append, be) (simp append_assoc)
