-- What a reader of a book gives.
--     reads_end                  no record is left
--     reads_last, reads_on       the record at hand, and those behind it, by where it ends: none behind one that is cut
--     past_last, past_on         where the reader stands then
--     goes_on                    they are fewer
--     serves_reads, first_read   of `find`: each record that it asks its test of is inside the book, and it gives the first that passes
-- Assumes nothing.
use mathlib.Core.Path.{◌≡◌, refl, sym, ap, ◌∙◌}
use mathlib.Core.Bool.{Bool, true, false}
use mathlib.Core.List.{List, [], ◌∷◌}
use Prim.Native.Nat.{ℕ, ◌≤◌, ◌<◌}
use native.Mathlib.Omega.{arith}
use lib.Dec.{ltb}
use lib.ListN.{length}
use borrow.Author.Tests.{ltb-true, ltb-false, eq-eqb, ne_eqb}
use denote.Param.Members.{Mut}
use denote.Ref.{Bor}
use Rattle.std.specs.Prelude.{⊤, Option, None, Some}
use Rattle.std.specs.List.{FoldsTo, find}
use Rattle.std.specs.Option.{option_map}
use Rattle.std.specs.Fn.{CalledAt}
use Rattle.std.specs.Iterator.{MakesProgress, item_count, Yields, FindsItem, CallableAtEachTurn}
use Rattle.std.proofs.lemmas.Iterator.{YieldsList}
use Rattle.std.proofs.lemmas.Iterator.Consumers.{YieldsList-from_shown}
use Rattle.std.proofs.lemmas.Iterator.Search.{find_from_yields_List}
use Rattle.book.specs.Control.{sweep, first}
use Rattle.records.specs.declared.reader.Reader.{Reader}
use Rattle.records.specs.Readers.{reader_at, records_left, read_past, ReadsOn}
use Rattle.book.specs.Kinds.{span}
use Rattle.book.specs.Records.{next, records_from}
use Rattle.book.proofs.Spans.{cut_kind, cut_body, uncut, offsets_end, offsets_cut, offsets_more}

module _ (s : List ℕ) (o : ℕ) where
  pub reads_end : length s ≤ o → records_from s o ≡ []
  reads_end h = offsets_end span s o h

  module _ (h : o < length s) (e : ℕ) (en : e ≡ next s o) where
    pub reads_last : e ≡ o → (p : ℕ) → length s ≤ p → records_from s o ≡ o ∷ records_from s p
    reads_last q p b = rw (offsets_end span s p b) (offsets_cut span s o h (cut_kind span s o (omega arith)))

    pub reads_on : (e ≡ o → ⊥) → records_from s o ≡ o ∷ records_from s e
    reads_on n = go (ltb (length s) e) refl
      where
        go : (b : Bool) → ltb (length s) e ≡ b → records_from s o ≡ o ∷ records_from s e
        go true p =
            let l : length s < e = ltb-true _ _ p in
            rw (offsets_end span s e (omega arith)) (offsets_cut span s o h (cut_body span s o (omega arith)))
        go false p =
            let l : e ≤ length s = ltb-false _ _ p in
            rw en (offsets_more span s o h (uncut span s o (λ z. n (omega arith)) (omega arith)))

module _ (s : List ℕ) (o e : ℕ) (en : e ≡ next s o) where
  pub past_last : e ≡ o → length s ≡ read_past s o
  past_last q = simp (eq-eqb (next s o) o (sym en ∙ q))

  pub past_on : (e ≡ o → ⊥) → e ≡ read_past s o
  past_on n = simp (ne_eqb (next s o) o (λ z. n (en ∙ z))) en

pub goes_on : (s t : Reader) (o : ℕ) → records_left s ≡ o ∷ records_left t → MakesProgress (λ _. ⊤) (item_count records_left) s (Some o) t
goes_on s t o e =
    let l : length (records_left t) < length (records_left s) = omega (arith, ap length e) in
    record { on = λ _. (tt, tt, l); keeps = tt; rests = λ _. tt }

-- ---- `find` over a reader
reads_list : (r : Reader) → YieldsList ReadsOn (λ x. x) r (records_left r)
reads_list = YieldsList-from_shown ReadsOn (λ x. x) records_left (λ s t h. ap length h.1.0) (λ s x t h. h.1.2)

same_book : (xs : List ℕ) (r t : Reader) → Yields ReadsOn r xs t → t.book ≡ r.book
same_book [] r t e = ap (λ (x : Reader). x.book) (sym e)
same_book (x ∷ xs) r t (j, h, y) = same_book xs j t y ∙ h.0

module _ {F : Type 0} (R : F → ℕ → F → Type 0) (f : F) (keeps : (o : ℕ) (q : F) → R f o q → q ≡ f) where
  stays : (xs : List ℕ) (p q : F) → p ≡ f → FoldsTo R p xs q → q ≡ f
  stays [] p q e h = sym h ∙ e
  stays (x ∷ xs) p q e (j, h, k) = stays xs j q (keeps x j (rw e at h)) k

  pub serves_reads : (Q : F → ℕ → Type 0) (s : Bor (List ℕ)) (i : ℕ) (r : Reader) → r ≡ reader_at s i → ((o : ℕ) → o < length s.now → Q f o)
      → CallableAtEachTurn ReadsOn R Q r f
  serves_reads Q s i r is h =
      record {
        at = λ xs t q x u y k n.
            let b : t.book ≡ s = same_book xs r t y ∙ ap (λ (z : Reader). z.book) is in
            let e : f ≡ q = sym (stays xs f q refl k) in
            rw (← e) (h x (rw b at n.1.1));
      }

first_is : (test : ℕ → Bool) (os : List ℕ) → find test os ≡ first test os
unfolding sweep
first_is test [] = refl
first_is test (o ∷ os) = go (test o) refl (first_is test os)
  where
    go : (b : Bool) → test o ≡ b → find test os ≡ first test os → find test (o ∷ os) ≡ first test (o ∷ os)
    go true e r = simp (sweep, e)
    go false e r = simp (sweep, e) r

mapped : (x : Option ℕ) → option_map (λ y. y) x ≡ x
mapped None = refl
mapped (Some x) = refl

pub first_read : {F : Type 0} {g : Mut F (Bor ℕ × Unit {0}) Bool} (test : ℕ → Bool) (s : Bor (List ℕ)) (i : ℕ) (r u : Reader) (f : F) (x : Option ℕ) → r ≡ reader_at s i
    → FindsItem ReadsOn g r f x u → ((o : ℕ) (b : Bool) (q : F) → CalledAt g f o b q → (q ≡ f) × (b ≡ test o)) → x ≡ first test (records_from s.now i)
first_read test s i r u f x is h k =
    sym (mapped x) ∙ find_from_yields_List test u f x h (reads_list r) k ∙ first_is test (records_left r) ∙ ap (λ (z : Reader). first test (records_left z)) is
