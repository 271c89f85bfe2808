-- Laws of what the writer answers.
--     join_none, .., by_five, earliers     a refusal with the first spare field
--     judge_is            refusals 3 to 6, by the reader's
--     unsound_whole, .., unsound_vetted     refusals 2 to 6
--     deliver_refused, ..     what goes into the buffer
--     finish_is, too_long     the whole answer, from a draft; refusal 1
-- Assumes nothing.
use mathlib.Core.Path.{◌≡◌, refl, sym, ap, ◌∙◌}
use mathlib.Core.Bool.{Bool, true, false, not}
use mathlib.Core.List.{List}
use Prim.Native.Nat.{ℕ, ◌+◌, ◌≤◌, ◌<◌}
use native.Mathlib.Omega.{arith}
use lib.Dec.{eqb, ltb}
use lib.ListN.{length}
use borrow.Author.Tests.{ne_eqb, lt-ltb, le-ltb}
use Rattle.book.specs.Missing.{Fault}
use Rattle.std.specs.Prelude.{None, Some, Ok, Err}
use Rattle.std.specs.Result.{result_and}
use Rattle.book.specs.declared.Outline.{Outline}
use Rattle.book.specs.declared.Refused as D
use Rattle.book.specs.declared.Ground.TheVariants.{LongBook, Cut, OutOfRange, ShortBuffer}
use Rattle.book.specs.Outcome.{Refusal, Passed, Refused, Given, ground_number, outcome}
use Rattle.book.specs.Outline.{Reading}
use Rattle.book.specs.Control.{when◌then◌else◌}
use Rattle.book.specs.Refusals.{cut_fault, order_fault, count_fault, range_fault, name_fault, or_refuse, unreadable}
use Rattle.book.specs.Outline.{reading_of, read_by, reading}
use Rattle.records.specs.Copies.{put_at}
use Rattle.rows.specs.Rows.{BookTables, rows, bytes_of, total}
use Rattle.rows.specs.Write.{unknown_fault, spare_fault, earlier, unwritable, WriteResult, write_by, written_of, written}
use Rattle.rows.proofs.Packs.{known_whole}
use Rattle.vetting.specs.Asked.{SoundTables}
use Rattle.writing.specs.declared.laying.Pen.{Pen}
use Rattle.writing.specs.Asked.{Drafted, earlier_of, joined, judged, unsound, roomed}

-- a refusal r, and where the first spare field stands
module _ (r : Refusal) (f : Fault) where
  pub join_none : f ≡ None → r ≡ joined r f
  unfolding joined
  join_none e = go r f e
    where
      go : (r : Refusal) (f : Fault) → f ≡ None → r ≡ joined r f
      go r f e = rw e refl

  module _ (o : ℕ) (e : f ≡ Some o) where
    pub join_passed : r ≡ Passed → Refused 5 o ≡ joined r f
    unfolding joined
    join_passed h = rw (h, e) refl

    module _ (n p : ℕ) (h : r ≡ Refused n p) where
      pub join_before : n < 5 → Refused n p ≡ joined r f
      unfolding joined
      join_before l = rw (h, e) (simp (lt-ltb n 5 l))

      pub join_behind : (x : ℕ) → 5 ≤ n → x ≡ earlier_of n p o → Refused 5 x ≡ joined r f
      unfolding joined
      join_behind x l q = rw (h, e, q) (simp (le-ltb n 5 l))

-- refusal 5 as it is handed out
pub by_five : (r : Refusal) (e : D.Refused) (p : ℕ) → e ≡ record { why = OutOfRange; place = p } → Refused 5 p ≡ r → Refused (ground_number e.why) e.place ≡ r
by_five r e p q h = ap (λ (e : D.Refused). Refused (ground_number e.why) e.place) q ∙ h

module _ (n p o : ℕ) where
  pub earlier_first : n ≡ 5 → p < o → p ≡ earlier_of n p o
  unfolding earlier_of
  earlier_first e l = rw e (omega arith)

  pub earlier_last : n ≡ 5 → o ≤ p → o ≡ earlier_of n p o
  unfolding earlier_of
  earlier_last e l = rw e (omega arith)

  pub earlier_other : (n ≡ 5 → ⊥) → o ≡ earlier_of n p o
  unfolding earlier_of
  earlier_other e = simp (ne_eqb n 5 e)

pub ruleset earliers = (earlier_first, earlier_last, earlier_other)

-- refusals 3 to 6 of a book of which 1 and 2 do not hold, by the reader's
by_reader : (a b c d f : Fault)
    → joined (or_refuse 3 a (or_refuse 4 b (or_refuse 5 c (or_refuse 6 d Passed)))) f ≡ or_refuse 3 a (or_refuse 4 b (or_refuse 5 (earlier f c) (or_refuse 6 d Passed)))
unfolding joined or_refuse earlier earlier_of
by_reader a b c d None = refl
by_reader (Some p) b c d (Some o) = refl
by_reader None (Some p) c d (Some o) = refl
by_reader None None (Some p) d (Some o) = refl
by_reader None None None (Some p) (Some o) = refl
by_reader None None None None (Some o) = refl

readable_so : (s : List ℕ) → length s ≤ 32768 → cut_fault s ≡ None
    → unreadable s ≡ or_refuse 3 (order_fault s) (or_refuse 4 (count_fault s) (or_refuse 5 (range_fault s) (or_refuse 6 (name_fault s) Passed)))
unfolding unreadable or_refuse
readable_so s l c = rw (le-ltb 32768 (length s) l, c) refl

read_refusal : (q : Refusal) (s : List ℕ) → (reading_of q s).refusal ≡ q
unfolding reading_of
read_refusal Passed s = refl
read_refusal (Refused n o) s = refl

same_refusal : (x : Given Outline) → outcome (result_and x (Ok (tt {0}))) ≡ outcome x
same_refusal (Ok t) = refl
same_refusal (Err e) = refl

-- r is what the judge gives, q what stands for the reader's refusal
pub judge_is : (s : List ℕ) (f : Fault) (x : Given Outline) (q : Given (Unit {0})) (r : Given (Unit {0})) → length s ≤ 32768 → cut_fault s ≡ None
    → read_by x ≡ reading s → q ≡ result_and x (Ok (tt {0})) → outcome r ≡ joined (outcome q) f → outcome r ≡ judged s f
unfolding judged
judge_is s f x q r l c e eq er =
    let u : unreadable s ≡ or_refuse 3 (order_fault s) (or_refuse 4 (count_fault s) (or_refuse 5 (range_fault s) (or_refuse 6 (name_fault s) Passed))) = readable_so s l c in
    er ∙ ap (λ q. joined q f) (ap outcome eq ∙ same_refusal x ∙ ap (λ (y : Reading). y.refusal) e ∙ read_refusal (unreadable s) s ∙ u)
    ∙ by_reader (order_fault s) (count_fault s) (range_fault s) (name_fault s) f

-- refusals 2 to 6 of tables, from their draft
module _ (t : BookTables) (s : List ℕ) (p : Pen) (k : Drafted t s p) where
  pub unsound_whole : p.strange ≡ None → (length s ≤ 32768) × (cut_fault s ≡ None)
  unsound_whole e = (k.short, rw k.bytes (known_whole t (sym k.strange ∙ e)))

  module _ (b : Bool) (e : b ≡ eqb (total t.blocks) (length t.steps)) where
    pub unsound_counts : b ≡ false → (r : D.Refused) → r ≡ record { why = Cut; place = 0 } → Refused (ground_number r.why) r.place ≡ unsound t
    unfolding unsound
    unsound_counts h r q = let z : eqb (total t.blocks) (length t.steps) ≡ false = sym e ∙ h in rw q (simp z)

    module _ (h : b ≡ true) where
      pub unsound_strange : (o : ℕ) → p.strange ≡ Some o → (r : D.Refused) → r ≡ record { why = Cut; place = o }
          → Refused (ground_number r.why) r.place ≡ unsound t
      unfolding unsound or_refuse
      unsound_strange o f r q =
          let z : eqb (total t.blocks) (length t.steps) ≡ true = sym e ∙ h in
          let y : unknown_fault (rows t) ≡ Some o = sym k.strange ∙ f in
          rw q (simp (z, y))

      pub unsound_judged : p.strange ≡ None → (r : Refusal) → r ≡ judged s p.spare → r ≡ unsound t
      unfolding unsound or_refuse
      unsound_judged f r er =
          let z : eqb (total t.blocks) (length t.steps) ≡ true = sym e ∙ h in
          let y : unknown_fault (rows t) ≡ None = sym k.strange ∙ f in
          let x : r ≡ judged (bytes_of t) (spare_fault (rows t)) = er ∙ rw (k.bytes, k.spare) refl in
          simp (z, y) x

  -- rows that are sound at first sight
  pub unsound_vetted : (b : Bool) → (b ≡ true → SoundTables t) → b ≡ true → (r : Refusal) → r ≡ joined Passed p.spare → r ≡ unsound t
  unfolding unsound judged or_refuse
  unsound_vetted b f h r er =
      let v = f h in
      let x : joined Passed p.spare ≡ or_refuse 5 (earlier p.spare None) Passed = by_reader None None None None p.spare in
      er ∙ x ∙ ap (λ f. or_refuse 5 (earlier f None) Passed) k.spare
      ∙ sym (rw (v.counted, v.known, v.ordered, v.few, v.narrow, v.named) refl)

-- what goes into the buffer; q is the refusal before 13, w what is given
module _ (q : Given (Unit {0})) (s out : List ℕ) where
  pub deliver_refused : (w : Given ℕ) (e : D.Refused) → w ≡ Err e → q ≡ Err e
      → write_by w out ≡ written_of (roomed (outcome q) (length s) (length out)) s out
  unfolding roomed written_of
  deliver_refused w e ew f = rw (ew, f) refl

  module _ (u : Unit {0}) (p : q ≡ Ok u) where
    pub deliver_short : (e : D.Refused) → length out < length s → e ≡ record { why = ShortBuffer; place = 0 }
        → write_by (Err e) out ≡ written_of (roomed (outcome q) (length s) (length out)) s out
    unfolding roomed written_of
    deliver_short e l f = rw (p, f, lt-ltb (length out) (length s) l) refl

    pub deliver_done : (out' : List ℕ) → length s ≤ length out → out' ≡ put_at out 0 s
        → write_by (Ok (length s)) out' ≡ written_of (roomed (outcome q) (length s) (length out)) s out
    unfolding roomed written_of
    deliver_done out' l f = let z : 0 + length s ≡ length s = omega arith in rw (p, f, le-ltb (length out) (length s) l, z) refl

pub ruleset delivers = (deliver_refused, deliver_short, deliver_done)

-- 13 after 6
room_last : (e : Bool) (u a b c d : Fault) (size room : ℕ)
    → (when not e then Refused 2 0
    else or_refuse 2 u (or_refuse 3 a (or_refuse 4 b (or_refuse 5 c (or_refuse 6 d (when ltb room size then Refused 13 0 else Passed))))))
    ≡ roomed (when not e then Refused 2 0 else or_refuse 2 u (or_refuse 3 a (or_refuse 4 b (or_refuse 5 c (or_refuse 6 d Passed))))) size room
unfolding or_refuse roomed
room_last false u a b c d size room = refl
room_last true (Some o) a b c d size room = refl
room_last true None (Some o) b c d size room = refl
room_last true None None (Some o) c d size room = refl
room_last true None None None (Some o) d size room = refl
room_last true None None None None (Some o) size room = refl
room_last true None None None None None size room = refl

module _ (t : BookTables) where
  room_is : (room : ℕ) → length (bytes_of t) ≤ 32768 → unwritable t room ≡ roomed (unsound t) (length (bytes_of t)) room
  unfolding unwritable unsound judged
  room_is room l =
      rw (le-ltb 32768 (length (bytes_of t)) l)
      (room_last (eqb (total t.blocks) (length t.steps)) (unknown_fault (rows t)) (order_fault (bytes_of t)) (count_fault (bytes_of t))
      (earlier (spare_fault (rows t)) (range_fault (bytes_of t))) (name_fault (bytes_of t)) (length (bytes_of t)) room)

  pub finish_is : (s : List ℕ) (p : Pen) → Drafted t s p → (q : Refusal) → q ≡ unsound t → (out : List ℕ) (w : WriteResult)
      → w ≡ written_of (roomed q (length s) (length out)) s out → w ≡ written t out
  finish_is s p k q e out w h =
      let l : length (bytes_of t) ≤ 32768 = rw k.bytes at k.short in
      h ∙ rw (k.bytes, e, room_is (length out) l) refl

  pub too_long : (out out' : List ℕ) → out' ≡ out → (e : D.Refused) → 32768 < length (bytes_of t) → e ≡ record { why = LongBook; place = 0 }
      → write_by (Err e) out' ≡ written t out
  unfolding unwritable written_of
  too_long out out' same w l e = rw (same, e, lt-ltb 32768 (length (bytes_of t)) l) refl
