-- Laws of rows laid one after the other into a draft.
--     notes                          the first fault, with one row more
--     lays_none, .., lays_row        no row; any once the draft is full; some and then others; one
--     steps_none, steps_on, steps_over     a loop over step rows: those up to i are laid
--     each_none, each_on, each_over        a loop over rows by an entry for each index
-- Assumes nothing.
use mathlib.Core.Path.{◌≡◌, refl, sym, ap, ◌∙◌}
use mathlib.Core.Bool.{Bool, true, false, not}
use mathlib.Core.List.{List, [], ◌∷◌, ◌++◌, append_assoc, append-nil}
use Prim.Native.Nat.{ℕ, zero, suc, ◌+◌, ◌-◌, ◌*◌, ◌≤◌, ◌<◌}
use native.Mathlib.Omega.{arith}
use lib.ListN.{length, take, drop, length-append, length-drop}
use lib.Seq.{length-take-le, take-append-add, take-append-le}
use Rattle.book.specs.Missing.{Fault}
use Rattle.std.specs.Prelude.{None, Some}
use Rattle.std.specs.Option.{option_or}
use Rattle.book.proofs.Spans.{packed_join}
use Rattle.records.specs.Copies.{put_at}
use Rattle.writing.specs.declared.entries.Entry.{Entry}
use Rattle.writing.specs.declared.laying.Pen.{Pen}
use Rattle.rows.specs.Rows.{Row, step_row, step_row_in, rows_from, packed_rows}
use Rattle.rows.specs.Write.{first_row}
use Rattle.writing.specs.Asked.{Enters, noted, penned, Laid, Lays, LaysEach, steps_laid}

pub note_bad : (f : Fault) (bad : Bool) (at : ℕ) (r : Fault) → r ≡ option_or f (Some at) → bad ≡ true → r ≡ noted f bad at
unfolding noted
note_bad None bad at r e h = simp h e
note_bad (Some o) bad at r e h = e

pub note_good : (f : Fault) (bad : Bool) (at : ℕ) → bad ≡ false → f ≡ noted f bad at
unfolding noted
note_good None bad at h = simp h
note_good (Some o) bad at h = refl

pub ruleset notes = (note_bad, note_good)

-- where a list was put at an index, with room for it
module _ (d : List ℕ) (at : ℕ) (s : List ℕ) (h : at + length s ≤ length d) where
  before : length (take at d) ≡ at
  before = length-take-le at d (omega arith)

  head : length (take at d ++ s) ≡ at + length s
  head = length-append (take at d) s ∙ ap (λ m. m + length s) before

  put_first : (n : ℕ) → n ≤ length s → take (at + n) (put_at d at s) ≡ take at d ++ take n s
  put_first n l =
      let e : at + n ≡ length (take at d) + n = ap (λ m. m + n) (sym before) in
      take-append-le (at + n) (take at d ++ s) (drop (at + length s) d) (omega (arith, head)) ∙ ap (λ m. take m (take at d ++ s)) e
      ∙ take-append-add (take at d) s n

  pub put_long : length (put_at d at s) ≡ length d
  put_long = length-append (take at d ++ s) (drop (at + length s) d) ∙ omega (arith, head, length-drop (at + length s) d)

-- the first row at fault, with one more
first_more : (bad : Row → Bool) (o : ℕ) (rs : List Row) (r : Row)
    → first_row bad o (rs ++ r ∷ []) ≡ noted (first_row bad o rs) (bad r) (o + length (packed_rows rs))
unfolding first_row noted
first_more bad o [] r = go (bad r)
  where
    go : (b : Bool) → elim b [ true ↦ Some o | false ↦ None ] ≡ noted None b (o + 0)
    go true = ap Some (omega arith)
    go false = refl
first_more bad o (x ∷ xs) r = go (bad x) refl (first_more bad (o + length x.bytes) xs r)
  where
    go : (b : Bool) → bad x ≡ b
        → first_row bad (o + length x.bytes) (xs ++ r ∷ []) ≡ noted (first_row bad (o + length x.bytes) xs) (bad r) (o + length x.bytes + length (packed_rows xs))
        → first_row bad o (x ∷ (xs ++ r ∷ [])) ≡ noted (first_row bad o (x ∷ xs)) (bad r) (o + length (x.bytes ++ packed_rows xs))
    go true e i = simp (first_row, e)
    go false e i =
        let z : o + length x.bytes + length (packed_rows xs) ≡ o + length (x.bytes ++ packed_rows xs) = omega (arith, length-append x.bytes (packed_rows xs)) in
        simp (first_row, e) (i ∙ ap (λ m. noted (first_row bad (o + length x.bytes) xs) (bad r) m) z)

pub lays_none : (d : List ℕ) (p : Pen) → Lays [] d p d p
lays_none d p = record { on = λ all rest k. k; long = refl }

pub lays_over : (rs : List Row) (d : List ℕ) (p : Pen) → length d < p.at + 8 → Lays rs d p d p
lays_over rs d p h =
    record {
      on = λ all rest k.
          record {
            done = k.done;
            todo = k.todo;
            split = k.split;
            at = k.at;
            drafted = k.drafted;
            strange = k.strange;
            spare = k.spare;
            reached = λ l. absurd (omega arith);
          };
      long = refl;
    }

pub lays_then : (rs ts : List Row) (d : List ℕ) (p : Pen) (d' : List ℕ) (q : Pen) (d'' : List ℕ) (u : Pen)
    → Lays rs d p d' q → Lays ts d' q d'' u → Lays (rs ++ ts) d p d'' u
lays_then rs ts d p d' q d'' u h k =
    record {
      on = λ all rest l. k.on all rest (h.on all (ts ++ rest) (rw (append_assoc rs ts rest) at l));
      long = k.long ∙ h.long;
    }

module _ (r : Row) (d : List ℕ) (p : Pen) (e : Entry) (en : Enters e r) (room : p.at + 8 ≤ length d) where
  fits : p.at + length e.bytes ≤ length d
  fits = omega (arith, en.long)

  one : (all rest : List Row) → Laid all (r ∷ rest) d p → Laid all rest (put_at d p.at e.bytes) (penned p e)
  one all rest k =
      let join : packed_rows (k.done ++ r ∷ []) ≡ packed_rows k.done ++ r.bytes
      = packed_join (λ (r : Row). r.bytes) k.done (r ∷ []) ∙ ap (λ (l : List ℕ). packed_rows k.done ++ l) (append-nil r.bytes) in
      let size : length r.bytes ≡ e.length = sym (ap length en.bytes) ∙ length-take-le e.length e.bytes (omega (arith, en.fits, en.long)) in
      let z : p.at ≡ 0 + length (packed_rows k.done) = k.at ∙ omega arith in
      record {
        done = k.done ++ r ∷ [];
        todo = rest;
        split = append_assoc k.done (r ∷ []) rest ∙ ap (λ (l : List Row). k.done ++ l) (sym (k.reached room)) ∙ k.split;
        at = sym (ap length join ∙ length-append (packed_rows k.done) r.bytes ∙ omega (arith, k.at, size));
        drafted = put_first d p.at e.bytes fits e.length (omega (arith, en.fits, en.long)) ∙ rw (k.drafted, en.bytes) (sym join);
        strange = rw (k.strange, en.known, z) (sym (first_more (λ r. not r.known) 0 k.done r));
        spare = rw (k.spare, en.spare, z) (sym (first_more (λ r. r.spare) 0 k.done r));
        reached = λ l. refl;
      }

  pub lays_row : (d' : List ℕ) (q : Pen) → d' ≡ put_at d p.at e.bytes → q ≡ penned p e → Lays (r ∷ []) d p d' q
  lays_row d' q ed eq = rw (ed, eq) (record { on = one; long = put_long d p.at e.bytes fits })

-- rows of a table
module _ {A : Type 0} (f : ℕ → A) where
  pub rows_split : (n m a : ℕ) → rows_from f (n + m) a ≡ rows_from f n a ++ rows_from f m (a + n)
  unfolding rows_from
  rows_split zero m a = let z : a + 0 ≡ a = omega arith in let y : 0 + m ≡ m = omega arith in rw (z, y) refl
  rows_split (suc n) m a =
      let z : suc a + n ≡ a + suc n = omega arith in
      let y : suc n + m ≡ suc (n + m) = omega arith in
      rw y (ap (λ (l : List A). f a ∷ l) (rows_split n m (suc a) ∙ ap (λ i. rows_from f n (suc a) ++ rows_from f m i) z))

-- rows from a on, of which those up to i are laid, into a draft with a limit
module _ (f : ℕ → Row) (a i : ℕ) (d₀ : List ℕ) (p₀ : Pen) (d : List ℕ) (p : Pen) (k : Lays (rows_from f (i - a) a) d₀ p₀ d p) (h : a ≤ i) where
  pub laying_on : (e : Entry) (d' : List ℕ) (q : Pen) → p.at + 8 ≤ length d → Enters e (f i) → d' ≡ put_at d p.at e.bytes → q ≡ penned p e
      → Lays (rows_from f (i + 1 - a) a) d₀ p₀ d' q
  unfolding rows_from
  laying_on e d' q room en ed eq =
      let x : i + 1 - a ≡ (i - a) + 1 = omega arith in
      let y : a + (i - a) ≡ i = omega arith in
      rw (x, rows_split f (i - a) 1 a, y) (lays_then (rows_from f (i - a) a) (f i ∷ []) d₀ p₀ d p d' q k (lays_row (f i) d p e en room d' q ed eq))

  pub laying_over : (b : ℕ) → i ≤ b → length d < p.at + 8 → Lays (rows_from f (b - a) a) d₀ p₀ d p
  laying_over b l full =
      let x : b - a ≡ (i - a) + (b - i) = omega arith in
      rw (x, rows_split f (i - a) (b - i) a)
      (lays_then (rows_from f (i - a) a) (rows_from f (b - i) (a + (i - a))) d₀ p₀ d p d p k (lays_over (rows_from f (b - i) (a + (i - a))) d p full))

module _ (t : List ℕ) (a : ℕ) where
  pub steps_none : (d : List ℕ) (p : Pen) → Lays (steps_laid t (a - a) a) d p d p
  unfolding steps_laid rows_from
  steps_none d p = let z : a - a ≡ 0 = omega arith in rw z (lays_none d p)

  module _ (i : ℕ) (d₀ : List ℕ) (p₀ : Pen) (d : List ℕ) (p : Pen) (k : Lays (steps_laid t (i - a) a) d₀ p₀ d p) (h : a ≤ i) where
    pub steps_on : (e : Entry) (d' : List ℕ) (q : Pen) → p.at + 8 ≤ length d → Enters e (step_row (step_row_in t (i * 8)))
        → d' ≡ put_at d p.at e.bytes → q ≡ penned p e → Lays (steps_laid t (i + 1 - a) a) d₀ p₀ d' q
    unfolding steps_laid
    steps_on e d' q room en ed eq = laying_on _ a i d₀ p₀ d p k h e d' q room en ed eq

    pub steps_over : (b : ℕ) → i ≤ b → length d < p.at + 8 → Lays (steps_laid t (b - a) a) d₀ p₀ d p
    unfolding steps_laid
    steps_over b l full = laying_over _ a i d₀ p₀ d p k h b l full

-- the same of entries for each index
module _ (gives : ℕ → Entry → Type 0) where
  pub each_none : (d : List ℕ) (p : Pen) → LaysEach gives 0 d p d p
  unfolding rows_from
  each_none d p = record { laid = λ f h. lays_none d p }

  module _ (i : ℕ) (d₀ : List ℕ) (p₀ : Pen) (d : List ℕ) (p : Pen) (k : LaysEach gives i d₀ p₀ d p) where
    so_far : (f : ℕ → Row) → ((j : ℕ) (e : Entry) → j < i → gives j e → Enters e (f j)) → Lays (rows_from f (i - 0) 0) d₀ p₀ d p
    so_far f h = let z : i - 0 ≡ i = omega arith in rw z (k.laid f h)

    pub each_on : (e : Entry) → gives i e → (d' : List ℕ) (q : Pen) → p.at + 8 ≤ length d → d' ≡ put_at d p.at e.bytes → q ≡ penned p e
        → LaysEach gives (i + 1) d₀ p₀ d' q
    each_on e g d' q room ed eq =
        record {
          laid = λ f h.
              let z : i + 1 - 0 ≡ i + 1 = omega arith in
              let so = so_far f (λ j x l. h j x (omega arith)) in
              rw z at (laying_on f 0 i d₀ p₀ d p so (omega arith) e d' q room (h i e (omega arith) g) ed eq);
        }

    pub each_over : (n : ℕ) → i ≤ n → length d < p.at + 8 → LaysEach gives n d₀ p₀ d p
    each_over n l full =
        record {
          laid = λ f h.
              let z : n - 0 ≡ n = omega arith in
              let so = so_far f (λ j x m. h j x (omega arith)) in
              rw z at (laying_over f 0 i d₀ p₀ d p so (omega arith) n l full);
        }
