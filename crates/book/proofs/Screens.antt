-- Laws of refusals 2 to 5 in one pass: each record that passes is whole, in order, not one too many, and in range.
--     fits_whole, unfit    a record that refusals 2 and 5 do not hold of
--     Screened             what every stage gives from an offset on is what it gives of the book
--     screens              one set: before the first record, past a record, at the end
-- Assumes nothing.
use mathlib.Core.Path.{◌≡◌, refl, sym, ◌∙◌}
use mathlib.Core.Bool.{Bool, true, false}
use mathlib.Core.List.{List}
use Prim.Native.Nat.{ℕ, ◌+◌, ◌-◌, ◌≤◌, ◌<◌, min}
use native.Mathlib.Omega.{arith}
use lib.Dec.{eqb}
use lib.ListN.{length}
use borrow.Author.Tests.{eqb-true, le-ltb}
use Rattle.labels.proofs.Impossible.{impossible}
use Rattle.book.specs.declared.Tally.{Tally}
use Rattle.book.specs.Control.{first}
use Rattle.book.specs.Kinds.{span, group}
use Rattle.book.specs.Records.{byte_at, cut, records_from}
use Rattle.book.specs.Refusals.{cut_fault, in_order, misplaced, order_fault, no_tally, counted, too_many, beyond, count_fault, out_of_range, range_fault}
use Rattle.book.specs.Asked.{Clear, Fixed, Fit}
use Rattle.book.proofs.Spans.{uncut, uncut_inside, fault_more}
use Rattle.book.proofs.Sweep.{sweep_past}
use Rattle.book.proofs.Stages.{cut_start, cut_end, order_start, order_end, count_start, none_few, count_end, range_start, range_end}
use Rattle.book.proofs.Ranges.{third_above}

-- a record that has room for what its kind fixes, and no field above its largest value
pub fits_whole : (s : List ℕ) (bytes : (i : ℕ) → byte_at s i < 256) (o w a b c x y z : ℕ) → Fixed (byte_at s o) w a b c → o < length s → w ≤ length s - o
    → x ≡ byte_at s (o + 1) → y ≡ byte_at s (o + 2) → z ≡ byte_at s (o + 3) → x ≤ a → y ≤ b → z ≤ c
    → (w ≡ 0 → ⊥) → Fit s o w
fits_whole s bytes o w a b c x y z k h l ex ey ez la lb lc d =
    record {
      bytes = k.bytes;
      uncut = uncut span s o (λ e. d (k.bytes ∙ e)) (rw k.bytes at (room w l));
      narrow = sym (third_above s bytes o a x k.limited.0 ex b y k.limited.1 ey la c z k.limited.2 ez lb) ∙ le-ltb _ _ lc;
    }
  where
    room : (v : ℕ) → v ≤ length s - o → o + v ≤ length s
    room v r = omega arith

pub unfit : (s : List ℕ) (o : ℕ) → (◌≡◌ {A = ℕ} 0 0 → ⊥) → Fit s o 0
unfit s o d = absurd (d refl)

-- at o, after a record of group p and so many records
pub record Screened (s : List ℕ) (o p : ℕ) (n : Tally) : Type 0 where
  pub inside : o ≤ length s
  pub few : too_many n ≡ false
  pub cuts : first (cut s) (records_from s o) ≡ cut_fault s
  pub orders : misplaced s p (records_from s o) ≡ order_fault s
  pub counts : beyond s n (records_from s o) ≡ count_fault s
  pub ranges : first (out_of_range s) (records_from s o) ≡ range_fault s

pub screen_start : (s : List ℕ) → Screened s 0 0 no_tally
screen_start s =
    record {
      inside = omega arith;
      few = none_few;
      cuts = cut_start s;
      orders = order_start s;
      counts = count_start s;
      ranges = range_start s;
    }

module _ (s : List ℕ) (o p : ℕ) (n : Tally) (x : Screened s o p n) where
  -- a record of w bytes and of group g that passes
  pub screen_on : (w g q : ℕ) (m : Tally) (a b : Bool) → o < length s → g ≡ group (byte_at s o) → ((w ≡ 0 → ⊥) → Fit s o w) → (w ≡ 0 → ⊥)
      → a ≡ in_order p g → a ≡ true → m ≡ counted n g → b ≡ too_many m → b ≡ false → q ≡ min g 4 → Screened s (o + w) q m
  unfolding misplaced beyond
  screen_on w g q m a b h eg f d ea ta em eb tb eq =
      let k = f d in
      record {
        inside = rw k.bytes (uncut_inside span s o k.uncut);
        few = sym eb ∙ tb;
        cuts = rw k.bytes (fault_more span s o _ x.cuts h k.uncut);
        orders = rw (k.bytes, eq, eg) (sweep_past _ _ _ s p o _ x.orders h k.uncut (simp (← eg, ← ea, ta)));
        counts = rw (k.bytes, em, eg) (sweep_past _ _ _ s n o _ x.counts h k.uncut (simp (← eg, ← em, ← eb, tb)));
        ranges = rw k.bytes (sweep_past _ _ _ s tt o _ x.ranges h k.uncut k.narrow);
      }

  pub screen_end : length s ≤ o → eqb p 4 ≡ true → Clear s
  screen_end h e =
      record {
        whole = sym (cut_end s o _ x.cuts h);
        ordered = sym (order_end s o p _ x.orders h (eqb-true _ _ e));
        few = sym (count_end s o n _ x.counts h);
        narrow = sym (range_end s o _ x.ranges h);
      }

pub screen_none : (s : List ℕ) → false ≡ true → Clear s
screen_none s e = impossible cc

pub ruleset screens = (screen_start, screen_on, screen_end, screen_none)
