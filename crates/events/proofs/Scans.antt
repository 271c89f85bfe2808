-- Laws of the scan of an event list, for the code.
--     spans, says, cuts      one set for the bytes of a kind, one for the event at an offset, one for a cut event
--     scans                  one for the loop
-- Assumes nothing.
use mathlib.Core.Path.{◌≡◌, refl, sym, ap, ◌∙◌}
use mathlib.Core.Bool.{Bool, true, false}
use mathlib.Core.List.{List}
use Prim.Native.Nat.{ℕ, zero, suc, ◌+◌, ◌*◌, ◌-◌, ◌≤◌, ◌<◌}
use native.Mathlib.Omega.{arith}
use lib.Dec.{ltb}
use lib.ListN.{length, length-map}
use borrow.Author.Tests.{lt-ltb, le-ltb, ltb-true, ltb-false, ne_eqb}
use Rattle.labels.specs.Labels.{label}
use Rattle.std.specs.Prelude.{Err, None, Some}
use Rattle.book.specs.declared.Refused as D
use Rattle.book.specs.declared.Ground.TheVariants.{BadList}
use Rattle.book.specs.Outcome.{Passed}
use Rattle.book.specs.Control.{first}
use Rattle.book.specs.Records.{byte_at, number_at}
use Rattle.book.specs.Refusals.{or_refuse}
use Rattle.book.proofs.Spans as by
use Rattle.machine.specs.declared.Event.TheVariants.{StepOf, WriteBy, RelabelBy, NewBy, ExecBy, StartBy}
use Rattle.events.specs.Bytes.{Scanned}
use Rattle.events.specs.Asked.{Steps}
use Rattle.events.specs.Bytes.{event_span, next_event, event_cut, offsets_from, event_at, events_from, event_fault, unplayable, scan_by, scan_of, scanned}

-- the bytes of each kind
module _ (k : ℕ) where
  pub span_80 : k ≡ 80 → 2 ≡ event_span k
  unfolding event_span
  span_80 e = simp e

  pub span_81 : k ≡ 81 → 8 ≡ event_span k
  unfolding event_span
  span_81 e = simp e

  pub span_82 : k ≡ 82 → 4 ≡ event_span k
  unfolding event_span
  span_82 e = simp e

  pub span_83 : k ≡ 83 → 8 ≡ event_span k
  unfolding event_span
  span_83 e = simp e

  pub span_84 : k ≡ 84 → 3 ≡ event_span k
  unfolding event_span
  span_84 e = simp e

  pub span_85 : k ≡ 85 → 3 ≡ event_span k
  unfolding event_span
  span_85 e = simp e

  pub span_none : (k ≡ 80 → ⊥) → (k ≡ 81 → ⊥) → (k ≡ 82 → ⊥) → (k ≡ 83 → ⊥) → (k ≡ 84 → ⊥) → (k ≡ 85 → ⊥) → 0 ≡ event_span k
  unfolding event_span
  span_none a b c d e f = simp (ne_eqb _ _ a, ne_eqb _ _ b, ne_eqb _ _ c, ne_eqb _ _ d, ne_eqb _ _ e, ne_eqb _ _ f)

pub ruleset spans = (span_80, span_81, span_82, span_83, span_84, span_85, span_none)

-- x, y, z are the bytes after the kind, and n the number after them
module _ (l : List ℕ) (o x : ℕ) (ex : x ≡ byte_at l (o + 1)) where
  pub is_step : byte_at l o ≡ 80 → StepOf x ≡ event_at l o
  unfolding event_at
  is_step h = simp (h, ex)

  module _ (y : ℕ) (ey : y ≡ byte_at l (o + 2)) where
    pub is_exec : byte_at l o ≡ 84 → ExecBy (label x) y ≡ event_at l o
    unfolding event_at
    is_exec h = simp (h, ex, ey)

    pub is_start : (byte_at l o ≡ 80 → ⊥) → (byte_at l o ≡ 81 → ⊥) → (byte_at l o ≡ 82 → ⊥) → (byte_at l o ≡ 83 → ⊥) → (byte_at l o ≡ 84 → ⊥)
        → StartBy (label x) y ≡ event_at l o
    unfolding event_at
    is_start a b c d e = simp (ne_eqb _ _ a, ne_eqb _ _ b, ne_eqb _ _ c, ne_eqb _ _ d, ne_eqb _ _ e, ex, ey)

    module _ (z : ℕ) (ez : z ≡ byte_at l (o + 3)) where
      pub is_relabel : byte_at l o ≡ 82 → RelabelBy (label x) y (label z) ≡ event_at l o
      unfolding event_at
      is_relabel h = simp (h, ex, ey, ez)

      module _ (n : ℕ) (en : n ≡ number_at l (o + 4)) where
        pub is_write : byte_at l o ≡ 81 → WriteBy (label x) y z n ≡ event_at l o
        unfolding event_at
        is_write h = simp (h, ex, ey, ez, en)

        pub is_new : byte_at l o ≡ 83 → NewBy (label x) y z n ≡ event_at l o
        unfolding event_at
        is_new h = simp (h, ex, ey, ez, en)

pub ruleset says = (is_step, is_write, is_relabel, is_new, is_exec, is_start)

-- w is the bytes of the event at o
module _ (l : List ℕ) (o w : ℕ) (q : w ≡ event_span (byte_at l o)) (h : o < length l) where
  pub cut_kind : w ≡ 0 → true ≡ event_cut l o
  cut_kind e = sym (by.cut_kind event_span l o (sym q ∙ e))

  pub cut_body : length l - o < w → true ≡ event_cut l o
  cut_body e = sym (by.cut_body event_span l o (omega arith))

  pub cut_not : (w ≡ 0 → ⊥) → w ≤ length l - o → false ≡ event_cut l o
  cut_not e b = sym (by.uncut event_span l o (λ z. e (q ∙ z)) (omega arith))

-- a step that is whole; a write, which the code asks for by itself
module _ (l : List ℕ) (o : ℕ) (h : o < length l) where
  module _ (e : byte_at l o ≡ 80) where
    cut_step_not : 2 ≤ length l - o → false ≡ event_cut l o
    cut_step_not b = cut_not l o 2 (span_80 _ e) h (λ z. omega (arith, z)) b

  module _ (e : byte_at l o ≡ 81) where
    pub cut_write : length l - o < 8 → true ≡ event_cut l o
    cut_write b = cut_body l o 8 (span_81 _ e) h b

    pub cut_write_not : 8 ≤ length l - o → false ≡ event_cut l o
    cut_write_not b = cut_not l o 8 (span_81 _ e) h (λ z. omega (arith, z)) b

pub ruleset cuts = (cut_kind, cut_body, cut_not, cut_write, cut_write_not)

-- the offset past a step
pub next_step : (l : List ℕ) (o : ℕ) → byte_at l o ≡ 80 → o + 2 ≡ next_event l o
unfolding event_span
next_step l o e = simp e

-- the scan has come to o, with n events behind
pub record Scanning (l : List ℕ) (o n : ℕ) : Type 0 where
  pub short : length l ≤ 65536
  pub inside : o ≤ length l
  pub few : n ≤ o
  pub fault : first (event_cut l) (offsets_from l o) ≡ event_fault l
  pub count : n + length (offsets_from l o) ≡ length (events_from l 0)

pub scan_long : (l : List ℕ) (e : D.Refused) → 65536 < length l → e ≡ record { why = BadList; place = 0 } → scan_by (Err e) ≡ scanned l
unfolding unplayable scan_of
scan_long l e h q = ap (λ e. scan_by (Err e)) q ∙ simp (lt-ltb _ _ h)

scan_start : (l : List ℕ) → length l ≤ 65536 → Scanning l 0 0
unfolding event_fault events_from
scan_start l h =
    record { short = h; inside = omega arith; few = omega arith; fault = refl; count = omega (arith, length-map (offsets_from l 0) (event_at l)) }

module _ (l : List ℕ) (o n : ℕ) (k : Scanning l o n) where
  module _ (b : Bool) (eb : b ≡ event_cut l o) (h : o < length l) where
    pub scan_bad : (r : D.Refused) → b ≡ true → r ≡ record { why = BadList; place = o } → scan_by (Err r) ≡ scanned l
    unfolding unplayable scan_of or_refuse
    scan_bad r e x =
        let f : Some o ≡ event_fault l = by.fault_cut event_span l o (event_fault l) k.fault h (sym eb ∙ e) in
        ap (λ e. scan_by (Err e)) x ∙ simp (le-ltb _ _ k.short, ← f)

    scan_on : (p : ℕ) → b ≡ false → p ≡ next_event l o → Scanning l p (n + 1)
    scan_on p e q =
        let c : event_cut l o ≡ false = sym eb ∙ e in
        let m : length (offsets_from l o) ≡ length (offsets_from l (next_event l o)) + 1 = ap length (by.offsets_more event_span l o h c) ∙ omega arith in
        rw q
        (record {
          short = k.short;
          inside = by.uncut_inside event_span l o c;
          few = omega (arith, k.few, by.uncut_span event_span l o c);
          fault = by.fault_more event_span l o (event_fault l) k.fault h c;
          count = omega (arith, k.count);
        })

    scan_falls : (p : ℕ) → b ≡ false → p ≡ next_event l o → length l - p < length l - o
    scan_falls p e q = let c : event_cut l o ≡ false = sym eb ∙ e in omega (arith, by.uncut_span event_span l o c, by.uncut_inside event_span l o c)

  pub scan_end : length l ≤ o → ◌≡◌ {A = Scanned} (record { refusal = Passed; count = n }) (scanned l)
  unfolding unplayable scan_of or_refuse
  scan_end h =
      let f : None ≡ event_fault l = by.fault_end event_span l o (event_fault l) k.fault h in
      let z : length (offsets_from l o) ≡ 0 = ap length (by.offsets_end event_span l o h) in
      let m : n ≡ length (events_from l 0) = omega (arith, k.count) in
      simp (le-ltb _ _ k.short, ← f, m)

-- the steps that stand one after the other are passed over
module _ (l : List ℕ) where
  pub steps_start : (o : ℕ) → o ≤ length l → Steps l o o 0
  steps_start o h = record { past = omega arith; inside = h; step = λ i r. absurd (omega arith) }

  module _ (from o n : ℕ) (k : Steps l from o n) where
    pub steps_on : (e : byte_at l o ≡ 80) → o + 1 < length l → Steps l from (o + 2) (n + 1)
    steps_on e h = record { past = omega (arith, k.past); inside = omega arith; step = λ i r. go i (ltb i n) refl r }
      where
        go : (i : ℕ) (t : Bool) → ltb i n ≡ t → i < n + 1 → byte_at l (from + 2 * i) ≡ 80
        go i true q r = k.step i (ltb-true i n q)
        go i false q r = let j : from + 2 * i ≡ o = omega (arith, k.past, ltb-false i n q) in rw j e

    pub steps_few : length l ≤ 65536 → (o ≤ 65536) × (n ≤ 65536)
    steps_few h = (omega (arith, k.inside), omega (arith, k.inside, k.past))

  -- all but the first
  later : (from o n : ℕ) → Steps l from o (suc n) → Steps l (from + 2) o n
  later from o n k =
      record {
        past = omega (arith, k.past);
        inside = k.inside;
        step = λ i r. let j : from + 2 + 2 * i ≡ from + 2 * (suc i) = omega arith in rw j (k.step (suc i) (omega arith));
      }

  scan_past : (m o n : ℕ) (from : ℕ) → Steps l from o m → Scanning l from n → Scanning l o (n + m)
  scan_past zero o n from k s = let e : o ≡ from = omega (arith, k.past) in let z : n + 0 ≡ n = omega arith in rw (e, z) s
  scan_past (suc m) o n from k s =
      let h : from + 2 ≤ length l = omega (arith, k.past, k.inside) in
      let e : byte_at l from ≡ 80 = let z : from + 2 * 0 ≡ from = omega arith in rw z at (k.step 0 (omega arith)) in
      let f : Scanning l (from + 2) (n + 1)
      = scan_on l from n s false (cut_step_not l from (omega arith) e (omega arith)) (omega arith) (from + 2) refl (next_step l from e) in
      let j : n + 1 + m ≡ n + suc m = omega arith in
      rw j at (scan_past m o (n + 1) (from + 2) (later from o m k) f)

pub scan_begin : (l : List ℕ) (o m : ℕ) → length l ≤ 65536 → Steps l 0 o m → Scanning l o m
scan_begin l o m h k = let z : 0 + m ≡ m = omega arith in rw z at (scan_past l m o 0 0 k (scan_start l h))

-- a turn: an event, and the steps behind it, up to the offset at
module _ (l : List ℕ) (o n : ℕ) (k : Scanning l o n) (b : Bool) (eb : b ≡ event_cut l o) (h : o < length l) (e : b ≡ false) (p : ℕ) (q : p ≡ next_event l o) where
  pub turn_room : (p ≤ length l) × (length l ≤ 65536)
  turn_room = ((scan_on l o n k b eb h p e q).inside, k.short)

  module _ (at m : ℕ) (w : Steps l p at m) where
    pub turn_on : Scanning l at (n + 1 + m)
    turn_on = scan_past l m at (n + 1) p w (scan_on l o n k b eb h p e q)

    pub turn_falls : length l - at < length l - o
    turn_falls = let f = scan_falls l o n k b eb h p e q in omega (arith, w.past, w.inside)

    pub turn_few : (n + 1 ≤ 65537) × (n + 1 + m ≤ 65536)
    turn_few = (omega (arith, k.few, k.inside, k.short), omega (arith, turn_on.few, turn_on.inside, k.short))

pub ruleset passes = (steps_start, steps_on, steps_few)

pub ruleset scans = (scan_long, scan_begin, scan_bad, turn_room, turn_on, turn_falls, scan_end)
