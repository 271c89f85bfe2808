-- Laws of what is told of an offset.
--     fields, ends, numbers      a field of one byte; where these end; the number
--     kinds                      one of two kinds
--     whole_told                 what stands whole, from its parts
--     untold, told               by any span: nothing whole stands; something does
-- Assumes nothing.
use mathlib.Core.Path.{◌≡◌, refl, sym, ap, ◌∙◌}
use mathlib.Core.Bool.{Bool, true, false}
use mathlib.Core.List.{List}
use Prim.Native.Nat.{ℕ, ◌+◌, ◌-◌, ◌≤◌, ◌<◌}
use native.Mathlib.Omega.{arith}
use lib.ListN.{length}
use lib.Dec.{eqb}
use borrow.Author.Tests.{eq-eqb, ne_eqb, lt-ltb, le-ltb}
use Rattle.book.specs.Control.{either}
use Rattle.book.specs.Kinds.{span}
use Rattle.book.specs.Spans.{byte_at, next_by, cut_by}
use Rattle.book.specs.Records.{number_at}
use Rattle.book.proofs.Lists.{past}
use Rattle.book.proofs.Spans.{cut_kind, cut_body, uncut}
use Rattle.events.specs.Bytes.{event_span}
use Rattle.listing.specs.declared.Fields.{Fields}
use Rattle.listing.specs.Fields.{field_at, fields_end, number_if, no_fields, fields_to, fields_by, has_number, event_has_number}

module _ (s : List ℕ) (i e : ℕ) where
  pub field_there : (x : ℕ) → x ≡ byte_at s i → i < e → x ≡ field_at s i e
  unfolding field_at
  field_there x ex h = simp (lt-ltb _ _ h, ex)

  pub field_absent : e ≤ i → 0 ≡ field_at s i e
  unfolding field_at
  field_absent h = simp (le-ltb _ _ h)

pub ruleset fields = (field_there, field_absent)

module _ (n : ℕ) (b : Bool) where
  pub ends_plain : b ≡ false → n ≡ fields_end n b
  unfolding fields_end
  ends_plain e = simp e

  pub ends_short : b ≡ true → n < 4 → 0 ≡ fields_end n b
  unfolding fields_end
  ends_short e h = simp e (omega arith)

  pub ends_numbered : (m : ℕ) → m ≡ n - 4 → b ≡ true → m ≡ fields_end n b
  unfolding fields_end
  ends_numbered m em e = simp (e, em)

  -- they end inside, where the record does
  pub ends_inside : (e l : ℕ) → e ≡ fields_end n b → n ≤ l → e ≤ l
  unfolding fields_end
  ends_inside e l ee h = go b ee
    where
      go : (b : Bool) → e ≡ fields_end n b → e ≤ l
      go true ee = omega arith
      go false ee = omega arith

pub ruleset ends = (ends_plain, ends_short, ends_numbered)

module _ (b : Bool) (s : List ℕ) (e : ℕ) where
  pub number_there : (x : ℕ) → x ≡ number_at s e → b ≡ true → x ≡ number_if b s e
  unfolding number_if
  number_there x ex h = simp (h, ex)

  pub number_absent : b ≡ false → 0 ≡ number_if b s e
  unfolding number_if
  number_absent h = simp h

pub ruleset numbers = (number_there, number_absent)

-- one of two kinds
module _ (k a c : ℕ) where
  pub is_first : k ≡ a → true ≡ either (eqb k a) (eqb k c)
  unfolding either
  is_first e = simp (eq-eqb _ _ e)

  pub is_second : (k ≡ a → ⊥) → eqb k c ≡ either (eqb k a) (eqb k c)
  unfolding either
  is_second f = simp (ne_eqb _ _ f)

pub ruleset kinds = (is_first, is_second)

pub whole_told : (s : List ℕ) (o n e k x y z m : ℕ) (b : Bool) → e ≡ fields_end n b → k ≡ byte_at s o → x ≡ field_at s (o + 1) e
    → y ≡ field_at s (o + 2) e → z ≡ field_at s (o + 3) e → m ≡ number_if b s e
    → record { kind = k; first = x; second = y; third = z; number = m; next = n } ≡ fields_to s o n b
unfolding fields_to
whole_told s o n e k x y z m b ee ek ex ey ez em = simp (← ee, ek, ex, ey, ez, em)

-- r is what is handed back; n is the offset past what stands at o
module _ (span : ℕ → ℕ) (numbered : ℕ → Bool) (s : List ℕ) (o : ℕ) (r : Fields) where
  module _ (er : r ≡ no_fields) where
    cut_told : cut_by span s o ≡ true → r ≡ fields_by span numbered s o
    unfolding fields_by
    cut_told e = simp (e, er)

    past_told : span 0 ≡ 0 → length s ≤ o → r ≡ fields_by span numbered s o
    past_told z h = cut_told (cut_kind span s o (ap span (sym (past s 0 o h)) ∙ z))

    module _ (n : ℕ) (en : n ≡ next_by span s o) where
      pub unknown_told : n ≡ o → r ≡ fields_by span numbered s o
      unknown_told e = cut_told (cut_kind span s o (omega arith))

      pub short_told : length s < n → r ≡ fields_by span numbered s o
      short_told h = cut_told (cut_body span s o (omega arith))

  pub told : (n : ℕ) (b : Bool) → n ≡ next_by span s o → (n ≡ o → ⊥) → n ≤ length s → b ≡ numbered (byte_at s o) → r ≡ fields_to s o n b
      → r ≡ fields_by span numbered s o
  unfolding fields_by
  told n b en f h eb er = simp (uncut span s o (λ z. f (omega arith)) (omega arith), ← en, ← eb, er)

pub ruleset untold = (unknown_told, short_told)

-- 0 is no kind
module _ (s : List ℕ) (o : ℕ) (r : Fields) (er : r ≡ no_fields) where
  pub no_record : length s ≤ o → r ≡ fields_by span has_number s o
  unfolding span
  no_record h = past_told span has_number s o r er refl h

  pub no_event : length s ≤ o → r ≡ fields_by event_span event_has_number s o
  unfolding event_span
  no_event h = past_told event_span event_has_number s o r er refl h
