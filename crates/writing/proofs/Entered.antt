-- Laws of one row: the entry that the code makes stands for it.
--     entered_c, ..     an entry of each kind
-- Assumes nothing.
use mathlib.Core.Path.{◌≡◌, refl, sym, ap, ◌∙◌}
use mathlib.Core.Bool.{Bool, true, false, not}
use mathlib.Core.List.{List, [], ◌∷◌}
use Prim.Native.Nat.{ℕ, ◌+◌}
use native.Mathlib.Omega.{arith}
use lib.Dec.{eqb}
use lib.ListN.{length}
use borrow.Author.Tests.{ne_eqb}
use Rattle.std.specs.Int.{from_le_bytes}
use Rattle.std.proofs.Common.{w32}
use Rattle.std.proofs.lemmas.Bool.Decides.{nat_tests}
use Rattle.labels.specs.declared.Label.{Label}
use Rattle.book.specs.Control.{both, either}
use Rattle.book.specs.Kinds.{group, span}
use Rattle.book.specs.Spans.{Bytes}
use Rattle.book.specs.Records.{byte_at, number_at, number_bytes}
use Rattle.book.proofs.Digits.{digits}
use Rattle.writing.specs.declared.entries.Entry.{Entry}
use Rattle.rows.specs.Rows.{StepRow, row_of, c_row, shape_row, cell_row, step_row, shape_row_in, cell_row_in, step_row_in, some_nonzero}
use Rattle.writing.specs.Asked.{Enters, behind}
use Rattle.rows.proofs.ByKind.{by_kind}

-- the kinds of a shape are three
no_shape_lem : (k : ℕ) → group k ≡ 2 → (k ≡ 18 → ⊥) → (k ≡ 17 → ⊥) → (k ≡ 16 → ⊥) → ⊥
no_shape_lem = by_kind (λ k. (k ≡ 18 → ⊥) → (k ≡ 17 → ⊥) → (k ≡ 16 → ⊥) → ⊥) 2 (omega arith) ((λ a b c. c refl), ((λ a b c. b refl), ((λ a b c. a refl), tt)))

-- each entry that the code makes, e, by its bytes and its length
pub entered_c : (c : Label) (e : Entry) → e ≡ record { bytes = 1 ∷ c.0 ∷ 0 ∷ 0 ∷ 0 ∷ 0 ∷ 0 ∷ 0 ∷ []; length = 2; known = true; spare = false }
    → Enters e (c_row c)
unfolding row_of group span some_nonzero
entered_c c e h = rw h (record { long = refl; fits = omega arith; bytes = refl; known = refl; spare = refl })

pub entered_block : (b : ℕ) (e : Entry) → e ≡ record { bytes = 48 ∷ b ∷ 0 ∷ 0 ∷ 0 ∷ 0 ∷ 0 ∷ 0 ∷ []; length = 2; known = true; spare = false }
    → Enters e (row_of 4 48 (b ∷ []))
unfolding row_of group span some_nonzero
entered_block b e h = rw h (record { long = refl; fits = omega arith; bytes = refl; known = refl; spare = refl })

module _ (t : List ℕ) (o : ℕ) (e : Entry) where
  abbrev shape_bytes : List ℕ
  shape_bytes = byte_at t o ∷ byte_at t (o + 1) ∷ byte_at t (o + 2) ∷ 0 ∷ 0 ∷ 0 ∷ 0 ∷ 0 ∷ []

  pub entered_cell_shape : byte_at t o ≡ 18 → e ≡ record { bytes = shape_bytes; length = 3; known = true; spare = false } → Enters e (shape_row (shape_row_in t o))
  unfolding row_of group span some_nonzero shape_row_in
  entered_cell_shape k h = rw (h, k) (record { long = refl; fits = omega arith; bytes = refl; known = refl; spare = refl })

  pub entered_code_shape : byte_at t o ≡ 17 → (b : Bool) → b ≡ some_nonzero (0 ∷ byte_at t (o + 2) ∷ [])
      → e ≡ record { bytes = shape_bytes; length = 2; known = true; spare = b } → Enters e (shape_row (shape_row_in t o))
  unfolding row_of group span some_nonzero either shape_row_in
  entered_code_shape k b eb h = rw (h, k) (record { long = refl; fits = omega arith; bytes = refl; known = refl; spare = eb })

  pub entered_plain_shape : byte_at t o ≡ 16 → (b : Bool) → b ≡ some_nonzero (byte_at t (o + 1) ∷ byte_at t (o + 2) ∷ [])
      → e ≡ record { bytes = shape_bytes; length = 1; known = true; spare = b } → Enters e (shape_row (shape_row_in t o))
  unfolding row_of group span shape_row_in
  entered_plain_shape k b eb h = rw (h, k) (record { long = refl; fits = omega arith; bytes = refl; known = refl; spare = eb })

  pub entered_no_shape : (byte_at t o ≡ 18 → ⊥) → (byte_at t o ≡ 17 → ⊥) → (byte_at t o ≡ 16 → ⊥)
      → e ≡ record { bytes = shape_bytes; length = 1; known = false; spare = false } → Enters e (shape_row (shape_row_in t o))
  unfolding row_of shape_row_in
  entered_no_shape a b c h =
      rw (h, ne_eqb (group (byte_at t o)) 2 (λ z. no_shape_lem (byte_at t o) z a b c))
      (record { long = refl; fits = omega arith; bytes = refl; known = refl; spare = refl })

  pub entered_cell : Bytes t
      → e ≡ record {
        bytes =
            32 ∷ byte_at t o ∷ byte_at t (o + 1) ∷ byte_at t (o + 2) ∷ byte_at t (o + 3) ∷ byte_at t (o + 3 + 1) ∷ byte_at t (o + 3 + 2) ∷ byte_at t (o + 3 + 3) ∷ [];
        length = 8;
        known = true;
        spare = false;
      }
      → Enters e (cell_row (cell_row_in t o))
  unfolding row_of group span some_nonzero cell_row_in
  entered_cell bytes h = rw (h, digits t bytes (o + 3)) (record { long = refl; fits = omega arith; bytes = refl; known = refl; spare = refl })

  pub entered_put : Bytes t → byte_at t o ≡ 64 → (u : Bool) → u ≡ some_nonzero (byte_at t (o + 2) ∷ byte_at t (o + 3) ∷ [])
      → e ≡ record {
        bytes =
            64 ∷ byte_at t (o + 1) ∷ byte_at t (o + 4) ∷ byte_at t (o + 4 + 1) ∷ byte_at t (o + 4 + 2) ∷ byte_at t (o + 4 + 3) ∷ byte_at t (o + 2) ∷ byte_at t (o + 3) ∷ [];
        length = 6;
        known = true;
        spare = u;
      }
      → Enters e (step_row (step_row_in t o))
  unfolding row_of group span step_row_in
  entered_put bytes k u eu h = rw (h, k, digits t bytes (o + 4)) (record { long = refl; fits = omega arith; bytes = refl; known = refl; spare = eu })

-- a step of another kind; w says whether its number is not 0
module _ (x y z n : ℕ) (rest : List ℕ) (four_long : length rest ≡ 4) (w : Bool) (e : some_nonzero (number_bytes n) ≡ w) where
  abbrev step_of_kind : ℕ → StepRow
  step_of_kind k = record { kind = k; x = x; y = y; z = z; number = n }

  abbrev entry_of_kind : ℕ → Entry
  entry_of_kind k = record { bytes = k ∷ x ∷ y ∷ z ∷ rest; length = span k; known = true; spare = behind (span k) y z w }

  four : either (w) (either false false) ≡ some_nonzero (number_bytes n)
  unfolding either
  four = rw e (go (w))
    where
      go : (a : Bool) → either a false ≡ a
      go true = refl
      go false = refl

  three : either (w) (either (not (eqb z 0)) false) ≡ either (not (eqb z 0)) (some_nonzero (number_bytes n))
  unfolding either
  three = rw e (go (w) (not (eqb z 0)))
    where
      go : (a b : Bool) → either a (either b false) ≡ either b a
      go true true = refl
      go true false = refl
      go false true = refl
      go false false = refl

  two : either (w) (either (not (eqb z 0)) (not (eqb y 0))) ≡ either (not (eqb y 0)) (either (not (eqb z 0)) (some_nonzero (number_bytes n)))
  unfolding either
  two = rw e (go (w) (not (eqb z 0)) (not (eqb y 0)))
    where
      go : (a b c : Bool) → either a (either b c) ≡ either c (either b a)
      go true true true = refl
      go true true false = refl
      go true false true = refl
      go true false false = refl
      go false true true = refl
      go false true false = refl
      go false false true = refl
      go false false false = refl

  pub enters_other : (k : ℕ) → group k ≡ 5 → (k ≡ 64 → ⊥) → Enters (entry_of_kind k) (step_row (step_of_kind k))
  unfolding row_of group span some_nonzero behind both
  enters_other =
      by_kind (λ k. (k ≡ 64 → ⊥) → Enters (entry_of_kind k) (step_row (step_of_kind k))) 5 (omega arith) (
        (λ h. absurd (h refl)),
        (
          (λ h. record { long = omega (arith, four_long); fits = omega arith; bytes = refl; known = refl; spare = three }),
          (
            (λ h. record { long = omega (arith, four_long); fits = omega arith; bytes = refl; known = refl; spare = three }),
            (
              (λ h. record { long = omega (arith, four_long); fits = omega arith; bytes = refl; known = refl; spare = four }),
              (
                (λ h. record { long = omega (arith, four_long); fits = omega arith; bytes = refl; known = refl; spare = four }),
                (
                  (λ h. record { long = omega (arith, four_long); fits = omega arith; bytes = refl; known = refl; spare = three }),
                  (
                    (λ h. record { long = omega (arith, four_long); fits = omega arith; bytes = refl; known = refl; spare = three }),
                    (
                      (λ h. record { long = omega (arith, four_long); fits = omega arith; bytes = refl; known = refl; spare = three }),
                      (
                        (λ h. record { long = omega (arith, four_long); fits = omega arith; bytes = refl; known = refl; spare = two }),
                        (
                          (λ h. record { long = omega (arith, four_long); fits = omega arith; bytes = refl; known = refl; spare = two }),
                          (
                            (λ h. record { long = omega (arith, four_long); fits = omega arith; bytes = refl; known = refl; spare = two }),
                            ((λ h. record { long = omega (arith, four_long); fits = omega arith; bytes = refl; known = refl; spare = four }), tt),
                          ),
                        ),
                      ),
                    ),
                  ),
                ),
              ),
            ),
          ),
        ),
      )

-- one of the four bytes of a number is not 0, as the code asks for it
nonzero_number : (a b c d : ℕ) → some_nonzero (a ∷ b ∷ c ∷ d ∷ []) ≡ not (eqb (from_le_bytes w32 (a ∷ b ∷ c ∷ d ∷ [])) 0)
unfolding some_nonzero either
nonzero_number a b c d = grind (arith, nat_tests)

-- the same of what stands in a table
module _ (t : List ℕ) (o : ℕ) (e : Entry) where
  abbrev whole : List ℕ
  whole =
      byte_at t o ∷ byte_at t (o + 1) ∷ byte_at t (o + 2) ∷ byte_at t (o + 3) ∷ byte_at t (o + 4) ∷ byte_at t (o + 4 + 1) ∷ byte_at t (o + 4 + 2) ∷ byte_at t (o + 4 + 3) ∷ []

  pub entered_step : Bytes t → (n m : ℕ) (b : Bool) → group (byte_at t o) ≡ 5 → (byte_at t o ≡ 64 → ⊥) → n ≡ span (byte_at t o)
      → m ≡ from_le_bytes w32 (byte_at t (o + 4) ∷ byte_at t (o + 4 + 1) ∷ byte_at t (o + 4 + 2) ∷ byte_at t (o + 4 + 3) ∷ [])
      → b ≡ behind n (byte_at t (o + 2)) (byte_at t (o + 3)) (not (eqb m 0)) → e ≡ record { bytes = whole; length = n; known = true; spare = b }
      → Enters e (step_row (step_row_in t o))
  unfolding step_row_in
  entered_step bytes n m b g h en em eb he =
      let nonzero : some_nonzero (number_bytes (number_at t (o + 4))) ≡ not (eqb m 0)
      = ap some_nonzero (digits t bytes (o + 4)) ∙ nonzero_number (byte_at t (o + 4)) (byte_at t (o + 4 + 1)) (byte_at t (o + 4 + 2)) (byte_at t (o + 4 + 3))
      ∙ ap (λ n. not (eqb n 0)) (sym em) in
      rw (he, eb, en) (enters_other _ _ _ _ _ refl _ nonzero (byte_at t o) g h)

  pub entered_no_step : (g : ℕ) → g ≡ group (byte_at t o) → (g ≡ 5 → ⊥) → e ≡ record { bytes = whole; length = 1; known = false; spare = false }
      → Enters e (step_row (step_row_in t o))
  unfolding row_of step_row_in
  entered_no_step g eg n h = rw (h, ne_eqb (group (byte_at t o)) 5 (λ z. n (eg ∙ z))) (record { long = refl; fits = omega arith; bytes = refl; known = refl; spare = refl })

pub ruleset entered_shapes = (entered_cell_shape, entered_code_shape, entered_plain_shape, entered_no_shape)
