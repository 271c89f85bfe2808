-- The verdicts on sample books.
--     Samples                             what the joint lemma says of those of 01, "Sample books"
--     book_of_code, choose_then, Choices     books that choose: 02, Four
-- Assumes nothing.
use Rattle.std.specs.Prelude.{◌≡◌, ℕ, List, [], ◌∷◌, ◌++◌}
use Rattle.book.specs.Samples.{book_a, last_write, last_relabel, last_new, book_of_choice}
use Rattle.typing.specs.Verdict.{Accepted, Refused}
use Rattle.typing.specs.Verdict.{verdict}

pub record Samples : Type 0 where
  pub a1 : verdict (book_a 0x09 0x09 0x0C last_write) ≡ Accepted 2 1 1 3
  pub a2 : verdict (book_a 0x09 0x09 0x08 last_write) ≡ Accepted 2 1 1 3
  pub a3 : verdict (book_a 0x09 0x09 0x03 last_write) ≡ Accepted 2 1 1 3
  pub a4 : verdict (book_a 0x09 0x08 0x0C last_write) ≡ Refused 7 6
  pub a5 : verdict (book_a 0x03 0x09 0x0C last_write) ≡ Accepted 2 1 1 3
  pub a6 : verdict (book_a 0x09 0x09 0x0C (last_relabel 0x08)) ≡ Refused 8 25
  pub a7 : verdict (book_a 0x09 0x09 0x0C (last_relabel 0x09)) ≡ Accepted 2 1 1 3
  pub a8 : verdict (book_a 0x09 0x09 0x0C (last_relabel 0x0D)) ≡ Accepted 2 1 1 3
  pub a9 : verdict (book_a 0x09 0x09 0x0C last_new) ≡ Refused 8 25
  pub a10 : verdict (book_a 0x09 0x09 0x0C (0x48 ∷ 0x0C ∷ last_new)) ≡ Accepted 2 1 1 4
  pub a11 : verdict (book_a 0x09 0x09 0x0C (0x48 ∷ 0x08 ∷ last_new)) ≡ Refused 8 27
  pub a12 : verdict [] ≡ Refused 3 0
  pub a13 : verdict (0x01 ∷ 0x0F ∷ []) ≡ Refused 3 2
  pub a14 : verdict (0x01 ∷ 0x0F ∷ 0x30 ∷ 0x00 ∷ []) ≡ Refused 5 0
  pub a15 : verdict (book_a 0x09 0x09 0x02 (0x48 ∷ 0x03 ∷ last_new)) ≡ Refused 8 27

-- C 3; shapes: code of bound 12, a cell of it, of this trust; cell 0, of this label, holds block 0. Block 0, of bound 12, reads cell 0 into register 1, and
-- chooses by it. The choose stands at 23.
abbrev pub book_of_code : ℕ → ℕ → List ℕ
book_of_code trust label =
    0x01 ∷ 0x03
    ∷ 0x11 ∷ 0x0C
    ∷ 0x12 ∷ 0x00 ∷ trust
    ∷ 0x20 ∷ 0x01 ∷ label ∷ 0x02 ∷ 0x00 ∷ 0x00 ∷ 0x00 ∷ 0x00
    ∷ 0x30 ∷ 0x0C
    ∷ 0x41 ∷ 0x00 ∷ 0x00  -- name 0, cell 0
    ∷ 0x45 ∷ 0x01 ∷ 0x00  -- read 1, 0
    ∷ 0x4B ∷ 0x01 ∷ 0x01 ∷ 0x02  -- choose 1, block 1, block 2
    ∷ 0x30 ∷ 0x0C
    ∷ 0x30 ∷ 0x0C
    ∷ []

-- choose 1, block 0, block 0, and then these bytes
abbrev pub choose_then : List ℕ → List ℕ
choose_then last = 0x4B ∷ 0x01 ∷ 0x00 ∷ 0x00 ∷ last

-- Of a book of choice, register 0 is a cell's name, register 1 was read from a cell of low trust, registers 2 and 7 are plain; the choose stands at 22. Of book A
-- register 1 is plain.
pub record Choices : Type 0 where
  -- "With P above C, both bounds must be at least P"
  pub bounds_at_p : verdict (book_of_choice 0x0C 0x01 0x01 0x02 0x0C 0x0C) ≡ Accepted 2 1 3 3
  pub bounds_above_p : verdict (book_of_choice 0x0C 0x01 0x01 0x02 0x0D 0x0F) ≡ Accepted 2 1 3 3
  pub first_bound_below : verdict (book_of_choice 0x0C 0x01 0x01 0x02 0x0B 0x0C) ≡ Refused 8 22
  pub second_bound_below : verdict (book_of_choice 0x0C 0x01 0x01 0x02 0x0C 0x0B) ≡ Refused 8 22
  -- "and r must be plain unless its effect is low"
  pub plain_register : verdict (book_of_choice 0x0C 0x02 0x01 0x02 0x0C 0x0C) ≡ Accepted 2 1 3 3
  pub cell_register : verdict (book_of_choice 0x0C 0x00 0x01 0x02 0x0C 0x0C) ≡ Refused 8 22
  pub high_code : verdict (book_of_code 0x09 0x09) ≡ Refused 8 23
  pub low_code : verdict (book_of_code 0x00 0x00) ≡ Accepted 2 1 3 3
  -- P at C, where "every step passes"
  pub low_p : verdict (book_of_choice 0x03 0x00 0x01 0x02 0x00 0x00) ≡ Accepted 2 1 3 3
  -- it changes nothing that a later step is typed by: register 1 stays plain, the lower before it stands, and the step after it is looked at
  pub before_write : verdict (book_a 0x09 0x09 0x0C (choose_then last_write)) ≡ Accepted 2 1 1 4
  pub before_new : verdict (book_a 0x09 0x09 0x0C (0x48 ∷ 0x0C ∷ choose_then last_new)) ≡ Accepted 2 1 1 5
  pub before_relabel : verdict (book_a 0x09 0x09 0x0C (choose_then (last_relabel 0x08))) ≡ Refused 8 29
  -- "After a stuck step the rest of the block passes": choose 0, by a cell's name, behind A2's write
  pub after_stuck : verdict (book_a 0x09 0x09 0x08 (last_write ++ 0x4B ∷ 0x00 ∷ 0x00 ∷ 0x00 ∷ [])) ≡ Accepted 2 1 1 4
  -- refusals 5, 6 and 2
  pub register_7 : verdict (book_of_choice 0x0C 0x07 0x01 0x02 0x0C 0x0C) ≡ Accepted 2 1 3 3
  pub register_8 : verdict (book_of_choice 0x0C 0x08 0x01 0x02 0x0C 0x0C) ≡ Refused 5 22
  pub no_first : verdict (book_of_choice 0x0C 0x01 0x03 0x02 0x0C 0x0C) ≡ Refused 6 22
  pub no_second : verdict (book_of_choice 0x0C 0x01 0x01 0x03 0x0C 0x0C) ≡ Refused 6 22
  pub far_first : verdict (book_of_choice 0x0C 0x01 0xFF 0x02 0x0C 0x0C) ≡ Refused 6 22
  pub far_second : verdict (book_of_choice 0x0C 0x01 0x01 0xFF 0x0C 0x0C) ≡ Refused 6 22
  pub cut : verdict (0x01 ∷ 0x03 ∷ 0x30 ∷ 0x0C ∷ 0x4B ∷ 0x00 ∷ 0x00 ∷ []) ≡ Refused 2 4
  pub next_kind : verdict (0x01 ∷ 0x03 ∷ 0x30 ∷ 0x0C ∷ 0x4C ∷ 0x00 ∷ 0x00 ∷ 0x00 ∷ []) ≡ Refused 2 4
