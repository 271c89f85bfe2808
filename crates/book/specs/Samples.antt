-- Books of the samples. What is said of them is in `typing` and `machine`.
--     book_a, last_write, ..     book A of 01, "Sample books", and the steps that stand in the place of its last one
--     book_of_choice             one that chooses: 02, Four
-- Assumes nothing.
use Rattle.std.specs.Prelude.{ℕ, List, [], ◌∷◌}

-- book A with this trust, cell label and bound, and these bytes from its last step on
abbrev pub book_a : ℕ → ℕ → ℕ → List ℕ → List ℕ
book_a trust label bound last =
    0x01 ∷ 0x03
    ∷ 0x10
    ∷ 0x12 ∷ 0x00 ∷ trust
    ∷ 0x20 ∷ 0x01 ∷ label ∷ 0x00 ∷ 0x05 ∷ 0x00 ∷ 0x00 ∷ 0x00
    ∷ 0x30 ∷ bound
    ∷ 0x41 ∷ 0x00 ∷ 0x00
    ∷ 0x40 ∷ 0x01 ∷ 0x07 ∷ 0x00 ∷ 0x00 ∷ 0x00
    ∷ last

-- write 0, 1; relabel 0 to a label; new 2, shape 1, 1
abbrev pub last_write : List ℕ
last_write = 0x46 ∷ 0x00 ∷ 0x01 ∷ []

abbrev pub last_relabel : ℕ → List ℕ
last_relabel o = 0x47 ∷ 0x00 ∷ o ∷ []

abbrev pub last_new : List ℕ
last_new = 0x44 ∷ 0x02 ∷ 0x01 ∷ 0x01 ∷ []

-- C 3; shapes: plain, a cell of it, of low trust; cell 0, of label 0, holds 0. Block 0, of this bound, names cell 0, reads it, and chooses by
-- register r between blocks a and b. Blocks 1 and 2 have these bounds and no steps.
abbrev pub book_of_choice : ℕ → ℕ → ℕ → ℕ → ℕ → ℕ → List ℕ
book_of_choice bound r a b first second =
    0x01 ∷ 0x03
    ∷ 0x10
    ∷ 0x12 ∷ 0x00 ∷ 0x00
    ∷ 0x20 ∷ 0x01 ∷ 0x00 ∷ 0x00 ∷ 0x00 ∷ 0x00 ∷ 0x00 ∷ 0x00
    ∷ 0x30 ∷ bound
    ∷ 0x41 ∷ 0x00 ∷ 0x00  -- name 0, cell 0
    ∷ 0x45 ∷ 0x01 ∷ 0x00  -- read 1, 0
    ∷ 0x4B ∷ r ∷ a ∷ b
    ∷ 0x30 ∷ first
    ∷ 0x30 ∷ second
    ∷ []
