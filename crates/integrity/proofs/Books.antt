-- The books, as bytes, by which each place of the rules and of the machine is shown to be needed. C is 3.
--     plain, .., choose, book   records; a book of them
--     spoil, .., held           what several places have in common
-- Assumes nothing.
use Prim.Native.Nat.{ℕ, zero, suc}
use mathlib.Core.List.{List, [], ◌∷◌, ◌++◌}
use Rattle.book.specs.Numbers.{plain_value, cell_value, code_value}
use Rattle.machine.specs.declared.Event.{Event}
use Rattle.machine.specs.declared.Event.TheVariants.{StepOf}

-- records, as bytes; numbers are below 256
abbrev pub plain : List ℕ
plain = 0x10 ∷ []

abbrev pub code : ℕ → List ℕ
code bound = 0x11 ∷ bound ∷ []

abbrev pub cell : ℕ → ℕ → List ℕ
cell content trust = 0x12 ∷ content ∷ trust ∷ []

abbrev pub declare : ℕ → ℕ → ℕ → ℕ → List ℕ
declare shape label kind n = 0x20 ∷ shape ∷ label ∷ kind ∷ n ∷ 0 ∷ 0 ∷ 0 ∷ []

abbrev pub block : ℕ → List ℕ
block bound = 0x30 ∷ bound ∷ []

abbrev pub put : ℕ → ℕ → List ℕ
put r n = 0x40 ∷ r ∷ n ∷ 0 ∷ 0 ∷ 0 ∷ []

abbrev pub name : ℕ → ℕ → List ℕ
name r k = 0x41 ∷ r ∷ k ∷ []

abbrev pub code_of : ℕ → ℕ → List ℕ
code_of r b = 0x42 ∷ r ∷ b ∷ []

abbrev pub add : ℕ → ℕ → ℕ → List ℕ
add r a b = 0x43 ∷ r ∷ a ∷ b ∷ []

abbrev pub new : ℕ → ℕ → ℕ → List ℕ
new r i a = 0x44 ∷ r ∷ i ∷ a ∷ []

abbrev pub read : ℕ → ℕ → List ℕ
read r w = 0x45 ∷ r ∷ w ∷ []

abbrev pub write : ℕ → ℕ → List ℕ
write w a = 0x46 ∷ w ∷ a ∷ []

abbrev pub relabel : ℕ → ℕ → List ℕ
relabel w o = 0x47 ∷ w ∷ o ∷ []

abbrev pub lower_to : ℕ → List ℕ
lower_to q = 0x48 ∷ q ∷ []

abbrev pub start : ℕ → List ℕ
start b = 0x49 ∷ b ∷ []

abbrev pub exec : ℕ → List ℕ
exec w = 0x4A ∷ w ∷ []

abbrev pub choose : ℕ → ℕ → ℕ → List ℕ
choose r a b = 0x4B ∷ r ∷ a ∷ b ∷ []

abbrev pub joined : List (List ℕ) → List ℕ
joined [] = []
joined (r ∷ rs) = r ++ joined rs

-- a book with C 3
abbrev pub book : List (List ℕ) → List ℕ
book rs = 0x01 ∷ 0x03 ∷ joined rs

-- a block of bound 3, which may do anything; run above C, it gives cell 0 the label 0
abbrev pub spoil : List ℕ
spoil = joined (block 3 ∷ name 0 0 ∷ relabel 0 0 ∷ [])

-- n steps of job i
abbrev pub steps : ℕ → ℕ → List Event → List Event
steps zero i es = es
steps (suc n) i es = StepOf i ∷ steps n i es

-- cell 1, of code of bound 12, holds block 1, of bound 3; job 0 runs it, at 12
abbrev pub code_below : List ℕ
code_below =
    book (code 12 ∷ cell 0 12 ∷ plain ∷ cell 2 12 ∷ declare 3 12 plain_value 5 ∷ declare 1 12 code_value 1 ∷ block 12 ∷ name 0 1 ∷ exec 0
    ∷ spoil ∷ [])

-- cell 1, of code of bound 3, holds block 1; cell 2 names it as one of bound 12, and job 0 runs it by that name, at 12
abbrev pub code_as_larger : List ℕ
code_as_larger =
    book (code 12 ∷ cell 0 12 ∷ code 3 ∷ cell 2 12 ∷ cell 1 12 ∷ plain ∷ cell 5 12 ∷ declare 6 12 plain_value 5 ∷ declare 3 12 code_value 1
    ∷ declare 4 12 cell_value 1 ∷ block 12 ∷ name 0 2 ∷ read 0 0 ∷ exec 0 ∷ spoil ∷ [])

-- cell 2, of names of cells of this trust, names cell 0, of low trust; by it job 0 reads what is in cell 0, and writes that into cell 1, of
-- this trust
abbrev pub named_as_trusted : ℕ → List ℕ
named_as_trusted trust =
    book (plain ∷ cell 0 0 ∷ cell 0 trust ∷ cell 2 trust ∷ declare 1 0 plain_value 0 ∷ declare 2 trust plain_value 5
    ∷ declare 3 trust cell_value 0 ∷ block 12 ∷ name 0 2 ∷ read 0 0 ∷ read 0 0 ∷ name 1 1 ∷ write 1 0 ∷ [])

-- job 0 reads what is in cell 1, of low trust, and writes it into cell 0, of this trust
abbrev pub read_low : ℕ → List ℕ
read_low trust =
    book (plain ∷ cell 0 trust ∷ cell 0 0 ∷ declare 1 trust plain_value 5 ∷ declare 2 0 plain_value 0 ∷ block 12 ∷ name 0 1 ∷ read 0 0
    ∷ name 1 0 ∷ write 1 0 ∷ [])

-- job 0 gives cell 0, of this trust and label, the label o
abbrev pub relabelled : ℕ → ℕ → ℕ → List ℕ
relabelled trust bound o =
    book (plain ∷ cell 0 trust ∷ declare 1 trust plain_value 5 ∷ block bound ∷ name 0 0 ∷ relabel 0 o ∷ [])

-- job 0 makes a cell of this trust
abbrev pub made : ℕ → ℕ → List ℕ
made trust bound =
    book (plain ∷ cell 0 trust ∷ block bound ∷ new 0 1 0 ∷ [])

-- job 0 lowers to 8, and makes a cell of trust 9
abbrev pub made_lowered : List ℕ
made_lowered =
    book (plain ∷ cell 0 9 ∷ block 12 ∷ lower_to 8 ∷ new 0 1 0 ∷ [])

-- A15: the block's bound is 2; at 3 its lower is done, and it makes a cell of trust 9
abbrev pub lowered_low : List ℕ
lowered_low =
    book (plain ∷ cell 0 9 ∷ block 2 ∷ lower_to 3 ∷ new 0 1 0 ∷ [])

-- cell 0, of this trust and label
abbrev pub held : ℕ → List ℕ
held trust =
    book (plain ∷ cell 0 trust ∷ declare 1 trust plain_value 5 ∷ block 12 ∷ [])
