-- What a step names, gives, goes through and lowers to: said here for refusal 6, for the rules at low P and for the cell that a step reaches.
--     Reference        what a step names
--     Parts, parts_of   the parts of a step
-- Assumes nothing.
use Rattle.std.specs.Prelude.{ℕ}
use Rattle.std.proofs.Math.Option.{Option, none, some}
use Rattle.labels.specs.declared.Label.{Label}
use Rattle.book.specs.declared.Step.{Step}
use Rattle.book.specs.declared.Step.TheVariants.{Put, Name, Code, Add, New, Read, Write, Relabel, Lower, Start, Exec, Choose}

-- nothing; a declared cell, a block, a cell shape by its number; two blocks
pub data Reference : Type 0 where
  to_nothing : Reference
  to_cell to_block to_cell_shape : ℕ → Reference
  to_blocks : ℕ → ℕ → Reference

-- what it names, the register that gets a value, the register that names the cell which it reaches, the label that it lowers to
pub record Parts : Type 0 where
  pub names : Reference
  pub gives : Option ℕ
  pub through : Option ℕ
  pub lowers : Option Label

abbrev pub parts : Reference → Option ℕ → Option ℕ → Option Label → Parts
parts n g w q = record { names = n; gives = g; through = w; lowers = q }

-- "64 put r, number; 65 name r, cell; 66 code r, block; 67 add r, a, b; 68 new r, shape, a; 69 read r, w; 70 write w, a; 71 relabel
-- w, label; 72 lower label; 73 start block; 74 exec w". 02, Four: "Kind 75, choose r, block, block"
abbrev pub parts_of : Step → Parts
parts_of (Put r n) = parts to_nothing (some r) none none
parts_of (Name r k) = parts (to_cell k) (some r) none none
parts_of (Code r b) = parts (to_block b) (some r) none none
parts_of (Add r a b) = parts to_nothing (some r) none none
parts_of (New r i a) = parts (to_cell_shape i) (some r) none none
parts_of (Read r w) = parts to_nothing (some r) (some w) none
parts_of (Write w a) = parts to_nothing none (some w) none
parts_of (Relabel w o) = parts to_nothing none (some w) none
parts_of (Lower q) = parts to_nothing none none (some q)
parts_of (Start b) = parts (to_block b) none none none
parts_of (Exec w) = parts to_nothing none (some w) none
parts_of (Choose r a b) = parts (to_blocks a b) none none none
