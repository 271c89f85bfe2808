-- The tables at the start hold the machine's fresh state.
--     ready_drawn      what the loop asks for, without what is lent
--     open_listed      the cells that are to be opened
--     opened           the tables hold the machine's state
-- Assumes nothing.
use mathlib.Core.Path.{◌≡◌, refl, ap, ◌∙◌}
use mathlib.Core.List.{List, [], ◌∷◌, map}
use Prim.Native.Nat.{ℕ, zero, suc, ◌<◌, ◌≤◌}
use native.Mathlib.Omega.{arith}
use lib.ListN.{length, take, get_or, set, replicate}
use Rattle.labels.specs.declared.Label.{Label}
use Rattle.book.specs.declared.Value.{Value}
use Rattle.book.specs.declared.Value.TheVariants.{Plain, CellName, CodeName}
use Rattle.book.specs.Book.{parse, cells_of, declared_at, value_of}
use Rattle.book.proofs.Limits.{most_cells}
use Rattle.book.proofs.Readable.{readable}
use Rattle.book.specs.Asked.{Listed}
use Rattle.book.proofs.Outlines.{listed}
use Rattle.machine.specs.Histories.{sources}
use Rattle.machine.specs.States as States
use Rattle.machine.specs.Acts.{fresh_job}
use Rattle.machine.specs.Records.{kind_of, number_of}
use Rattle.machine.specs.Events.{declared}
use Rattle.acts.specs.declared.StoredCell.{StoredCell}
use Rattle.acts.specs.declared.StoredJob.{StoredJob}
use Rattle.acts.specs.Views.{cell_of, job_of}
use Rattle.tables.specs.Opening.{start_in, opened_cells}
use Rattle.interpreter.specs.Loop.{Placed, Holds, opening, Drawn, Ready}
use Rattle.interpreter.proofs.Starts.{placed_fresh}

-- a value is told by its kind and its number
value_back : (v : Value) → value_of (kind_of v) (number_of v) ≡ v
unfolding value_of
value_back (Plain n) = refl
value_back (CellName n) = refl
value_back (CodeName n) = refl

-- the declared cells, as the machine has them
declared_are : (b os : List ℕ) → map cell_of (opened_cells b os) ≡ map (declared sources) (map (declared_at b) os)
unfolding opened_cells
declared_are b [] = refl
declared_are b (o ∷ os) = rw (value_back (declared_at b o).value, declared_are b os) refl

pub ready_drawn : {b : List ℕ} {c : Label} {shapes offsets starts list cells jobs answers : List ℕ}
    → Ready b c shapes offsets starts list cells jobs answers → Drawn b shapes offsets starts
ready_drawn y = record { readable = y.readable; shapes_are = y.shapes_are; offsets_are = y.offsets_are; starts_are = y.starts_are }

module _ (b shapes offsets starts : List ℕ) (y : Drawn b shapes offsets starts) where
  few : length offsets ≤ 32
  few = rw y.offsets_are (most_cells b (readable b y.readable).few)

  pub open_listed : Listed b offsets × (length offsets ≤ 64)
  open_listed = (rw y.offsets_are (listed b (readable b y.readable)), omega (arith, few))

  -- job 0 stands first, before 63 that are not in use
  pub opened : (l : Label) (held : List StoredCell) (none j : StoredJob) (start : ℕ) → length held ≡ 64 → take (length offsets) held ≡ opened_cells b offsets
      → start ≡ start_in starts 0 (length b) → job_of j ≡ fresh_job sources 0 l l → j.at ≡ start → j.position ≡ 0 → j.block ≡ 0
      → Holds b (opening b l) held (length offsets) (set (replicate 64 none) 0 j) 1
  unfolding parse
  opened l held none j start long e es ej ea ep eb =
      record {
        cells_are = ap (map cell_of) (e ∙ ap (opened_cells b) y.offsets_are) ∙ declared_are b (cells_of b);
        cells_long = long;
        cells_fit = omega (arith, few);
        jobs_are = ap (λ (j : States.Job Label). j ∷ []) ej;
        jobs_long = refl;
        jobs_fit = omega arith;
        some_job = omega arith;
        placed = only;
      }
    where
      only : (i : ℕ) (d : StoredJob) → i < 1 → Placed b (get_or (set (replicate 64 none) 0 j) i d)
      only zero d h = placed_fresh b y.readable starts y.starts_are j 0 eb ep (ea ∙ es)
      only (suc i) d h = absurd (omega arith)
