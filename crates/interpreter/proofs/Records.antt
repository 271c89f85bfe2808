-- The tables that the code saves are the records of the machine with histories.
--     saved_cells_lem, saved_jobs_lem
-- Assumes nothing.
use mathlib.Core.Path.{◌≡◌, refl, sym, ap, ◌∙◌}
use mathlib.Core.List.{List, map, map-map, map_congr_left}
use Prim.Native.Nat.{ℕ}
use lib.ListN.{get_or}
use Rattle.labels.specs.declared.Label.{Label}
use Rattle.book.specs.declared.Shape.{Shape}
use Rattle.book.specs.Book.{Book}
use Rattle.book.specs.Refusals.{no_shape}
use Rattle.book.specs.Outline.{shape_in}
use Rattle.machine.specs.Histories.{History, source}
use Rattle.machine.specs.States.{Traced}
use Rattle.machine.specs.States as States
use Rattle.machine.specs.Events.{stated_trust}
use Rattle.machine.specs.Images.{traced_image, cell_image, job_image}
use Rattle.machine.specs.Records.{kind_of, number_of, ValueRecord, CellRecord, JobRecord, value_record, cell_record, job_record}
use Rattle.acts.specs.declared.StoredCell.{StoredCell}
use Rattle.acts.specs.declared.StoredJob.{StoredJob}
use Rattle.acts.specs.declared.Stored.{Stored}
use Rattle.acts.specs.Views.{stored_of, stored_content, cell_of, job_of}
use Rattle.book.proofs.Decoded.{number_is}
use Rattle.tables.specs.Bytes.{stored_record, cell_record_in, job_record_of, cell_table, job_table, saved_cells, saved_jobs}

-- a map by way of another
through : {A B C : Type 0} (f : A → B) (g : B → C) (h : A → C) → ((a : A) → h a ≡ g (f a)) → (l : List A) → map h l ≡ map g (map f l)
through f g h e l = map_congr_left {l = l} (λ a m. e a) ∙ sym (map-map g f l)

-- the records of the machine over sources
abbrev value_by : Traced Label → ValueRecord
value_by v = record { kind = kind_of v.value; number = number_of v.value; source = v.history }

abbrev cell_by : Book → States.Cell Label → CellRecord
cell_by K c = record { shape = c.shape; trust = stated_trust K c.shape; label = c.label; value = value_by c.content }

abbrev job_by : States.Job Label → JobRecord
job_by j = record { block = j.block; position = j.position; label = j.label; registers = map value_by j.registers; source = j.history }

stored_is : (v : Stored) → stored_record v ≡ value_by (stored_of v)
stored_is v = rw (number_is v.kind v.number) refl

pub saved_cells_lem : (K : Book) (shapes : List ℕ) (l : List StoredCell) (hs : List (States.Cell History))
    → ((i : ℕ) → shape_in shapes i ≡ get_or K.shapes i no_shape) → map cell_of l ≡ map (cell_image source) hs
    → saved_cells shapes l ≡ cell_table (map (cell_record K) hs)
unfolding saved_cells
saved_cells_lem K shapes l hs are e =
    ap cell_table
    (through cell_of (cell_by K) (cell_record_in shapes)
    (λ c. ap (λ (x : Shape). record { shape = c.shape; trust = x.trust; label = c.label; value = stored_record (stored_content c) }) (are c.shape)
    ∙ ap (λ (v : ValueRecord). record { shape = c.shape; trust = stated_trust K c.shape; label = c.label; value = v }) (stored_is (stored_content c))) l ∙ ap (map (cell_by K)) e
    ∙ sym (through (cell_image source) (cell_by K) (cell_record K) (λ c. refl) hs))

job_is : (j : StoredJob) → job_record_of j ≡ job_by (job_of j)
job_is j = rw (through stored_of value_by stored_record stored_is j.registers) refl

job_image_lem : (j : States.Job History) → job_record j ≡ job_by (job_image source j)
job_image_lem j = rw (through (traced_image source) value_by value_record (λ v. refl) j.registers) refl

pub saved_jobs_lem : (l : List StoredJob) (hs : List (States.Job History)) → map job_of l ≡ map (job_image source) hs → saved_jobs l ≡ job_table (map job_record hs)
unfolding saved_jobs
saved_jobs_lem l hs e =
    ap job_table (through job_of job_by job_record_of job_is l ∙ ap (map job_by) e ∙ sym (through (job_image source) job_by job_record job_image_lem hs))
