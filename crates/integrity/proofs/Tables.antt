-- The tables of a run that is not refused say of an accepted book what the integrity theorem says of its state.
--     tables
-- Assumes nothing.
use mathlib.Core.Path.{◌≡◌, refl, sym, ◌∙◌}
use mathlib.Core.Bool.{Bool, true, false}
use mathlib.Core.List.{List}
use Prim.Native.Nat.{ℕ, ◌+◌, ◌*◌, ◌<◌, ◌≤◌}
use native.Mathlib.Omega.{arith}
use lib.ListN.{length, length-map}
use borrow.Author.Tests.{leb-true, le-leb, lt-ltb, ltb-false}
use Rattle.labels.proofs.Impossible.{impossible}
use Rattle.labels.specs.declared.Label.{Label}
use Rattle.labels.specs.Labels.{reaches, is_above}
use Rattle.book.specs.Outcome.{Refusal, Passed, Refused}
use Rattle.book.specs.Records.{byte_at}
use Rattle.book.specs.Book.{Book, parse}
use Rattle.book.specs.Refusals.{unreadable}
use Rattle.book.proofs.Every.{all_in, map_from}
use Rattle.book.proofs.Parsed.{sound}
use Rattle.typing.specs.Verdict.{Accepted}
use Rattle.typing.specs.Verdict.{verdict}
use Rattle.machine.specs.Launch.{Launch}
use Rattle.std.specs.Prelude.{None, Some}
use Rattle.machine.specs.Histories.{lists}
use Rattle.machine.specs.Events.{table_size, first_bound, launched_at, launch_label}
use Rattle.machine.specs.Records.{CellRecord, JobRecord, value_record, cell_record, job_record, cell_records, job_records}
use Rattle.machine.proofs.Launched.{default_below}
use Rattle.machine.proofs.Named.{Any, JobNamed, state_after_named}
use Rattle.events.specs.Bytes.{events_in}
use Rattle.tables.specs.Bytes.{cell_bytes, job_bytes, cell_table, job_table}
use Rattle.interpreter.specs.Run.{or_next, unlaunched, refusal_by, unrunnable, played, final_state, ran_of}
use Rattle.interpreter.proofs.Ran.{refusal_is}
use Rattle.integrity.specs.Integrity.{◌is_in◌, Recorded}
use Rattle.integrity.specs.Tables.{TablesKept, Tables}
use Rattle.integrity.proofs.Bridge.{passed}
use Rattle.integrity.proofs.Integrity.{integrity}
use Rattle.integrity.proofs.Packed.{Entry, entry, job_long}

-- entry i of each table
cell_entry : (l : List CellRecord) (i : ℕ) → i < length l → Entry cell_bytes 9 l (cell_table l) i
unfolding cell_table
cell_entry l i r = entry cell_bytes 9 l _ i (λ c m. refl) r

job_entry : (l : List JobRecord) (i : ℕ) → ((j : JobRecord) → j is_in l → length (job_bytes j) ≡ 52) → i < length l → Entry job_bytes 52 l (job_table l) i
unfolding job_table
job_entry l i h r = entry job_bytes 52 l _ i h r

module _ (c : Label) (cs : List CellRecord) (js : List JobRecord) (h : Recorded c cs js) (i : ℕ) where
  label_said : i < length cs → c.0 < byte_at (cell_table cs) (9 * i + 1) → byte_at (cell_table cs) (9 * i + 1) ≤ byte_at (cell_table cs) (9 * i + 2)
  label_said r q =
      let y = cell_entry cs i r in
      let t : byte_at (cell_table cs) (9 * i + 1) ≡ y.at.trust.0 = y.says 1 (omega arith) in
      let l : byte_at (cell_table cs) (9 * i + 2) ≡ y.at.label.0 = y.says 2 (omega arith) in
      let k : y.at.trust.0 ≤ y.at.label.0 = leb-true _ _ (h.labels y.at y.stands (lt-ltb c.0 y.at.trust.0 (omega arith))) in
      omega arith

  source_said : i < length cs → c.0 < byte_at (cell_table cs) (9 * i + 1) → byte_at (cell_table cs) (9 * i + 1) ≤ byte_at (cell_table cs) (9 * i + 8)
  source_said r q =
      let y = cell_entry cs i r in
      let t : byte_at (cell_table cs) (9 * i + 1) ≡ y.at.trust.0 = y.says 1 (omega arith) in
      let l : byte_at (cell_table cs) (9 * i + 8) ≡ y.at.value.source.0 = y.says 8 (omega arith) in
      let k : y.at.trust.0 ≤ y.at.value.source.0 = leb-true _ _ (h.sources y.at y.stands (lt-ltb c.0 y.at.trust.0 (omega arith))) in
      omega arith

  job_said : ((j : JobRecord) → j is_in js → length (job_bytes j) ≡ 52) → i < length js → c.0 < byte_at (job_table js) (52 * i + 2)
      → byte_at (job_table js) (52 * i + 2) ≤ byte_at (job_table js) (52 * i + 3)
  job_said w r q =
      let y = job_entry js i w r in
      let t : byte_at (job_table js) (52 * i + 2) ≡ y.at.label.0 = y.says 2 (omega arith) in
      let l : byte_at (job_table js) (52 * i + 3) ≡ y.at.source.0 = y.says 3 (omega arith) in
      let k : y.at.label.0 ≤ y.at.source.0 = leb-true _ _ (h.jobs y.at y.stands (lt-ltb c.0 y.at.label.0 (omega arith))) in
      omega arith

-- a launch label that is not refused is at most the bound
launch_below : (K : Book) (launch : Launch) → unlaunched (first_bound K) launch ≡ Passed → reaches (first_bound K) (launch_label K launch) ≡ true
unfolding unlaunched launched_at
launch_below K None p = default_below K
launch_below K (Some l) p = go (is_above l (first_bound K)) refl
  where
    go : (b : Bool) → is_above l (first_bound K) ≡ b → reaches (first_bound K) (launch_label K (Some l)) ≡ true
    go true e = let x : Refused 14 0 ≡ Passed = simp e at p in impossible cc
    go false e = le-leb l.0 (first_bound K).0 (ltb-false (first_bound K).0 l.0 e)

-- the last stage of a run that is not refused passed
last_passed : (x y z w : Refusal) → or_next x (or_next y (or_next z w)) ≡ Passed → w ≡ Passed
unfolding or_next
last_passed Passed Passed Passed w e = e
last_passed Passed Passed (Refused n o) w e = impossible cc
last_passed Passed (Refused n o) z w e = impossible cc
last_passed (Refused n o) y z w e = impossible cc

module _ (book : List ℕ) (shapes cells blocks steps : ℕ) (e : verdict book ≡ Accepted shapes cells blocks steps) (l : Label)
    (below : reaches (first_bound (parse book)) l ≡ true) (list : List ℕ) where
  recorded : Recorded (parse book).c (cell_records (parse book) (final_state book l list)) (job_records (final_state book l list))
  recorded = (integrity book shapes cells blocks steps e table_size l below (events_in list)).recorded

  jobs_long : (r : JobRecord) → r is_in job_records (final_state book l list) → length (job_bytes r) ≡ 52
  jobs_long =
      let ok = sound book (passed shapes cells blocks steps (unreadable book) book e).0 in
      let s = state_after_named lists (parse book) table_size ok l (events_in list) in
      map_from job_record (λ r. length (job_bytes r) ≡ 52) (final_state book l list).jobs
      (λ j m.
      job_long (job_record j)
      (length-map j.registers value_record ∙ (all_in (JobNamed Any (parse book)) (final_state book l list).jobs j s.jobs m).eight))

  kept : (r : Refusal) (cs js room : List ℕ) → r ≡ Passed → TablesKept (parse book).c.0 (ran_of r book l list cs js room)
  unfolding ran_of played
  kept (Refused n o) cs js room p = impossible cc
  kept Passed cs js room p =
      let s = final_state book l list in
      let c : length (cell_records (parse book) s) ≡ length s.cells = length-map s.cells (cell_record (parse book)) in
      let j : length (job_records s) ≡ length s.jobs = length-map s.jobs job_record in
      record {
        labels = λ i h q. label_said (parse book).c _ (job_records s) recorded i (rw c h) q;
        sources = λ i h q. source_said (parse book).c _ (job_records s) recorded i (rw c h) q;
        jobs = λ i h q. job_said (parse book).c (cell_records (parse book) s) _ recorded i jobs_long (rw j h) q;
      }

pub tables : Tables
unfolding refusal_by
tables book shapes cells blocks steps e launch list cs js room p =
    let r = unrunnable book launch list (length cs) (length js) (length room) in
    let q : r ≡ Passed = sym (refusal_is r book (launch_label (parse book) launch) list cs js room) ∙ p in
    kept book shapes cells blocks steps e (launch_label (parse book) launch) (launch_below (parse book) launch (last_passed _ _ _ _ q)) list r cs js room q
