-- Laws of the exported writer: what the writer gave stands as variables with their equation.
--     labels                   a number as a label
--     call_refused, call_done     what the call answers, and what the buffer holds
--     write_at, write_size     its numbers have 32 bits
-- Assumes nothing.
use mathlib.Core.Path.{◌≡◌, refl, sym, ap, ◌∙◌}
use mathlib.Core.List.{List}
use Prim.Native.Nat.{ℕ, ◌≤◌, ◌<◌}
use native.Mathlib.Omega.{arith}
use lib.ListN.{length}
use mir.Val.{Fits}
use mir.Syntax.{w32}
use Rattle.labels.specs.declared.Label.{Label}
use Rattle.labels.specs.Labels.{label}
use Rattle.book.specs.Outcome.{Refusal, Passed, Refused}
use Rattle.rows.specs.Rows.{BookTables, bytes_of, tables_in}
use Rattle.rows.specs.Write.{WriteResult, unwritable, written_of, written}
use Rattle.rows.proofs.Placed.{write_place, write_length}
use Rattle.xemdulba.specs.Calls.{label_of, WriteCall, written_by, wrote}
use Rattle.xemdulba.proofs.Answers.{answers_fit}

pub small_label : (n : ℕ) → n < 256 → label n ≡ label_of n
unfolding label_of
small_label n h = ap label (omega arith)

pub large_label : (n : ℕ) → 256 ≤ n → label 255 ≡ label_of n
unfolding label_of
large_label n h = ap label (omega arith)

pub ruleset labels = (small_label, large_label)

refusal_is : (f : Refusal) (s out : List ℕ) → (written_of f s out).refusal ≡ f
unfolding written_of
refusal_is Passed s out = refl
refusal_is (Refused n o) s out = refl

passed_length : (f : Refusal) (s out : List ℕ) → f ≡ Passed → (written_of f s out).length ≡ length s
unfolding written_of
passed_length f s out e = rw e refl

-- what the writer gave: its refusal, its length, and the buffer after it
module _ (t : BookTables) (out : List ℕ) (f : Refusal) (l : ℕ) (out' : List ℕ)
    (e : ◌≡◌ {A = WriteResult} (record { refusal = f; length = l; out = out' }) (written t out)) where
  write_refused : (n o : ℕ) → f ≡ Refused n o
      → ◌≡◌ {A = WriteCall} (record { result = record { refusal = n; place = o; length = 0 }; out = out' }) (wrote (written t out))
  unfolding wrote written_by
  write_refused n o ef = simp (← e, ef)

  write_done : f ≡ Passed → ◌≡◌ {A = WriteCall} (record { result = record { refusal = 0; place = 0; length = l }; out = out' }) (wrote (written t out))
  unfolding wrote written_by
  write_done ef = simp (← e, ef)

  is : f ≡ unwritable t (length out)
  is = ap (λ (w : WriteResult). w.refusal) e ∙ refusal_is (unwritable t (length out)) (bytes_of t) out

  pub write_at : (n o : ℕ) → f ≡ Refused n o → Fits w32 o
  write_at n o ef = answers_fit o (omega (arith, write_place t (length out) n o (sym is ∙ ef)))

  pub write_size : f ≡ Passed → Fits w32 l
  write_size ef =
      let p = sym is ∙ ef in
      let q : l ≡ length (bytes_of t) = ap (λ (w : WriteResult). w.length) e ∙ passed_length (unwritable t (length out)) (bytes_of t) out p in
      answers_fit l (omega (arith, write_length t (length out) p))

-- the same, with C as a number
module _ (n : ℕ) (c : Label) (ec : c ≡ label_of n) (shapes cells blocks steps out : List ℕ) (f : Refusal) (l : ℕ) (out' : List ℕ)
    (e : ◌≡◌ {A = WriteResult} (record { refusal = f; length = l; out = out' }) (written (tables_in c shapes cells blocks steps) out)) where
  pub call_refused : (k o : ℕ) → f ≡ Refused k o
      → ◌≡◌ {A = WriteCall} (record { result = record { refusal = k; place = o; length = 0 }; out = out' })
      (wrote (written (tables_in (label_of n) shapes cells blocks steps) out))
  call_refused k o ef = rw (← ec) (write_refused (tables_in c shapes cells blocks steps) out f l out' e k o ef)

  pub call_done : f ≡ Passed
      → ◌≡◌ {A = WriteCall} (record { result = record { refusal = 0; place = 0; length = l }; out = out' })
      (wrote (written (tables_in (label_of n) shapes cells blocks steps) out))
  call_done ef = rw (← ec) (write_done (tables_in c shapes cells blocks steps) out f l out' e ef)
