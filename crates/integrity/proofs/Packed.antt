-- A byte of a packed table is a byte of its record.
--     Entry, entry      record i of a table: it is one of the records, and its bytes stand from w * i on
--     job_long          the bytes of a job with eight registers
-- Assumes nothing.
use mathlib.Core.Path.{◌≡◌, refl, ◌∙◌}
use mathlib.Core.List.Memᴰ
use mathlib.Core.List.{List, [], ◌∷◌, ◌++◌, append_assoc}
use Prim.Native.Nat.{ℕ, zero, suc, ◌+◌, ◌*◌, ◌<◌}
use native.Mathlib.Omega.{arith}
use native.Mathlib.Nat.{mul-suc}
use lib.ListN.{length, get_or, get_or-append}
use lib.Seq.{get_or-append-add}
use Rattle.machine.specs.Records.{ValueRecord, JobRecord}
use Rattle.tables.specs.Bytes.{packed, value_bytes, job_bytes}
use Rattle.integrity.specs.Integrity.{◌is_in◌}

module _ {A : Type 0} (bytes : A → List ℕ) (w : ℕ) where
  pub record Entry (l : List A) (t : List ℕ) (i : ℕ) : Type 0 where
    pub at : A
    pub stands : at is_in l
    pub says : (k : ℕ) → k < w → get_or t (w * i + k) 0 ≡ get_or (bytes at) k 0

  pub entry : (l : List A) (rest : List ℕ) (i : ℕ) → ((a : A) → a is_in l → length (bytes a) ≡ w) → i < length l
      → Entry l (packed bytes l ++ rest) i
  entry [] rest i h r = absurd (omega arith)
  entry (x ∷ xs) rest zero h r =
      record {
        at = x;
        stands = Memᴰ.head refl;
        says = λ k q.
            let n : length (bytes x) ≡ w = h x (Memᴰ.head refl) in
            let e : w * 0 + k ≡ k = omega arith in
            rw (append_assoc (bytes x) (packed bytes xs) rest, e) (get_or-append (bytes x) (packed bytes xs ++ rest) 0 k (omega arith));
      }
  entry (x ∷ xs) rest (suc i) h r =
      let y = entry xs rest i (λ a m. h a (Memᴰ.tail m)) (omega arith) in
      record {
        at = y.at;
        stands = Memᴰ.tail y.stands;
        says = λ k q.
            let n : length (bytes x) ≡ w = h x (Memᴰ.head refl) in
            let e : w * suc i + k ≡ length (bytes x) + (w * i + k) = omega (arith, mul-suc w i) in
            rw (append_assoc (bytes x) (packed bytes xs) rest, e)
            (get_or-append-add (bytes x) (packed bytes xs ++ rest) (w * i + k) 0 ∙ y.says k q);
      }

registers_long : (l : List ValueRecord) → length (packed value_bytes l) ≡ 6 * length l
registers_long [] = refl
registers_long (x ∷ xs) = let e = registers_long xs in omega arith

pub job_long : (j : JobRecord) → length j.registers ≡ 8 → length (job_bytes j) ≡ 52
job_long j e = let h = registers_long j.registers in omega arith
