-- Laws of a list put into another, as a loop goes through it.
--     Copying, copies       s is copied into d from at on, up to entry j
-- Assumes nothing.
use mathlib.Core.Path.{◌≡◌, refl, ◌∙◌}
use mathlib.Core.List.{List}
use Prim.Native.Nat.{ℕ, ◌+◌, ◌≤◌, ◌<◌}
use native.Mathlib.Omega.{arith}
use native.Mathlib.Numerals.{add-one}
use lib.ListN.{length, get_or, set, length-set}
use lib.Seq.{paste, paste-zero, paste-suc, take-length}
use Rattle.records.specs.Copies.{put_at}

pub record Copying (d : List ℕ) (at : ℕ) (s : List ℕ) (end : ℕ) (out : List ℕ) (j : ℕ) : Type 0 where
  pub ends : end ≡ length s
  pub inside : j ≤ length s
  pub fits : at + length s ≤ length d
  pub long : length out ≡ length d
  pub holds : out ≡ paste d at s j

pub copy_start : (d : List ℕ) (at : ℕ) (s : List ℕ) → at + length s ≤ length d → Copying d at s (length s) d 0
copy_start d at s h = record { ends = refl; inside = omega arith; fits = h; long = refl; holds = paste-zero d at s }

module _ (d : List ℕ) (at : ℕ) (s : List ℕ) (end : ℕ) (out : List ℕ) (j : ℕ) (k : Copying d at s end out j) where
  pub copy_on : j < end → Copying d at s end (set out (at + j) (get_or s j 0)) (j + 1)
  copy_on h =
      let b : j < length s = omega (arith, k.ends) in
      let a : at + j < length d = omega (arith, k.fits) in
      record {
        ends = k.ends;
        inside = omega arith;
        fits = k.fits;
        long = length-set out (at + j) (get_or s j 0) ∙ k.long;
        holds = simp (k.holds, add-one) (paste-suc d at s j 0 a b);
      }

  pub copy_end : end ≤ j → out ≡ put_at d at s
  copy_end h = let e : j ≡ length s = omega (arith, k.ends, k.inside) in k.holds ∙ simp (e, take-length)

pub ruleset copies = (copy_start, copy_on, copy_end)
