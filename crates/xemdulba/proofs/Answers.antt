-- Laws of the exported calls: what a callee gave stands as a variable with its equation.
--     check_refused, .., found_length     what each call answers; its numbers have 32 bits
--     answers_fit               a number below 2 ^ 32 has 32 bits
--     tells                     what is told of an offset
-- Assumes nothing.
use mathlib.Core.Path.{◌≡◌, ap, ◌∙◌}
use mathlib.Core.List.{List}
use Prim.Native.Nat.{ℕ, ◌<◌}
use native.Mathlib.Omega.{arith}
use borrow.Author.Rules.{Fits-under}
use mir.Val.{Fits}
use mir.Syntax.{w32}
use Rattle.book.specs.Outcome.{Passed}
use Rattle.book.specs.Outcome as R
use Rattle.book.specs.Stretch.{Found}
use Rattle.book.specs.Stretch.{found_block}
use Rattle.book.proofs.Bounds.{found_place, found_short}
use Rattle.typing.specs.Verdict.{Verdict}
use Rattle.typing.specs.Verdict.{Accepted, Refused}
use Rattle.typing.specs.Verdict.{verdict}
use Rattle.typing.proofs.Bounds.{verdict_place, verdict_counts}
use Rattle.listing.specs.declared.Fields.{Fields}
use Rattle.xemdulba.specs.declared.Told.{Told}
use Rattle.xemdulba.specs.Calls.{checked, found_by, found, fields_told}

pub answers_fit : (n : ℕ) → n < 4294967296 → Fits w32 n
answers_fit n h = Fits-under w32 n 4294967296 h tt

-- v is the verdict
module _ (s : List ℕ) (v : Verdict) (ev : v ≡ verdict s) where
  pub check_refused : (n o : ℕ) → v ≡ Refused n o
      → record { refusal = n; place = o; shapes = 0; cells = 0; blocks = 0; steps = 0 } ≡ checked (verdict s)
  unfolding checked
  check_refused n o e = simp (← ev, e)

  pub check_place : (n o : ℕ) → v ≡ Refused n o → Fits w32 o
  check_place n o e = answers_fit o (omega (arith, verdict_place s v ev n o e))

  module _ (i k b p : ℕ) (e : v ≡ Accepted i k b p) where
    pub check_accepted : record { refusal = 0; place = 0; shapes = i; cells = k; blocks = b; steps = p } ≡ checked (verdict s)
    unfolding checked
    check_accepted = simp (← ev, e)

    pub check_shapes : Fits w32 i
    check_shapes = answers_fit i (omega (arith, verdict_counts s v ev i k b p e))

    pub check_cells : Fits w32 k
    check_cells = answers_fit k (omega (arith, verdict_counts s v ev i k b p e))

    pub check_blocks : Fits w32 b
    check_blocks = answers_fit b (omega (arith, verdict_counts s v ev i k b p e))

    pub check_steps : Fits w32 p
    check_steps = answers_fit p (omega (arith, verdict_counts s v ev i k b p e))

-- f is where the block's stretch stands
module _ (s : List ℕ) (i : ℕ) (f : Found) (ef : f ≡ found_block s i) where
  pub found_refused : (n o : ℕ) → f.refusal ≡ R.Refused n o → record { refusal = n; place = o; start = 0; length = 0 } ≡ found (found_block s i)
  unfolding found_by
  found_refused n o e = simp (← ef, e)

  pub found_at : (n o : ℕ) → f.refusal ≡ R.Refused n o → Fits w32 o
  found_at n o e = answers_fit o (omega (arith, found_place s i f ef n o e))

  module _ (e : f.refusal ≡ Passed) where
    pub found_there : record { refusal = 0; place = 0; start = f.start; length = f.length } ≡ found (found_block s i)
    unfolding found_by
    found_there = simp (← ef, e)

    pub found_start : Fits w32 f.start
    found_start = answers_fit f.start (omega (arith, found_short s i f ef e))

    pub found_length : Fits w32 f.length
    found_length = answers_fit f.length (omega (arith, found_short s i f ef e))

pub tells : (r : Told) (f g : Fields) → r ≡ fields_told f → f ≡ g → r ≡ fields_told g
tells r f g er ef = er ∙ ap fields_told ef
