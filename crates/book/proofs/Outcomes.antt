-- Laws of what a call gives.
--     refused_so, passed_so      what a stage that refuses, and one that passes, found
--     read_err                   a stage that refuses a book refuses its reading
--     unwrapped_inside, unwrapped_is, unwrapped_start      a stretch, or none where it was not found
-- Assumes nothing.
use mathlib.Core.Path.{◌≡◌, refl, sym, ap, ◌∙◌}
use mathlib.Core.List.{List}
use Prim.Native.Nat.{ℕ, ◌+◌, ◌-◌, ◌≤◌}
use lib.ListN.{length, take, drop}
use Rattle.std.specs.Prelude.{None, Some, Ok, Err}
use Rattle.std.specs.Result.{result_unwrap_or}
use Rattle.labels.proofs.Impossible.{impossible}
use Rattle.book.specs.declared.Refused as D
use Rattle.book.specs.declared.Stretch.{Stretch}
use Rattle.book.specs.Missing.{Fault}
use Rattle.book.specs.Outcome.{Passed, Refused, Given, ground_number, given_or}
use Rattle.book.specs.Refusals.{or_refuse}
use Rattle.book.specs.Outline.{Reading, refused_reading, read_by, reading}
use Rattle.book.specs.Stretch.{Found, no_stretch, found_by, found_block, stretch}
use Rattle.book.proofs.Blocks.{stretch_inside, stretch_is}

pub refused_so : (n : ℕ) (f : Fault) (e : D.Refused) → Refused (ground_number e.why) e.place ≡ or_refuse n f Passed
    → (ground_number e.why ≡ n) × (f ≡ Some e.place)
unfolding or_refuse
refused_so n None e h = impossible cc
refused_so n (Some o) e h = let a : e.place ≡ o = cc in (cc, ap Some (sym a))

pub passed_so : (n : ℕ) (f : Fault) → Passed ≡ or_refuse n f Passed → f ≡ None
unfolding or_refuse
passed_so n None h = refl
passed_so n (Some o) h = impossible cc

pub read_err : (s : List ℕ) (n : ℕ) (f g : Fault) (e : D.Refused) → f ≡ g → Refused (ground_number e.why) e.place ≡ or_refuse n f Passed
    → ((x : Reading) (o : ℕ) → g ≡ Some o → x ≡ refused_reading n o → x ≡ reading s) → read_by (Err e) ≡ reading s
read_err s n f g e ef h law =
    let y = refused_so n f e h in
    law (read_by (Err e)) e.place (sym ef ∙ y.1) (ap (λ k. refused_reading k e.place) y.0)

unwrapped : (r : Given Stretch) (d y : Stretch) → d ≡ no_stretch → y ≡ result_unwrap_or r d → y ≡ given_or no_stretch r
unwrapped (Ok f) d y ed ey = ey
unwrapped (Err e) d y ed ey = ey ∙ ed

module _ (s : List ℕ) (i : ℕ) (r : Given Stretch) (er : found_by r ≡ found_block s i) (d y : Stretch) (ed : d ≡ no_stretch) (ey : y ≡ result_unwrap_or r d) where
  pub unwrapped_inside : y.start + y.length ≤ length s
  unwrapped_inside = rw (unwrapped r d y ed ey) (stretch_inside s i (found_by r) er)

  pub unwrapped_is : take (y.start + y.length - y.start) (drop y.start s) ≡ stretch s i
  unwrapped_is = rw (unwrapped r d y ed ey) (stretch_is s i (found_by r) er)

  pub unwrapped_start : y.start ≡ (found_block s i).start
  unwrapped_start = ap (λ (f : Stretch). f.start) (unwrapped r d y ed ey) ∙ ap (λ (f : Found). f.start) er
