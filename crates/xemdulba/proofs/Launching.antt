-- What the number that a run is launched by says.
--     launch_numbers
-- Assumes nothing.
use mathlib.Core.Path.{◌≡◌, refl, ap}
use mathlib.Core.Bool.{false}
use mathlib.Core.List.{List, [], ◌∷◌, map}
use Prim.Native.Nat.{ℕ, ◌+◌, ◌-◌, ◌<◌, ◌≤◌, min}
use native.Mathlib.Omega.{arith}
use lib.Dec.{ltb}
use lib.ListN.{length, get_or, length-map}
use borrow.Author.Tests.{lt-ltb, ltb-false, ne_eqb, eqb-true}
use Rattle.labels.specs.declared.Label.{Label}
use Rattle.labels.specs.Labels.{label}
use Rattle.std.specs.Prelude.{None}
use Rattle.book.specs.Outcome.{Passed, Refused}
use Rattle.book.specs.Control.{when◌then◌else◌}
use Rattle.book.specs.Kinds.{limits}
use Rattle.book.specs.Records.{byte_at, records, in_group}
use Rattle.book.specs.Book.{group_of, blocks_of, block_at, parse}
use Rattle.book.specs.Refusals.{above, out_of_range, range_fault, unreadable}
use Rattle.book.specs.Outline.{start_at, length_at}
use Rattle.book.specs.Stretch.{lost, found_in, found_block}
use Rattle.book.proofs.Tests.{either_left}
use Rattle.book.proofs.Every.{All, Passing, those_all}
use Rattle.book.proofs.Groups.{is_block}
use Rattle.book.proofs.Sweep.{Cleared, cleared}
use Rattle.book.proofs.Readable.{pass_whole, readable}
use Rattle.book.proofs.Parsed.{sound}
use Rattle.std.specs.Prelude.{Some}
use Rattle.machine.specs.Events.{no_block, first_bound}
use Rattle.interpreter.specs.Run.{unlaunched}
use Rattle.xemdulba.specs.Calls.{label_of, launch_of}
use Rattle.xemdulba.specs.Launching.{LaunchNumbers}

-- what refusal 5 leaves of a record, and of those behind it
abbrev Ranged : List ℕ → ℕ → Type 0
Ranged s o = Cleared {S = Unit {0}} (λ t o. out_of_range s o) (λ t o. t) (λ t. None) s o

block_small : (s : List ℕ) (o : ℕ) → Passing (Ranged s) (in_group s 4) o → byte_at s (o + 1) ≤ 15
unfolding out_of_range above limits
block_small s o h =
    let k : byte_at s o ≡ 48 = is_block (byte_at s o) (eqb-true _ _ h.passes) in
    ltb-false 15 (byte_at s (o + 1)) (either_left (ltb 15 (byte_at s (o + 1))) false (simp k at h.known.fine))

bound_small : (s : List ℕ) → unreadable s ≡ Passed → (first_bound (parse s)).0 ≤ 15
unfolding range_fault parse group_of block_at
bound_small s e =
    let r = readable s e in
    go (blocks_of s) (those_all (Ranged s) (in_group s 4) (records s) (cleared _ _ _ s tt 0 (pass_whole s r.whole) r.narrow))
  where
    go : (os : List ℕ) → All (Passing (Ranged s) (in_group s 4)) os → (get_or (map (block_at s) os) 0 no_block).bound.0 ≤ 15
    go [] h = omega arith
    go (o ∷ os) h = block_small s o h.0

above_bound : (bound : Label) (n : ℕ) → bound.0 ≤ 15 → bound.0 < n → (n ≡ 4294967295 → ⊥) → unlaunched bound (launch_of n) ≡ Refused 14 0
unfolding launch_of label_of unlaunched
above_bound bound n small h u = simp (ne_eqb n 4294967295 u, lt-ltb bound.0 (min n 255) (omega arith))

a_byte : (n : ℕ) → n ≤ 255 → launch_of n ≡ Some (label n)
unfolding launch_of label_of
a_byte n h = let e : min n 255 ≡ n = omega arith in simp (ne_eqb n 4294967295 (λ z. omega arith), e)

bound_before : (s : List ℕ) → unreadable s ≡ Passed → byte_at s ((found_block s 0).start - 1) ≡ (first_bound (parse s)).0
unfolding found_in parse block_at
bound_before s e = simp e (go (blocks_of s) (omega (arith, (sound s e).some_block, length-map (blocks_of s) (block_at s))))
  where
    go : (os : List ℕ) → 0 < length os
        → byte_at s ((when ltb 0 (length os) then record { refusal = Passed; start = start_at (get_or os 0 0); length = length_at s (get_or os 0 0) } else lost 12 0).start - 1)
        ≡ (get_or (map (block_at s) os) 0 no_block).bound.0
    go [] h = absurd (omega arith)
    go (o ∷ os) h = let q : o + 2 - 1 ≡ o + 1 = omega arith in simp (lt-ltb 0 (length (o ∷ os)) h) (ap (byte_at s) q)

pub launch_numbers : LaunchNumbers
unfolding launch_of
launch_numbers =
    record {
      none = refl;
      given = a_byte;
      above = λ book e n h u. above_bound (first_bound (parse book)) n (bound_small book e) h u;
      bound = bound_before;
    }
