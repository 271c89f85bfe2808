-- Laws of `skip_steps`, as it goes through the steps by a reader.
--     Passing                 os are the records that are left, and n of the steps from a on lie behind
--     pass_more               past a step
--     pass_stop, pass_end     at another record, and at the end of the book
-- Assumes nothing.
use mathlib.Core.Path.{◌≡◌, refl, sym, ap, ◌∙◌}
use mathlib.Core.Bool.{Bool, true, false}
use mathlib.Core.List.{List, [], ◌∷◌}
use Prim.Native.Nat.{ℕ, ◌+◌, ◌≤◌, ◌<◌}
use native.Mathlib.Omega.{arith}
use lib.Dec.{ltb}
use lib.ListN.{length}
use borrow.Author.Tests.{ltb-true, ltb-false}
use Rattle.labels.proofs.Impossible.{impossible}
use Rattle.book.specs.declared.Skipped.{Skipped}
use Rattle.book.specs.Kinds.{group}
use Rattle.book.specs.Records.{byte_at, next, records_from}
use Rattle.book.specs.Asked.{skipped}
use Rattle.book.proofs.Records.{records_end, walk}
use Rattle.book.proofs.Steps.{Skipping, skip_more, skip_stop, skip_end}

pub record Passing (s : List ℕ) (a n : ℕ) (os : List ℕ) : Type 0 where
  pub here : ℕ
  pub skips : Skipping s a here n
  pub left : os ≡ records_from s here

abbrev come : ℕ → ℕ → Skipped
come o n = record { at = o; count = n }

module _ (s : List ℕ) (a n : ℕ) (os : List ℕ) (k : Passing s a n os) where
  pub pass_end : os ≡ [] → ◌≡◌ {A = Skipped} (record { at = length s; count = n }) (skipped s a)
  pass_end e = ap (λ o. come o n) (omega (arith, over, k.skips.inside)) ∙ skip_end s a k.here n k.skips over
    where
      over : length s ≤ k.here
      over = go (ltb k.here (length s)) refl
        where
          go : (b : Bool) → ltb k.here (length s) ≡ b → length s ≤ k.here
          go true p =
              let x : [] ≡ k.here ∷ records_from s (next s k.here) = sym e ∙ k.left ∙ (walk s k.here k.skips.whole (ltb-true _ _ p)).list in
              impossible cc
          go false p = ltb-false _ _ p

  module _ (o : ℕ) (rest : List ℕ) (e : os ≡ o ∷ rest) where
    inside : k.here < length s
    inside = go (ltb k.here (length s)) refl
      where
        go : (b : Bool) → ltb k.here (length s) ≡ b → k.here < length s
        go true p = ltb-true _ _ p
        go false p = let x : [] ≡ o ∷ rest = sym (records_end s k.here (ltb-false _ _ p)) ∙ sym k.left ∙ e in impossible cc

    both_lists : o ∷ rest ≡ k.here ∷ records_from s (next s k.here)
    both_lists = sym e ∙ k.left ∙ (walk s k.here k.skips.whole inside).list

    at_here : o ≡ k.here
    at_here = let x = both_lists in cc

    module _ (g : ℕ) (eg : g ≡ group (byte_at s o)) where
      same : g ≡ group (byte_at s k.here)
      same = eg ∙ ap (λ o. group (byte_at s o)) at_here

      pub pass_more : g ≡ 5 → Passing s a (n + 1) rest
      pass_more f =
          let x = both_lists in
          record {
            here = next s k.here;
            skips = skip_more s a k.here n k.skips g _ inside same f refl;
            left = cc;
          }

      pub pass_stop : (g ≡ 5 → ⊥) → ◌≡◌ {A = Skipped} (record { at = o; count = n }) (skipped s a)
      pass_stop f = ap (λ o. come o n) at_here ∙ skip_stop s a k.here n k.skips g inside same f
