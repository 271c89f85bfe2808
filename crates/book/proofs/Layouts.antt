-- Laws of the table of kinds: what it fixes of a kind, as the code tells kinds apart.
--     span_between         the span of the kinds from one to another, as antt computes it
--     limit_between        the limit of a field of such kinds
--     limited              the limits of a kind
--     fixed                what a kind fixes
-- Assumes nothing.
use mathlib.Core.Path.{◌≡◌}
use mathlib.Core.Bool.{Bool, ◌&&◌}
use Prim.Native.Nat.{ℕ, suc, ◌≤◌, ◌<◌}
use lib.Dec.{T, eqb, eqb→eq}
use lib.ListN.{length, get_or}
use Rattle.book.specs.Control.{when◌then◌else◌}
use Rattle.book.specs.Kinds.{layout_of, limits, span}
use Rattle.book.specs.Asked.{limit, Limited, Fixed}
use Rattle.book.proofs.Computed.{and_left, and_right, all_below, ranged, between}

-- what antt computes: the span of a kind, the limit of its field i
abbrev pub span_at : ℕ → ℕ
span_at k = when eqb (layout_of k).group 0 then 0 else suc (length (layout_of k).limits)

abbrev pub limit_at : ℕ → ℕ → ℕ
limit_at k i = get_or (layout_of k).limits i 255

pub span_between : (a b v : ℕ) → T (all_below (ranged span_at a b v) 256) → (k : ℕ) → k < 256 → a ≤ k → k ≤ b → v ≡ span k
unfolding span
span_between = between span_at

pub limit_between : (i a b v : ℕ) → T (all_below (ranged (λ k. limit_at k i) a b v) 256) → (k : ℕ) → k < 256 → a ≤ k → k ≤ b → v ≡ limit k i
unfolding limits
limit_between i = between (λ k. limit_at k i)

abbrev pub limits_are : ℕ → ℕ → ℕ → ℕ → Bool
limits_are j a b c = eqb a (limit_at j 0) && (eqb b (limit_at j 1) && eqb c (limit_at j 2))

pub limited : (k j a b c : ℕ) → k ≡ j → T (limits_are j a b c) → Limited k a b c
unfolding limits
limited k j a b c e t =
    let u = and_right (eqb a (limit_at j 0)) _ t in
    rw e (eqb→eq _ _ (and_left (eqb a (limit_at j 0)) _ t), eqb→eq _ _ (and_left (eqb b (limit_at j 1)) _ u), eqb→eq _ _ (and_right (eqb b (limit_at j 1)) _ u))

pub fixed : (k j w a b c : ℕ) → k ≡ j → T (eqb w (span_at j) && limits_are j a b c) → Fixed k w a b c
unfolding span
fixed k j w a b c e t =
    record { bytes = rw e (eqb→eq _ _ (and_left (eqb w (span_at j)) _ t)); limited = limited k j a b c e (and_right (eqb w (span_at j)) _ t) }
