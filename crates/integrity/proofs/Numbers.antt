-- Numbers of the proof: sources of joined histories against labels and trusts.
-- Assumes nothing.
use mathlib.Core.Path.{◌≡◌, refl}
use mathlib.Core.Bool.{Bool, true, false}
use Prim.Native.Nat.{ℕ, min, max, ◌<◌, ◌≤◌}
use native.Mathlib.Nat.{le_trans}
use native.Mathlib.Omega.{arith}
use borrow.Author.Tests.{leb-true, leb-false, ltb-true, ltb-false}
use Rattle.labels.specs.declared.Label.{Label}
use Rattle.labels.specs.declared.Trust.{Trust}
use Rattle.labels.specs.Labels.{trust, lower, is_high, normal, capped}
use Rattle.machine.specs.Acts.{exec_label}

-- what the tests in reach say of the numbers
pub ruleset facts = (arith, leb-true, leb-false, ltb-true, ltb-false)

pub lower_number : (a b : Label) → (lower a b).0 ≡ min a.0 b.0
unfolding lower
lower_number a b = refl

pub capped_number : (t : Trust) (l : Label) → (capped t l).0 ≡ min t.0 l.0
unfolding capped
capped_number t l = refl

pub exec_number : (a b : Label) → (exec_label a b).0 ≡ min a.0 b.0
unfolding exec_label lower
exec_number a b = refl

-- a trust as the book states it, and as typing counts it
pub normal_low : (c : Label) (t : Trust) → is_high t c ≡ false → normal c t ≡ trust 0
unfolding normal
normal_low c t e = simp (normal, e)

pub normal_high : (c : Label) (t : Trust) → is_high t c ≡ true → normal c t ≡ t
unfolding normal
normal_high c t e = simp (normal, e)

pub low_normal : (c : Label) (t : Trust) → is_high t c ≡ false → (normal c t).0 ≤ c.0
low_normal c t e = rw (normal_low c t e) (omega arith)

pub normal_above : (c : Label) (t : Trust) → c.0 < (normal c t).0 → normal c t ≡ t
normal_above c t h = go (is_high t c) refl
  where
    go : (b : Bool) → is_high t c ≡ b → normal c t ≡ t
    go true e = normal_high c t e
    go false e = let l = low_normal c t e in absurd (omega arith)

-- an act on a value of effect e, by an actor at label l, into a cell of trust S
pub act_source : (C S l : ℕ) (e p a h : Label) → C < S → S ≤ (lower e p).0 → S ≤ l → min e.0 l ≤ max C a.0 → l ≤ max C h.0
    → S ≤ max C (lower a h).0
act_source C S l e p a h x y z u w = omega (arith, lower_number e p, lower_number a h)

pub read_source : (C l : ℕ) (S : Trust) (p a h : Label) → S.0 ≤ max C a.0 → l ≤ max C h.0 → min (capped S p).0 l ≤ max C (lower a h).0
read_source C l S p a h x y = omega (arith, capped_number S p, lower_number a h)

pub read_above : (C : ℕ) (S : Trust) (p : Label) → C < (capped S p).0 → C < S.0
read_above C S p x = omega (arith, capped_number S p)

three : (C n a b h : ℕ) → n ≤ max C a → n ≤ max C b → n ≤ max C h → n ≤ max C (min (min a b) h)
three C n a b h p q r = omega arith

-- the source of three joined histories
pub joined_three : (C n : ℕ) (a b h : Label) → n ≤ max C a.0 → n ≤ max C b.0 → n ≤ max C h.0 → n ≤ max C (lower (lower a b) h).0
joined_three C n a b h p q r = rw (lower_number (lower a b) h, lower_number a b) (three C n a.0 b.0 h.0 p q r)

least : (e f p l n : ℕ) → n ≡ min (min (min e p) (min f p)) l → (n ≤ min e l) × (n ≤ min f l) × (n ≤ l)
least e f p l n q = omega arith

-- a sum's effect
pub add_source : (C l : ℕ) (e f p a b h : Label) → min e.0 l ≤ max C a.0 → min f.0 l ≤ max C b.0 → l ≤ max C h.0
    → min (lower (lower e p) (lower f p)).0 l ≤ max C (lower (lower a b) h).0
add_source C l e f p a b h x y z =
    let q : min (lower (lower e p) (lower f p)).0 l ≡ min (min (min e.0 p.0) (min f.0 p.0)) l =
    rw (lower_number (lower e p) (lower f p), lower_number e p, lower_number f p) refl in
    let w = least e.0 f.0 p.0 l _ q in
    joined_three C _ a b h (le_trans w.0 x) (le_trans w.1 y) (le_trans w.2 z)

pub exec_bound : (C P n d : ℕ) (l c : Label) → l.0 ≤ max C P → P ≤ n → n ≤ d → (exec_label l c).0 ≤ max C d
exec_bound C P n d l c x y z = omega (arith, exec_number l c)

pub exec_own : (C h : ℕ) (l c : Label) → l.0 ≤ max C h → (exec_label l c).0 ≤ max C h
exec_own C h l c x = omega (arith, exec_number l c)

pub exec_code : (C P S x : ℕ) (l c : Label) → l.0 ≤ max C P → P ≤ S → S ≤ max C x → (exec_label l c).0 ≤ max C x
exec_code C P S x l c p q r = omega (arith, exec_number l c)

pub exec_low : (C : ℕ) (l c : Label) → l.0 ≤ C → (exec_label l c).0 ≤ C
exec_low C l c x = omega (arith, exec_number l c)

-- a label that holds a trust above C
pub held_label : (C S c l : ℕ) → C < S → S ≤ max C c → c ≤ l → S ≤ l
held_label C S c l p q r = omega arith
