-- A block's stretch, walked by its own offsets, has exactly the block's steps.
--     up                            a number that is at least a is a or more
--     step_same                     the same record at two places of two lists is the same step
--     Parted, parted                the part of a book from a on up to where the steps from a on end
-- Assumes nothing.
use mathlib.Core.Path.{◌≡◌, refl, sym, ap, ◌∙◌}
use mathlib.Core.Bool.{Bool, true, false}
use mathlib.Core.List.{List, [], ◌∷◌, map}
use Prim.Native.Nat.{ℕ, ◌+◌, ◌-◌, ◌≤◌, ◌<◌}
use native.Mathlib.Omega.{arith}
use lib.Dec.{eqb, ltb}
use lib.ListN.{length, take, drop, length-take, length-drop}
use lib.Seq.{get_or-take, get_or-drop}
use borrow.Author.Tests.{eqb-true, eqb-false, ltb-true, ltb-false}
use Rattle.book.specs.Control.{sweep}
use Rattle.book.specs.Kinds.{span, group}
use Rattle.book.specs.Records.{byte_at, number_at, next, cut}
use Rattle.book.specs.Book.{step_at, steps_from}
use Rattle.book.specs.Outline.{steps_end}
use Rattle.book.specs.Asked.{Whole}
use Rattle.book.proofs.Groups.{is_step}
use Rattle.book.proofs.Spans.{uncut}
use Rattle.book.proofs.Records.{records_end, records_more, walk}
use Rattle.book.proofs.Steps.{steps_end_lem, steps_none, steps_more, end_more, end_none}
use Rattle.book.proofs.Past.{past_steps}
use Rattle.book.proofs.Decoded.{is_put, is_name, is_code, is_add, is_new, is_read, is_write, is_relabel, is_lower, is_start, is_exec, choose_past}

-- a number that is at least a is a or more
pub up : {X : Type 0} (k a : ℕ) → a ≤ k → (k ≡ a → X) → (a + 1 ≤ k → X) → X
up {X} k a h f g = go (eqb k a) refl
  where
    go : (b : Bool) → eqb k a ≡ b → X
    go true e = f (eqb-true k a e)
    go false e = let n = eqb-false k a e in g (omega arith)

-- the same record at x of w and at o of s
module _ (w s : List ℕ) (x o : ℕ) (e : byte_at w x ≡ byte_at s o) (f : (i : ℕ) → i < span (byte_at s o) → byte_at w (x + i) ≡ byte_at s (o + i)) where
  -- the i-th byte of a record of kind k
  same : (k i : ℕ) → byte_at s o ≡ k → i < span k → byte_at s (o + i) ≡ byte_at w (x + i)
  same k i h l = sym (f i (rw h l))

  number_same : byte_at s o ≡ 64 → number_at s (o + 2) ≡ number_at w (x + 2)
  unfolding number_at span
  number_same h =
      let a : byte_at s (o + 2) ≡ byte_at w (x + 2) = same 64 2 h (omega arith) in
      let b : byte_at s (o + 2 + 1) ≡ byte_at w (x + 2 + 1) = ap (byte_at s) (omega arith) ∙ same 64 3 h (omega arith) ∙ ap (byte_at w) (omega arith) in
      let c : byte_at s (o + 2 + 2) ≡ byte_at w (x + 2 + 2) = ap (byte_at s) (omega arith) ∙ same 64 4 h (omega arith) ∙ ap (byte_at w) (omega arith) in
      let d : byte_at s (o + 2 + 3) ≡ byte_at w (x + 2 + 3) = ap (byte_at s) (omega arith) ∙ same 64 5 h (omega arith) ∙ ap (byte_at w) (omega arith) in
      simp (a, b, c, d)

  same_put : byte_at s o ≡ 64 → step_at w x ≡ step_at s o
  unfolding span
  same_put h = sym (is_put w x _ (same 64 1 h (omega arith)) _ (number_same h) (e ∙ h)) ∙ is_put s o _ refl _ refl h

  same_name : byte_at s o ≡ 65 → step_at w x ≡ step_at s o
  unfolding span
  same_name h = sym (is_name w x _ (same 65 1 h (omega arith)) _ (same 65 2 h (omega arith)) (e ∙ h)) ∙ is_name s o _ refl _ refl h

  same_code : byte_at s o ≡ 66 → step_at w x ≡ step_at s o
  unfolding span
  same_code h = sym (is_code w x _ (same 66 1 h (omega arith)) _ (same 66 2 h (omega arith)) (e ∙ h)) ∙ is_code s o _ refl _ refl h

  same_add : byte_at s o ≡ 67 → step_at w x ≡ step_at s o
  unfolding span
  same_add h =
      sym (is_add w x _ (same 67 1 h (omega arith)) _ (same 67 2 h (omega arith)) _ (same 67 3 h (omega arith)) (e ∙ h))
      ∙ is_add s o _ refl _ refl _ refl h

  same_new : byte_at s o ≡ 68 → step_at w x ≡ step_at s o
  unfolding span
  same_new h =
      sym (is_new w x _ (same 68 1 h (omega arith)) _ (same 68 2 h (omega arith)) _ (same 68 3 h (omega arith)) (e ∙ h))
      ∙ is_new s o _ refl _ refl _ refl h

  same_read : byte_at s o ≡ 69 → step_at w x ≡ step_at s o
  unfolding span
  same_read h = sym (is_read w x _ (same 69 1 h (omega arith)) _ (same 69 2 h (omega arith)) (e ∙ h)) ∙ is_read s o _ refl _ refl h

  same_write : byte_at s o ≡ 70 → step_at w x ≡ step_at s o
  unfolding span
  same_write h = sym (is_write w x _ (same 70 1 h (omega arith)) _ (same 70 2 h (omega arith)) (e ∙ h)) ∙ is_write s o _ refl _ refl h

  same_relabel : byte_at s o ≡ 71 → step_at w x ≡ step_at s o
  unfolding span
  same_relabel h = sym (is_relabel w x _ (same 71 1 h (omega arith)) _ (same 71 2 h (omega arith)) (e ∙ h)) ∙ is_relabel s o _ refl _ refl h

  same_lower : byte_at s o ≡ 72 → step_at w x ≡ step_at s o
  unfolding span
  same_lower h = sym (is_lower w x _ (same 72 1 h (omega arith)) (e ∙ h)) ∙ is_lower s o _ refl h

  same_start : byte_at s o ≡ 73 → step_at w x ≡ step_at s o
  unfolding span
  same_start h = sym (is_start w x _ (same 73 1 h (omega arith)) (e ∙ h)) ∙ is_start s o _ refl h

  same_exec : byte_at s o ≡ 74 → step_at w x ≡ step_at s o
  unfolding span
  same_exec h = sym (is_exec w x _ (same 74 1 h (omega arith)) (e ∙ h)) ∙ is_exec s o _ refl h

  same_choose : byte_at s o ≡ 75 → step_at w x ≡ step_at s o
  unfolding span
  same_choose h =
      let p : 74 < byte_at w x = omega arith in
      sym (choose_past w x _ (same 75 1 h (omega arith)) _ (same 75 2 h (omega arith)) _ (same 75 3 h (omega arith)) p)
      ∙ choose_past s o _ refl _ refl _ refl (omega arith)

  pub step_same : group (byte_at s o) ≡ 5 → step_at w x ≡ step_at s o
  step_same g =
      let k = byte_at s o in
      let r = is_step k g in
      up k 64 r.0 same_put (λ l. up k 65 l same_name (λ l. up k 66 l same_code (λ l. up k 67 l same_add (λ l. up k 68 l same_new
      (λ l. up k 69 l same_read (λ l. up k 70 l same_write (λ l. up k 71 l same_relabel (λ l. up k 72 l same_lower
      (λ l. up k 73 l same_start (λ l. up k 74 l same_exec (λ l. same_choose (omega (arith, r.1)))))))))))))

-- from x of the part on stand the steps from a + x of the book on
pub record Parted (s w : List ℕ) (a x : ℕ) : Type 0 where
  pub whole : Whole w x
  pub offsets : map (λ i. a + i) (steps_from w x) ≡ steps_from s (a + x)
  pub steps : map (step_at w) (steps_from w x) ≡ map (step_at s) (steps_from s (a + x))

module _ (s : List ℕ) (a e : ℕ) (h : e ≤ length s) where
  abbrev w : List ℕ
  w = take (e - a) (drop a s)

  w_length : a ≤ e → length w ≡ e - a
  w_length l = simp (length-take, length-drop) (omega arith)

  w_byte : (i : ℕ) → a + i < e → byte_at w i ≡ byte_at s (a + i)
  w_byte i l = get_or-take (e - a) (drop a s) i 0 (omega arith) ∙ get_or-drop a s i 0

  w_uncut : (x : ℕ) → a ≤ e → 0 < span (byte_at w x) → a + next w x ≤ e → cut w x ≡ false
  w_uncut x l p q = uncut span w x (λ z. omega arith) (omega (arith, w_length l))

  ended : (x : ℕ) → a + x ≡ e → steps_from s (a + x) ≡ [] → Parted s w a x
  unfolding sweep
  ended x q z =
      let l : length w ≤ x = omega (arith, w_length (omega arith)) in
      let n = steps_end_lem w x l in
      record { whole = simp (records_end w x l); offsets = ap (map (λ i. a + i)) n ∙ sym z; steps = ap (map (step_at w)) n ∙ ap (map (step_at s)) (sym z) }

  parts : (os : List ℕ) (x : ℕ) → steps_from s (a + x) ≡ os → Whole s (a + x) → a + x ≤ length s → steps_end s (a + x) ≡ e → Parted s w a x
  unfolding sweep
  parts [] x q v l n = ended x (sym (end_none s (a + x) q) ∙ n) q
  parts (p ∷ ps) x q v l n = go (ltb (a + x) (length s)) refl (eqb (group (byte_at s (a + x))) 5) refl (parts ps)
    where
      none : steps_from s (a + x) ≡ [] → Parted s w a x
      none z = ended x (sym (end_none s (a + x) z) ∙ n) z

      go : (b : Bool) → ltb (a + x) (length s) ≡ b → (d : Bool) → eqb (group (byte_at s (a + x))) 5 ≡ d
          → ((x : ℕ) → steps_from s (a + x) ≡ ps → Whole s (a + x) → a + x ≤ length s → steps_end s (a + x) ≡ e → Parted s w a x)
          → Parted s w a x
      go false b d c r = none (steps_end_lem s (a + x) (ltb-false _ _ b))
      go true b false c r = none (steps_none s (a + x) v (ltb-true _ _ b) (eqb-false _ _ c))
      go true b true c r =
          let o = a + x in
          let i : o < length s = ltb-true _ _ b in
          let g : group (byte_at s o) ≡ 5 = eqb-true _ _ c in
          let k = walk s o v i in
          let m = steps_more s o v i g in
          let t : steps_end s (next s o) ≡ e = sym (end_more s o v i g) ∙ n in
          let u = past_steps s (next s o) k.rest k.inside in
          let y : next s o ≤ e = omega (arith, u.bytes, t) in
          let z : byte_at w x ≡ byte_at s o = w_byte x (omega (arith, k.spanned)) in
          let f : (j : ℕ) → j < span (byte_at s o) → byte_at w (x + j) ≡ byte_at s (o + j)
          = λ j q. w_byte (x + j) (omega arith) ∙ ap (byte_at s) (omega arith) in
          let j : span (byte_at w x) ≡ span (byte_at s o) = ap span z in
          let fits : a + next w x ≡ next s o = omega arith in
          let un = w_uncut x (omega arith) (omega (arith, k.spanned)) (omega arith) in
          let lw = w_length (omega arith) in
          let list = records_more w x (omega (arith, k.spanned)) un in
          let d : steps_from s (next s o) ≡ ps = cc in
          let rest = r (next w x) (ap (steps_from s) fits ∙ d) (rw fits k.rest) (rw fits k.inside) (ap (steps_end s) fits ∙ t) in
          let wh : Whole w x = simp (list, sweep, un) rest.whole in
          let gw : group (byte_at w x) ≡ 5 = ap group z ∙ g in
          let mw : steps_from w x ≡ x ∷ steps_from w (next w x) = steps_more w x wh (omega (arith, k.spanned)) gw in
          let same : step_at w x ≡ step_at s o = step_same w s x o z f g in
          record {
            whole = wh;
            offsets = ap (map (λ i. a + i)) mw ∙ ap (λ (l : List ℕ). o ∷ l) (rest.offsets ∙ ap (steps_from s) fits) ∙ sym m;
            steps = ap (map (step_at w)) mw ∙ cc;
          }

pub parted : (s : List ℕ) (a : ℕ) → Whole s a → a ≤ length s → Parted s (take (steps_end s a - a) (drop a s)) a 0
parted s a v h =
    let z : a + 0 ≡ a = omega arith in
    let p = past_steps s a v h in
    parts s a (steps_end s a) p.inside (steps_from s (a + 0)) 0 refl (rw z v) (rw z h) (ap (steps_end s) z)
