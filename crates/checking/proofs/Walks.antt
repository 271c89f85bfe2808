-- Laws of the walk of a stretch, as the loop goes through it. z is what the whole walk gives.
-- Assumes nothing.
use mathlib.Core.Path.{◌≡◌, sym, ap, ◌∙◌}
use mathlib.Core.Bool.{true}
use mathlib.Core.List.{List}
use Prim.Native.Nat.{ℕ, ◌+◌, ◌-◌, ◌≤◌, ◌<◌}
use native.Mathlib.Omega.{arith}
use lib.ListN.{length, length-set, set}
use lib.Seq.{set_out}
use Rattle.labels.specs.declared.Label.{Label}
use Rattle.book.specs.Missing.{Fault}
use Rattle.std.specs.Prelude.{None, Some}
use Rattle.book.specs.declared.Step.{Step}
use Rattle.book.specs.Missing.{StepAt}
use Rattle.book.specs.Book.{step_at, steps_from}
use Rattle.book.specs.Stretch.{step_found}
use Rattle.book.specs.Asked.{Whole}
use Rattle.book.proofs.Records.{walk}
use Rattle.book.proofs.Steps.{steps_end_lem, steps_none, steps_more}
use Rattle.book.proofs.Standing.{Stood, there, no}
use Rattle.typing.specs.declared.State.{State}
use Rattle.typing.specs.declared.Register.{Register}
use Rattle.typing.specs.declared.Stepped.{Stepped}
use Rattle.typing.specs.declared.Stepped.TheVariants.{Passes, Gives, Lowers, Stuck, Breaks}
use Rattle.typing.specs.Shapes.{View}
use Rattle.typing.specs.Rules.{Typed, passes, stuck, breaks, fresh, step_rule, fault}
use Rattle.typing.specs.Asked.{told}
use Rattle.checking.specs.Asked.{shifted, stretch_fault}

pub walk_start : (B : View) (w : List ℕ) (a : ℕ) (b : Label) (s : State) (z : Fault)
    → s ≡ fresh b → z ≡ shifted a (fault B (step_at w) s (steps_from w 0)) → z ≡ stretch_fault B w a b
unfolding stretch_fault
walk_start B w a b s z e f = f ∙ simp e

-- there are eight registers
pub eight_fresh : (s : State) (b : Label) → s ≡ fresh b → length s.registers ≡ 8
unfolding fresh
eight_fresh s b e = ap (λ (s : State). length s.registers) e

pub eight_set : (l : List Register) (r : ℕ) (g : Register) → length l ≡ 8 → length (set l r g) ≡ 8
eight_set l r g e = length-set l r g ∙ e

module _ (B : View) (w : List ℕ) (s : State) (o : ℕ) (z : Fault) (inv : fault B (step_at w) s (steps_from w o) ≡ z) where
  -- f is what the walk says here
  out : (a : ℕ) (f : Fault) → f ≡ z → shifted a f ≡ shifted a z
  out a f e = ap (shifted a) e

  pub walk_end : (a : ℕ) → length w ≤ o → None ≡ shifted a z
  unfolding fault shifted
  walk_end a h = out a None (simp (steps_end_lem w o h) at inv)

  module _ (whole : Whole w o) (h : o < length w) (x : StepAt) (ex : x ≡ step_found w o) where
    pub walk_none : (a : ℕ) → x ≡ None → None ≡ shifted a z
    unfolding fault shifted
    walk_none a e = out a None (simp (steps_none w o whole h (no w o whole h x ex e)) at inv)

    module _ (p : Step) (n : ℕ) (e : x ≡ Some (p, n)) where
      stood : Stood w o p n
      stood = there w o whole h x ex p n e

      pub walk_whole : Whole w n
      walk_whole = rw stood.on (walk w o whole h).rest

      pub walk_inside : n ≤ length w
      walk_inside = rw stood.on (walk w o whole h).inside

      pub walk_falls : length w - n < length w - o
      walk_falls = let k = walk w o whole h in omega (arith, k.spanned, k.inside, stood.on)

      module _ (y : Stepped) (ey : told s y ≡ step_rule B s p) where
        here : (t : Typed) → told s y ≡ t → step_rule B s (step_at w o) ≡ t
        here t q = ap (step_rule B s) (sym stood.is) ∙ sym ey ∙ q

        passed : (u : State) → told s y ≡ passes u → fault B (step_at w) u (steps_from w n) ≡ z
        unfolding fault
        passed u q = rw stood.on (simp (steps_more w o whole h stood.kind, fault, here (passes u) q) at inv)

        pub walk_on : y ≡ Passes → fault B (step_at w) s (steps_from w n) ≡ z
        walk_on q = passed s (ap (told s) q)

        pub walk_gives : (r : ℕ) (g : Register) → y ≡ Gives r g
            → fault B (step_at w) (record { p = s.p; lowered = s.lowered; registers = set s.registers r g }) (steps_from w n) ≡ z
        walk_gives r g q = passed _ (ap (told s) q)

        -- past the registers nothing is given
        pub walk_gives_none : (r : ℕ) (g : Register) → y ≡ Gives r g → length s.registers ≡ 8 → 8 ≤ r → fault B (step_at w) s (steps_from w n) ≡ z
        walk_gives_none r g q l m =
            let e : set s.registers r g ≡ s.registers = set_out s.registers r g (omega arith) in
            passed s (ap (told s) q ∙ ap (λ l. passes (record { p = s.p; lowered = s.lowered; registers = l })) e)

        pub walk_lowers : (q : Label) → y ≡ Lowers q
            → fault B (step_at w) (record { p = q; lowered = true; registers = s.registers }) (steps_from w n) ≡ z
        walk_lowers q e = passed _ (ap (told s) e)

        pub walk_stuck : (a : ℕ) → y ≡ Stuck → None ≡ shifted a z
        unfolding fault shifted
        walk_stuck a q = out a None (simp (steps_more w o whole h stood.kind, fault, here stuck (ap (told s) q)) at inv)

        pub walk_breaks : (a : ℕ) → y ≡ Breaks → Some (a + o) ≡ shifted a z
        unfolding fault shifted
        walk_breaks a q = out a (Some o) (simp (steps_more w o whole h stood.kind, fault, here breaks (ap (told s) q)) at inv)

pub ruleset walks =
    (eight_fresh, eight_set, walk_start, walk_end, walk_none, walk_whole, walk_inside, walk_falls, walk_on, walk_gives, walk_gives_none, walk_lowers, walk_stuck, walk_breaks)
