-- What holds of each kind of a group in the table holds of every number that is of the group.
--     EachOf, by_kind      a case for each kind of a group
-- Assumes nothing.
use mathlib.Core.Path.{◌≡◌, refl}
use mathlib.Core.Bool.{Bool, true, false}
use mathlib.Core.List.{List, [], ◌∷◌}
use Prim.Native.Nat.{ℕ, ◌<◌}
use native.Mathlib.Omega.{arith}
use lib.Dec.{eqb}
use borrow.Author.Tests.{eq-eqb, eqb-true}
use Rattle.book.specs.Kinds.{Layout, layouts, layout_in, group}

module _ (P : ℕ → Type 0) (g : ℕ) where
  -- P of each kind of group g
  abbrev pub EachOf : List Layout → Type 0
  EachOf [] = Unit {0}
  EachOf (l ∷ ls) = elim (eqb l.group g) [ true ↦ P l.kind × EachOf ls | false ↦ EachOf ls ]

  here : (l : Layout) (ls : List Layout) → l.group ≡ g → EachOf (l ∷ ls) → P l.kind
  here l ls e h = (rw (eq-eqb l.group g e, EachOf) at h).0

  there : (b : Bool) (l : Layout) (ls : List Layout) → eqb l.group g ≡ b → EachOf (l ∷ ls) → EachOf ls
  there true l ls e h = (rw (e, EachOf) at h).1
  there false l ls e h = rw (e, EachOf) at h

  find : 0 < g → (ls : List Layout) (k : ℕ) → EachOf ls → (layout_in ls k).group ≡ g → P k
  find some [] k h e = absurd (omega arith)
  find some (l ∷ ls) k h e = go (eqb l.kind k) refl (find some ls k (there (eqb l.group g) l ls refl h))
    where
      go : (b : Bool) → eqb l.kind k ≡ b → ((layout_in ls k).group ≡ g → P k) → P k
      go true q r = let z : l.kind ≡ k = eqb-true _ _ q in rw z at (here l ls (rw (q, layout_in) at e) h)
      go false q r = r (rw (q, layout_in) at e)

  pub by_kind : 0 < g → EachOf layouts → (k : ℕ) → group k ≡ g → P k
  unfolding group
  by_kind some h k e = find some layouts k h e
