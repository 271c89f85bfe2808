-- Where no place is weakened, the rules with marks are the rules: what the verdict accepts, they accept.
--     alike_by_lem, fits_by_lem, declared_by_lem     shapes, a declared cell
--     step_by, walk_by_lem                   a step, a block
--     accepted_by_lem                        a book
-- Assumes nothing.
use Prim.Native.Nat.{ℕ, zero, suc}
use mathlib.Core.Path.{◌≡◌, refl, ap, ◌∙◌}
use mathlib.Core.Bool.{Bool, true, false, not}
use mathlib.Core.List.{List, [], ◌∷◌}
use lib.ListN.{get_or}
use Rattle.labels.specs.declared.Label.{Label}
use Rattle.labels.specs.Labels.{is_met}
use Rattle.book.specs.declared.Shape.{Shape}
use Rattle.book.specs.declared.Declared.{Declared}
use Rattle.book.specs.declared.Step.{Step}
use Rattle.book.specs.declared.Step.TheVariants.{Put, Name, Code, Add, New, Read, Write, Relabel, Lower, Start, Exec, Choose}
use Rattle.book.specs.Control.{when◌then◌else◌, both, either}
use Rattle.book.specs.Book.{Block, parse}
use Rattle.book.proofs.Every.{All}
use Rattle.typing.specs.declared.Known.{Known}
use Rattle.typing.specs.declared.Known.TheVariants as N
use Rattle.typing.specs.declared.State.{State}
use Rattle.typing.specs.Verdict.{Accepted}
use Rattle.typing.specs.Shapes.{View, view_of, content_of, counted_trust, is_high_trust, alike_in, alike, fits, known_value, declared_ok}
use Rattle.typing.specs.Rules.{Typed, passes, stuck, breaks, fresh, holds, low_rule, high_rule, step_rule}
use Rattle.typing.specs.Rules as R
use Rattle.typing.specs.Verdict.{verdict}
use Rattle.machine.specs.Events.{no_block}
use Rattle.integrity.specs.Weakened.{alike_by, fits_by, declared_by, step_rule_by, walk_by, every, accepted_by, SameRules}
use Rattle.integrity.proofs.Booleans.{both_true}
use Rattle.integrity.proofs.Invariant.{passes_all}
use Rattle.integrity.proofs.Bridge.{accepted}

module _ (c : Label) (shape : ℕ → Shape) where
  pub alike_by_lem : (n i j : ℕ) → alike_by "" c shape n i j ≡ alike_in c shape n i j
  unfolding alike_by alike_in
  alike_by_lem zero i j = refl
  alike_by_lem (suc n) i j = rw (alike_by_lem n (content_of c shape i) (content_of c shape j)) refl

  pub fits_by_lem : (k : Known) (i : ℕ) → fits_by "" c shape k i ≡ fits c shape k i
  unfolding fits_by fits alike
  fits_by_lem N.Unknown i = refl
  fits_by_lem N.Plain i = refl
  fits_by_lem (N.Code b) i = refl
  fits_by_lem (N.CellOf j) i = alike_by_lem (suc j) j i

pub declared_by_lem : (B : View) (d : Declared) → declared_by "" B d ≡ declared_ok B d
unfolding declared_by declared_ok
declared_by_lem B d = rw (fits_by_lem B.c B.shape (known_value B.cell B.bound d.value) (content_of B.c B.shape d.shape)) refl

pub step_by : (B : View) (t : State) (p : Step) → step_rule_by "" B t p ≡ step_rule B t p
unfolding step_rule_by step_rule low_rule high_rule holds R.lower_rule
step_by B t (Put r n) = refl
step_by B t (Name r k) = refl
step_by B t (Code r b) = refl
step_by B t (Add r a b) = refl
step_by B t (New r i a) = rw (fits_by_lem B.c B.shape (R.known B.c t a) (content_of B.c B.shape i)) refl
step_by B t (Read r w) = refl
step_by B t (Write w a) =
    λ z. when R.is_low B.c t.p then passes t
    else R.on_known_cell (R.known B.c t w)
    (λ i. R.stuck_unless (is_met (counted_trust B.c B.shape i) t.p)
    (R.breaks_unless
    (either (not (is_high_trust B.c B.shape i))
    (both (fits_by_lem B.c B.shape (R.known B.c t a) (content_of B.c B.shape i) z) (is_met (counted_trust B.c B.shape i) (R.used t a))))
    (passes t)))
step_by B t (Relabel w o) = refl
step_by B t (Lower q) = go (R.is_low B.c t.p)
  where
    go : (b : Bool) → R.lower_rule B.c t q ≡ (when b then R.lower_rule B.c t q else R.lower_rule B.c t q)
    go true = refl
    go false = refl
step_by B t (Start b) = refl
step_by B t (Exec w) = refl
step_by B t (Choose r a b) = refl

pub walk_by_lem : (B : View) (ps : List Step) (x : Typed) → walk_by "" B ps x ≡ passes_all B ps x
unfolding walk_by
walk_by_lem B [] breaks = refl
walk_by_lem B [] stuck = refl
walk_by_lem B [] (passes t) = refl
walk_by_lem B (p ∷ ps) breaks = refl
walk_by_lem B (p ∷ ps) stuck = refl
walk_by_lem B (p ∷ ps) (passes t) = walk_by_lem B ps (step_rule_by "" B t p) ∙ ap (passes_all B ps) (step_by B t p)

all_every : {A : Type 0} (f : A → Bool) (l : List A) → All (λ a. f a ≡ true) l → every f l ≡ true
unfolding every
all_every f [] h = refl
all_every f (x ∷ xs) h = both_true _ _ h.0 (all_every f xs h.1)

every_same : {A : Type 0} (f g : A → Bool) → ((a : A) → f a ≡ g a) → (l : List A) → every f l ≡ every g l
every_same f g h l = ap (λ k. every k l) (λ z a. h a z)

get_every : {A : Type 0} (f : A → Bool) (l : List A) (d : A) → ((i : ℕ) → f (get_or l i d) ≡ true) → every f l ≡ true
unfolding every
get_every f [] d h = refl
get_every f (x ∷ xs) d h = both_true _ _ (h 0) (get_every f xs d (λ i. h (suc i)))

pub accepted_by_lem : (bytes : List ℕ) (shapes cells blocks steps : ℕ) → verdict bytes ≡ Accepted shapes cells blocks steps
    → accepted_by "" (parse bytes) ≡ true
unfolding accepted_by
accepted_by_lem bytes shapes cells blocks steps e =
    let a = accepted shapes cells blocks steps bytes e in
    let B = view_of (parse bytes) in
    both_true _ _
    (every_same (declared_by "" B) (declared_ok B) (declared_by_lem B) (parse bytes).cells ∙ all_every (declared_ok B) (parse bytes).cells a.cells)
    (get_every (λ (b : Block). walk_by "" B b.steps (passes (fresh b.bound))) (parse bytes).blocks no_block
    (λ i. walk_by_lem B _ _ ∙ a.blocks i))

pub same_rules : SameRules
same_rules = record { step_alike = step_by; book_accepted = accepted_by_lem }
