-- The typing rules once more, with a mark at each place that the theorem needs. A mark has the place's name, from the words of 01, and what
-- stands there where this one place is weakened. Where none is, these are the rules: proofs/ByRules.antt.
--     instead, asked, raised     the marks
--     accepted_by                 acceptance by the rules, weakened at a place
--     SameRules                  with no place weakened they are the rules
--     Needed                     a book and events that break a sentence: the theorem would be false of the weakened rules
-- Nothing else is built on these definitions. Assumes nothing.
use Rattle.std.specs.Prelude.{ℕ, zero, suc, ◌-◌, ◌≡◌, Bool, true, false, not, List, [], ◌∷◌, leb, eqb}
use Prim.Native.String.{String}
use Rattle.std.proofs.Math.Option.{Option}
use lib.Text.{eqt}
use Rattle.labels.specs.declared.Label.{Label}
use Rattle.labels.specs.Labels.{label, lower, reaches, is_above, is_met, covers, capped}
use Rattle.book.specs.declared.Shape.{Shape}
use Rattle.book.specs.declared.Declared.{Declared}
use Rattle.book.specs.declared.Step.{Step}
use Rattle.book.specs.declared.Step.TheVariants.{Put, Name, Code, Add, New, Read, Write, Relabel, Lower, Start, Exec, Choose}
use Rattle.book.specs.Outcome.{Passed}
use Rattle.book.specs.Control.{when◌then◌else◌, both, either}
use Rattle.book.specs.Book.{Book, Block, parse}
use Rattle.book.specs.Refusals.{unreadable}
use Rattle.typing.specs.declared.Known.{Known}
use Rattle.typing.specs.declared.Known.TheVariants as N
use Rattle.typing.specs.declared.State.{State}
use Rattle.typing.specs.Verdict.{Accepted, Refused}
use Rattle.typing.specs.Shapes.{View, view_of, is_plain_shape, is_code_shape, is_cell_shape, bound_of, content_of, counted_trust, is_high_trust, known_of, known_value}
use Rattle.typing.specs.Rules.{Typed, passes, stuck, breaks, breaks_unless, stuck_unless, on_known_cell, on_known_code, register_type, gives, gives_low, fresh, used, is_low}
use Rattle.typing.specs.Rules.{known, lowers_to, plain_or_low, startable, low_rule, high_rule, step_rule}
use Rattle.typing.specs.Verdict.{verdict}
use Rattle.machine.specs.declared.Event.{Event}
use Rattle.machine.specs.Histories.{lists}
use Rattle.machine.specs.Events.{table_size, first_bound, fresh_state, state_after}
use Rattle.integrity.specs.Integrity.{Sentences}

-- the place that is weakened, by its name; "" weakens none
module _ (weakened : String) where
  -- y; where this place is weakened, x in its stead
  abbrev pub instead : {A : Type 0} → String → A → A → A
  instead place x y = when eqt weakened place then x else y

  -- the test; where this place is weakened, nothing is asked
  abbrev pub asked : String → Bool → Bool
  asked place test = instead place true test

  -- C; where this place is weakened, C + 1
  abbrev pub raised : String → Label → Label
  raised place c = instead place (label (suc c.0)) c

  module _ (c : Label) (shape : ℕ → Shape) where
    -- "trust above C"; where this place is weakened, above C + 1
    abbrev pub high : String → ℕ → Bool
    high place i = is_high_trust (raised place c) shape i

    -- "a trust .. at or below C counts as 0"; where this place is weakened, at or below C + 1
    abbrev pub trust_by : String → ℕ → ℕ
    trust_by place i = (counted_trust (raised place c) shape i).0

    -- "Two shapes are alike when both are plain, both code with one bound, or both cells with equal trust and alike contents."
    -- Where "one bound" is weakened, a larger or a smaller one will do; and so with "equal trust".
    unfoldable pub alike_by : ℕ → ℕ → ℕ → Bool
    alike_by zero i j = true
    alike_by (suc n) i j =
        let b = (bound_of c shape i).0 in
        let d = (bound_of c shape j).0 in
        let s = trust_by "alike: trust above C" i in
        let u = trust_by "alike: trust above C" j in
        either (both (asked "alike: the first is plain" (is_plain_shape c shape i)) (asked "alike: the second is plain" (is_plain_shape c shape j)))
        (either
        (both (asked "alike: the first is code" (is_code_shape c shape i))
        (both (asked "alike: the second is code" (is_code_shape c shape j))
        (instead "alike: the first bound is no larger" (leb d b) (instead "alike: the first bound is no smaller" (leb b d) (eqb b d)))))
        (both (asked "alike: the first is a cell" (is_cell_shape c shape i))
        (both (asked "alike: the second is a cell" (is_cell_shape c shape j))
        (both (instead "alike: the first trust is no higher" (leb u s) (instead "alike: the first trust is no lower" (leb s u) (eqb s u)))
        (asked "alike: alike contents" (alike_by n (content_of c shape i) (content_of c shape j)))))))

    -- "A code register of bound B fits a code content of bound at most B; others fit when alike." Where "contents of contents" is weakened, these
    -- are not looked at.
    unfoldable pub fits_by : Known → ℕ → Bool
    fits_by N.Unknown i = false
    fits_by N.Plain i = is_plain_shape c shape i
    fits_by (N.Code b) i = both (is_code_shape c shape i) (asked "fits: bound at most B" (reaches b (bound_of c shape i)))
    fits_by (N.CellOf j) i = asked "fits: others when alike" (alike_by (instead "alike: contents of contents" 2 (suc j)) j i)

    -- w's shape, "a cell with used effect above C"; where this place is weakened, whatever its effect is
    abbrev pub cell_by : String → State → ℕ → Known
    cell_by place t w = instead place (register_type t w).known (known c t w)

    -- "With P at or below C every step passes, except new with trust above C"
    abbrev pub low_new_by : State → ℕ → ℕ → Typed
    low_new_by t r i = breaks_unless (asked "new at low P" (not (high "new at low P: trust above C" i))) (gives_low t r)

    -- "new: low trust passes; otherwise an earlier lower must stand in the block, the content fits, and trust is at most its used effect",
    -- which is the smaller of its effect and P
    abbrev pub new_rule_by : State → ℕ → ℕ → ℕ → Typed
    new_rule_by t r i a =
        breaks_unless
        (both (is_cell_shape c shape i)
        (either (not (high "new: trust above C" i))
        (both (asked "new: an earlier lower" t.lowered)
        (both (asked "new: the content fits" (fits_by (known c t a) (content_of c shape i)))
        (is_met (counted_trust c shape i)
        (instead "new: trust is at most P" (register_type t a).effect (instead "new: trust is at most its effect" t.p (used t a))))))))
        (gives t r (N.CellOf i) t.p)

    -- "read: w of low effect gives low; else w is a cell, and the result has its content shape and the smaller of S and P."
    abbrev pub read_rule_by : State → ℕ → ℕ → Typed
    read_rule_by t r w =
        when instead "read: w of low effect" false (is_low c (register_type t w).effect) then gives_low t r
        else on_known_cell (cell_by "read: w of low effect" t w)
        (λ i. gives t r (known_of c shape (content_of c shape i)) (instead "read: the smaller of S and P" t.p (capped (counted_trust c shape i) t.p)))

    -- "write: stuck if P is below S; low S passes; else a fits and S is at most its used effect." Where "P is below S" is weakened, it is stuck
    -- at P = S too.
    abbrev pub write_rule_by : State → ℕ → ℕ → Typed
    write_rule_by t w a =
        on_known_cell (cell_by "write: w of used effect above C" t w)
        (λ i. stuck_unless (instead "write: P is below S" (not (covers (counted_trust c shape i) t.p)) (is_met (counted_trust c shape i) t.p))
        (breaks_unless
        (either (not (high "write: S above C" i))
        (both (asked "write: a fits" (fits_by (known c t a) (content_of c shape i)))
        (asked "write: S is at most its used effect" (is_met (counted_trust c shape i) (used t a)))))
        (passes t)))

    -- "relabel to O: stuck if P is below S or O; else S is at most O." Where "P is below" is weakened, it is stuck at the same label too.
    abbrev pub relabel_rule_by : State → ℕ → Label → Typed
    relabel_rule_by t w o =
        on_known_cell (cell_by "relabel: w of used effect above C" t w)
        (λ i. stuck_unless
        (both (instead "relabel: P is below S" (not (covers (counted_trust c shape i) t.p)) (is_met (counted_trust c shape i) t.p))
        (instead "relabel: P is below O" (is_above t.p o) (reaches t.p o)))
        (breaks_unless (asked "relabel: S is at most O" (is_met (counted_trust (raised "relabel: S above C" c) shape i) o)) (passes t)))

    -- "exec: the content is code with bound at least P, and S at least P."
    abbrev pub exec_rule_by : State → ℕ → Typed
    exec_rule_by t w =
        on_known_cell (cell_by "exec: w of used effect above C" t w)
        (λ i. on_known_code (known_of c shape (content_of c shape i))
        (λ k. breaks_unless
        (both (asked "exec: bound at least P" (reaches k t.p)) (asked "exec: S at least P" (covers (counted_trust c shape i) t.p)))
        (passes t)))

    -- "add: operands of effect above C must be plain; least effect."
    abbrev pub add_rule_by : State → ℕ → ℕ → ℕ → Typed
    add_rule_by t r a b =
        breaks_unless (both (plain_or_low c t a) (plain_or_low c t b))
        (gives t r N.Plain
        (instead "add: the first's effect" (used t b) (instead "add: the second's effect" (used t a) (lower (used t a) (used t b)))))

    -- "lower Q, at every P: stuck if Q is above both P and C; else P is Q." Where "above P" or "above C" is weakened, it is stuck at the same label
    -- too; where "and C" is, if Q is above P.
    abbrev pub lower_rule_by : State → Label → Typed
    lower_rule_by t q =
        stuck_unless
        (either (instead "lower: Q is above P" (is_above t.p q) (reaches t.p q))
        (instead "lower: Q is above C" (is_above c q) (instead "lower: both P and C" false (is_low c q))))
        (lowers_to t (instead "lower: P is Q" t.p q))

  -- "start: the block's bound is at least P."
  abbrev pub start_rule_by : State → Option Label → Typed
  start_rule_by t bound = breaks_unless (asked "start: bound at least P" (startable t.p bound)) (passes t)

  -- 02, Four: "With P above C, both bounds must be at least P, and r must be plain unless its effect is low."
  abbrev pub choose_rule_by : Label → State → ℕ → Option Label → Option Label → Typed
  choose_rule_by c t r first second =
      breaks_unless
      (both (both (asked "choose: the first bound at least P" (startable t.p first)) (asked "choose: the second bound at least P" (startable t.p second)))
      (plain_or_low c t r))
      (passes t)

  module _ (B : View) where
    -- "A declared cell of trust above C needs label at least trust and a fitting value. Others need nothing."
    unfoldable pub declared_by : Declared → Bool
    declared_by d =
        when high B.c B.shape "declared: trust above C" d.shape
        then both (asked "declared: label at least trust" (is_met (counted_trust B.c B.shape d.shape) d.label))
        (asked "declared: a fitting value"
        (fits_by B.c B.shape (known_value B.cell B.bound d.value) (content_of B.c B.shape d.shape)))
        else true

    -- x at "P at or below C", else y
    abbrev pub at_low : State → Typed → Typed → Typed
    at_low t x y = when is_low (raised "P at or below C" B.c) t.p then x else y

    -- a step: at low P as it is, else by x
    abbrev pub marked : State → Step → Typed → Typed
    marked t p x = at_low t (low_rule B.c B.shape t p) x

    unfoldable pub step_rule_by : State → Step → Typed
    step_rule_by t (Put r n) = marked t (Put r n) (high_rule B t (Put r n))
    step_rule_by t (Name r k) = marked t (Name r k) (high_rule B t (Name r k))
    step_rule_by t (Code r b) = marked t (Code r b) (high_rule B t (Code r b))
    step_rule_by t (Add r a b) = marked t (Add r a b) (add_rule_by B.c B.shape t r a b)
    step_rule_by t (New r i a) = at_low t (low_new_by B.c B.shape t r i) (new_rule_by B.c B.shape t r i a)
    step_rule_by t (Read r w) = marked t (Read r w) (read_rule_by B.c B.shape t r w)
    step_rule_by t (Write w a) = marked t (Write w a) (write_rule_by B.c B.shape t w a)
    step_rule_by t (Relabel w o) = marked t (Relabel w o) (relabel_rule_by B.c B.shape t w o)
    step_rule_by t (Lower q) = lower_rule_by B.c B.shape t q
    step_rule_by t (Start b) = marked t (Start b) (start_rule_by t (B.bound b))
    step_rule_by t (Exec w) = marked t (Exec w) (exec_rule_by B.c B.shape t w)
    step_rule_by t (Choose r a b) = marked t (Choose r a b) (choose_rule_by B.c t r (B.bound a) (B.bound b))

    -- "P begins as the bound."; where this place is weakened, one below it
    abbrev pub fresh_by : Label → State
    fresh_by b = fresh (instead "P begins as the bound" (label (b.0 - 1)) b)

    -- "After a stuck step the rest of the block passes."
    unfoldable pub walk_by : List Step → Typed → Bool
    walk_by [] breaks = false
    walk_by [] stuck = true
    walk_by [] (passes t) = true
    walk_by (p ∷ ps) breaks = false
    walk_by (p ∷ ps) stuck = true
    walk_by (p ∷ ps) (passes t) = walk_by ps (step_rule_by t p)

unfoldable pub every : {A : Type 0} → (A → Bool) → List A → Bool
every f [] = true
every f (x ∷ xs) = both (f x) (every f xs)

-- every declared cell and every block passes, by the rules weakened at this place
unfoldable pub accepted_by : String → Book → Bool
accepted_by weakened K =
    let B = view_of K in
    both (every (declared_by weakened B) K.cells)
    (every (λ (b : Block). walk_by weakened B b.steps (passes (fresh_by weakened B b.bound))) K.blocks)

-- The rules with no place weakened are the rules: a step is typed alike, and what the verdict accepts, they accept. proofs/ByRules.antt proves it.
pub record SameRules : Type 0 where
  pub step_alike : (B : View) (t : State) (p : Step) → step_rule_by "" B t p ≡ step_rule B t p
  pub book_accepted : (bytes : List ℕ) (shapes cells blocks steps : ℕ) → verdict bytes ≡ Accepted shapes cells blocks steps
      → accepted_by "" (parse bytes) ≡ true

-- A readable book that the rules accept where this place is weakened and refuse where none is, as the verdict does; and events after which a
-- sentence is broken.
pub record Needed (place : String) : Type 0 where
  pub bytes : List ℕ
  pub events : List Event
  pub number : ℕ
  pub offset : ℕ
  pub readable : unreadable bytes ≡ Passed
  pub accepted : accepted_by place (parse bytes) ≡ true
  pub strict : accepted_by "" (parse bytes) ≡ false
  pub refused : verdict bytes ≡ Refused number offset
  pub broken :
      Sentences (parse bytes)
      (state_after lists table_size (parse bytes) (fresh_state lists (parse bytes) (first_bound (parse bytes))) events) → ⊥
