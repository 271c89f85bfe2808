-- A rule of typing and a step of the machine, walked side by side.
--     StepOk                        what the rule says of a step holds of what the machine does
--     need_ok, .., plain_ok         the cases of the rule, then those of the machine; each hands on what its test told
-- Assumes nothing.
use mathlib.Core.Path.{◌≡◌, refl}
use mathlib.Core.Bool.{Bool, true, false}
use mathlib.Core.Option.{Option, some}
use Prim.Native.Nat.{ℕ, suc}
use Rattle.labels.specs.declared.Label.{Label}
use Rattle.book.specs.declared.Value.{Value}
use Rattle.book.specs.declared.Value.TheVariants.{Plain, CellName, CodeName}
use Rattle.book.specs.Book.{Book}
use Rattle.book.specs.Control.{when◌then◌else◌, on_some}
use Rattle.typing.specs.declared.Known.{Known}
use Rattle.typing.specs.declared.Known.TheVariants as N
use Rattle.typing.specs.declared.State as T
use Rattle.typing.specs.Rules.{Typed, passes, stuck, breaks, breaks_unless, stuck_unless}
use Rattle.typing.specs.Rules as R
use Rattle.machine.specs.States.{Job}
use Rattle.machine.specs.Acts.{Effect, blocked}
use Rattle.machine.specs.Control.{given, on_plain, on_cell, on_code}
use Rattle.machine.specs.Steps.{Turn}
use Rattle.machine.proofs.Cases.{given_both, some_both, plain_both, cell_both, code_both}
use Rattle.integrity.proofs.Invariant.{Cells, Match}
use Rattle.integrity.proofs.Effects.{After, EffectOk, blocked_ok}

module _ (K : Book) where
  pub record DoneOk (cs : Cells) (j : Job Label) (t : T.State) (i : Job Label) (e : Effect Label) : Type 0 where
    pub same : i.block ≡ j.block
    pub moved : i.position ≡ suc j.position
    pub matches : Match K (After K cs e) t i
    pub effect : EffectOk K cs e

  pub data StepOk (cs : Cells) (j : Job Label) : Typed → Turn Label → Type 0 where
    broken : {o : Turn Label} → StepOk cs j breaks o
    waits : {t : Typed} {i : Job Label} → StepOk cs j t (record { job = i; effect = blocked })
    fine : {t : T.State} {i : Job Label} {e : Effect Label} → DoneOk cs j t i e → StepOk cs j (passes t) (record { job = i; effect = e })

  module _ {cs : Cells} {j : Job Label} where
    pub never_stuck : {o : Turn Label} → ⊥ → StepOk cs j stuck o
    never_stuck z = absurd z

    -- the cases of the rule
    module _ {o : Turn Label} where
      pub need_ok : {b : Bool} {t : Typed} → (b ≡ true → StepOk cs j t o) → StepOk cs j (breaks_unless b t) o
      unfolding breaks_unless
      need_ok {b = true} f = f refl
      need_ok {b = false} f = broken

      pub free_ok : {b : Bool} {t : Typed} → (b ≡ true → StepOk cs j t o) → (b ≡ false → StepOk cs j stuck o) → StepOk cs j (stuck_unless b t) o
      unfolding stuck_unless
      free_ok {b = true} f g = f refl
      free_ok {b = false} f g = g refl

      pub either_ok : (b : Bool) {t u : Typed} → (b ≡ true → StepOk cs j t o) → (b ≡ false → StepOk cs j u o) → StepOk cs j (when b then t else u) o
      either_ok true f g = f refl
      either_ok false f g = g refl

      pub some_ok : {A : Type 0} {m : Option A} {f : A → Typed} → ((a : A) → m ≡ some a → StepOk cs j (f a) o) → StepOk cs j (on_some m breaks f) o
      some_ok g = some_both (λ t. StepOk cs j t o) broken g

      pub known_cell_ok : {k : Known} {f : ℕ → Typed} → ((i : ℕ) → k ≡ N.CellOf i → StepOk cs j (f i) o) → StepOk cs j (R.on_known_cell k f) o
      unfolding R.on_known_cell
      known_cell_ok {k = N.Unknown} g = broken
      known_cell_ok {k = N.Plain} g = broken
      known_cell_ok {k = N.Code b} g = broken
      known_cell_ok {k = N.CellOf i} g = g i refl

      pub known_code_ok : {k : Known} {f : Label → Typed} → ((b : Label) → k ≡ N.Code b → StepOk cs j (f b) o) → StepOk cs j (R.on_known_code k f) o
      unfolding R.on_known_code
      known_code_ok {k = N.Unknown} g = broken
      known_code_ok {k = N.Plain} g = broken
      known_code_ok {k = N.Code b} g = g b refl
      known_code_ok {k = N.CellOf i} g = broken

    -- the cases of the machine: where a test fails it is blocked
    module _ {t : Typed} where
      pub given_ok : {b : Bool} {o : Turn Label} → (b ≡ true → StepOk cs j t o) → StepOk cs j t (given b o (record { job = j; effect = blocked }))
      given_ok f = given_both (StepOk cs j t) waits f

      pub entry_ok : {A : Type 0} {m : Option A} {f : A → Turn Label} → ((a : A) → m ≡ some a → StepOk cs j t (f a))
          → StepOk cs j t (on_some m (record { job = j; effect = blocked }) f)
      entry_ok g = some_both (StepOk cs j t) waits g

      pub plain_ok : {v : Value} {f : ℕ → Turn Label} → ((n : ℕ) → v ≡ Plain n → StepOk cs j t (f n))
          → StepOk cs j t (on_plain v (record { job = j; effect = blocked }) f)
      plain_ok g = plain_both (StepOk cs j t) waits g

      pub cell_ok : {v : Value} {f : ℕ → Turn Label} → ((n : ℕ) → v ≡ CellName n → StepOk cs j t (f n))
          → StepOk cs j t (on_cell v (record { job = j; effect = blocked }) f)
      cell_ok g = cell_both (StepOk cs j t) waits g

      -- the same of the effect alone
      pub given_effect : {i : Job Label} {b : Bool} {e : Effect Label} → (b ≡ true → StepOk cs j t (record { job = i; effect = e }))
          → StepOk cs j t (record { job = i; effect = given b e blocked })
      given_effect {i} f = given_both (λ e. StepOk cs j t (record { job = i; effect = e })) waits f

      pub entry_effect : {i : Job Label} {A : Type 0} {m : Option A} {f : A → Effect Label}
          → ((a : A) → m ≡ some a → StepOk cs j t (record { job = i; effect = f a })) → StepOk cs j t (record { job = i; effect = on_some m blocked f })
      entry_effect {i} g = some_both (λ e. StepOk cs j t (record { job = i; effect = e })) waits g

      pub code_effect : {i : Job Label} {v : Value} {f : ℕ → Effect Label}
          → ((n : ℕ) → v ≡ CodeName n → StepOk cs j t (record { job = i; effect = f n })) → StepOk cs j t (record { job = i; effect = on_code v blocked f })
      code_effect {i} g = code_both (λ e. StepOk cs j t (record { job = i; effect = e })) waits g

  -- an outsider's effect
  module _ {cs : Cells} where
    pub given_act : {b : Bool} {e : Effect Label} → (b ≡ true → EffectOk K cs e) → EffectOk K cs (given b e blocked)
    given_act f = given_both (EffectOk K cs) blocked_ok f

    pub entry_act : {A : Type 0} {m : Option A} {f : A → Effect Label} → ((a : A) → m ≡ some a → EffectOk K cs (f a)) → EffectOk K cs (on_some m blocked f)
    entry_act g = some_both (EffectOk K cs) blocked_ok g

    pub code_act : {v : Value} {f : ℕ → Effect Label} → ((n : ℕ) → v ≡ CodeName n → EffectOk K cs (f n)) → EffectOk K cs (on_code v blocked f)
    code_act g = code_both (EffectOk K cs) blocked_ok g
