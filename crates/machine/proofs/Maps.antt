-- A map under the lists and the cases of the machine.
--     map_set, get_elem?_map      tables
--     given_map, .., on_code_map  cases
-- Assumes nothing.
use mathlib.Core.Path.{◌≡◌, refl, ap}
use mathlib.Core.Bool.{Bool, true, false}
use mathlib.Core.Option.{Option, none, some}
use mathlib.Core.List.{List, [], ◌∷◌, map}
use Prim.Native.Nat.{ℕ, zero, suc}
use lib.ListN.{set, get_elem?}
use Rattle.book.specs.declared.Value.{Value}
use Rattle.book.specs.declared.Value.TheVariants.{Plain, CellName, CodeName}
use Rattle.book.specs.Control.{on_some}
use Rattle.machine.specs.Control.{given, on_plain, on_cell, on_code}

module _ {A B : Type 0} (f : A → B) where
  pub map_set : (l : List A) (i : ℕ) (a : A) → map f (set l i a) ≡ set (map f l) i (f a)
  map_set [] i a = refl
  map_set (x ∷ xs) zero a = refl
  map_set (x ∷ xs) (suc i) a = ap {B = List B} (λ r. f x ∷ r) (map_set xs i a)

  abbrev pub option_map : Option A → Option B
  option_map none = none
  option_map (some a) = some (f a)

  pub get_elem?_map : (l : List A) (i : ℕ) → get_elem? (map f l) i ≡ option_map (get_elem? l i)
  get_elem?_map [] i = refl
  get_elem?_map (x ∷ xs) zero = refl
  get_elem?_map (x ∷ xs) (suc i) = get_elem?_map xs i

-- a map of what the cases give
module _ {X Y : Type 0} (g : X → Y) where
  pub given_map : (b : Bool) (x y : X) → g (given b x y) ≡ given b (g x) (g y)
  unfolding given
  given_map true x y = refl
  given_map false x y = refl

  pub on_some_map : {A : Type 0} (o : Option A) (x : X) (k : A → X) → g (on_some o x k) ≡ on_some o (g x) (λ a. g (k a))
  unfolding on_some
  on_some_map none x k = refl
  on_some_map (some a) x k = refl

  pub on_plain_map : (v : Value) (x : X) (k : ℕ → X) → g (on_plain v x k) ≡ on_plain v (g x) (λ n. g (k n))
  unfolding on_plain
  on_plain_map (Plain n) x k = refl
  on_plain_map (CellName n) x k = refl
  on_plain_map (CodeName n) x k = refl

  pub on_cell_map : (v : Value) (x : X) (k : ℕ → X) → g (on_cell v x k) ≡ on_cell v (g x) (λ n. g (k n))
  unfolding on_cell
  on_cell_map (Plain n) x k = refl
  on_cell_map (CellName n) x k = refl
  on_cell_map (CodeName n) x k = refl

  pub on_code_map : (v : Value) (x : X) (k : ℕ → X) → g (on_code v x k) ≡ on_code v (g x) (λ n. g (k n))
  unfolding on_code
  on_code_map (Plain n) x k = refl
  on_code_map (CellName n) x k = refl
  on_code_map (CodeName n) x k = refl

-- a map of the entry
pub on_some_entry : {X A B : Type 0} (f : A → B) (o : Option A) (x : X) (k : B → X) → on_some (option_map f o) x k ≡ on_some o x (λ a. k (f a))
unfolding on_some
on_some_entry f none x k = refl
on_some_entry f (some a) x k = refl
