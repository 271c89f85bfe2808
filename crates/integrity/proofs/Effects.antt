-- An effect that keeps the invariant.
--     store_tree, create_tree, created      the shapes of the cells after a store, after a new cell
--     After, EffectOk, grows                the cells after an effect, an effect that is as it must be
--     landed_ok, landed_outside             it keeps the invariant
-- Assumes nothing.
use mathlib.Core.Path.{◌≡◌, refl, ◌∙◌}
use mathlib.Core.Option.{some}
use mathlib.Core.List.{List, [], ◌∷◌, ◌++◌}
use Prim.Native.Nat.{ℕ, zero, suc}
use lib.ListN.{length, set, get_elem?}
use Rattle.labels.specs.declared.Label.{Label}
use Rattle.book.specs.Book.{Book}
use Rattle.book.proofs.Every.{All, all_set, all_push, all_map}
use Rattle.machine.specs.States.{Cell, Job, State}
use Rattle.machine.specs.Acts.{Effect, blocked, keep, store, create, launch}
use Rattle.machine.specs.Events.{landed}
use Rattle.integrity.proofs.Trees.{Tree}
use Rattle.integrity.proofs.Invariant.{Cells, tree_of, tree_at, CellOk, JobOk, Invariant, Grows, cell_kept, job_kept}

module _ (K : Book) where
  pub store_tree : (cs : Cells) (k : ℕ) (c d : Cell Label) → get_elem? cs k ≡ some c → d.shape ≡ c.shape → (i : ℕ)
      → tree_at K (set cs k d) i ≡ tree_at K cs i
  store_tree [] k c d e q i = refl
  store_tree (x ∷ xs) zero c d e q zero = let z : x ≡ c = cc in cc
  store_tree (x ∷ xs) zero c d e q (suc i) = refl
  store_tree (x ∷ xs) (suc k) c d e q zero = refl
  store_tree (x ∷ xs) (suc k) c d e q (suc i) = store_tree xs k c d e q i

  create_tree : (cs : Cells) (c : Cell Label) (k : ℕ) (t : Tree) → tree_at K cs k ≡ some t → tree_at K (cs ++ (c ∷ [])) k ≡ some t
  create_tree [] c k t e = cc
  create_tree (x ∷ xs) c zero t e = e
  create_tree (x ∷ xs) c (suc k) t e = create_tree xs c k t e

  pub created : (cs : Cells) (c : Cell Label) → tree_at K (cs ++ (c ∷ [])) (length cs) ≡ some (tree_of K c.shape)
  created [] c = refl
  created (x ∷ xs) c = created xs c

  abbrev pub After : Cells → Effect Label → Cells
  After cs blocked = cs
  After cs keep = cs
  After cs (store k c) = set cs k c
  After cs (create c) = cs ++ (c ∷ [])
  After cs (launch j) = cs

  pub data EffectOk (cs : Cells) : Effect Label → Type 0 where
    blocked_ok : EffectOk cs blocked
    keep_ok : EffectOk cs keep
    store_ok : {k : ℕ} {c : Cell Label} → CellOk K cs c → ((i : ℕ) → tree_at K (set cs k c) i ≡ tree_at K cs i) → EffectOk cs (store k c)
    create_ok : {c : Cell Label} → CellOk K cs c → EffectOk cs (create c)
    launch_ok : {j : Job Label} → JobOk K cs j → EffectOk cs (launch j)

  pub grows : (cs : Cells) (e : Effect Label) → EffectOk cs e → Grows K cs (After cs e)
  grows cs blocked h = record { kept = λ k t q. q }
  grows cs keep h = record { kept = λ k t q. q }
  grows cs (store k c) (store_ok h g) = record { kept = λ i t q. g i ∙ q }
  grows cs (create c) h = record { kept = create_tree cs c }
  grows cs (launch j) h = record { kept = λ k t q. q }

  -- js are the jobs with the actor's step done; they are already held to the cells after the effect
  pub landed_ok : (s : State Label) (js : List (Job Label)) (e : Effect Label) → Invariant K s → EffectOk s.cells e
      → All (JobOk K (After s.cells e)) js → Invariant K (landed s (record { cells = s.cells; jobs = js }) e).state
  unfolding landed
  landed_ok s js blocked v h a = v
  landed_ok s js keep v h a = record { declared = v.declared; cells = v.cells; jobs = a }
  landed_ok s js (store k c) v (store_ok h g) a =
      let x = grows s.cells (store k c) (store_ok h g) in
      record {
        declared = λ i d q. x.kept i _ (v.declared i d q);
        cells = all_set (CellOk K (set s.cells k c)) s.cells k c (all_map (cell_kept K x) s.cells v.cells) (cell_kept K x c h);
        jobs = a;
      }
  landed_ok s js (create c) v (create_ok h) a =
      let x = grows s.cells (create c) (create_ok h) in
      record {
        declared = λ i d q. x.kept i _ (v.declared i d q);
        cells = all_push (CellOk K (s.cells ++ (c ∷ []))) s.cells c (all_map (cell_kept K x) s.cells v.cells) (cell_kept K x c h);
        jobs = a;
      }
  landed_ok s js (launch j) v (launch_ok h) a = record { declared = v.declared; cells = v.cells; jobs = all_push (JobOk K s.cells) js j a h }

  -- an outsider's effect
  pub landed_outside : (s : State Label) (e : Effect Label) → Invariant K s → EffectOk s.cells e → Invariant K (landed s s e).state
  landed_outside s e v h = landed_ok s s.jobs e v h (all_map (job_kept K (grows s.cells e h)) s.jobs v.jobs)
