-- What an actor does: 01, "The machine". A job and an outsider share these acts, each at the actor's label and with its history.
--     Effect                          what an act does to the tables
--     acted                           "An act below appends the actor's whole history to the value's."
--     fresh_job                        a job at the start of its block
--     write_act, relabel_act, new_act    write, relabel, new
--     start_act, exec_act               start, exec
-- Assumes nothing.
use Rattle.std.specs.Prelude.{ℕ, Bool, List, ltb, length, replicate}
use Rattle.std.proofs.Math.ListN.{get_elem?}
use Rattle.labels.specs.declared.Label.{Label}
use Rattle.labels.specs.Labels.{lower, reaches}
use Rattle.book.specs.declared.Value.TheVariants.{Plain}
use Rattle.book.specs.Control.{both, on_some}
use Rattle.machine.specs.Control.{given, on_code}
use Rattle.machine.specs.Histories.{Histories}
use Rattle.machine.specs.States.{Traced, Cell, Job, State}

-- The act is blocked; it leaves the tables as they are; this cell now stands at a number; a cell, a job is new.
pub data Effect (H : Type 0) : Type 0 where
  blocked keep : Effect H
  store : ℕ → Cell H → Effect H
  create : Cell H → Effect H
  launch : Job H → Effect H

-- blocked unless the test holds
abbrev pub blocked_unless : {H : Type 0} → Bool → Effect H → Effect H
blocked_unless b e = given b e blocked

-- the entry fits: "blocked when 64 cells exist", "blocked when 64 jobs exist"
abbrev pub is_free : {A : Type 0} → ℕ → List A → Bool
is_free size table = ltb (length table) size

-- exec: "a job at the lower of the two labels", the actor's and the cell's
unfoldable pub exec_label : Label → Label → Label
exec_label actor cell = lower actor cell

-- over any histories
module _ (A : Histories) where
  open A use {H, one, join}

  -- "An act below appends the actor's whole history to the value's."
  abbrev pub acted : H → Traced H → Traced H
  acted h v = record { value = v.value; history = join v.history h }

  -- "Registers start as plain 0 with the job's history."
  abbrev pub zero_with : H → Traced H
  zero_with h = record { value = Plain 0; history = h }

  abbrev pub fresh_job : ℕ → Label → H → Job H
  fresh_job b l h = record { block = b; position = 0; label = l; registers = replicate 8 (zero_with h); history = h }

  -- by an actor of label l and history h
  module _ (s : State H) (l : Label) (h : H) where
    -- "write: blocked unless w is a cell with label at most the job's; stores (an act)."
    unfoldable pub write_act : ℕ → Traced H → Effect H
    write_act k v =
        on_some (get_elem? s.cells k) blocked
        (λ c. blocked_unless (reaches l c.label) (store k (record { shape = c.shape; label = c.label; content = acted h v })))

    -- "relabel: blocked unless w is a cell and its old and new label are at most the job's."
    unfoldable pub relabel_act : ℕ → Label → Effect H
    relabel_act k o =
        on_some (get_elem? s.cells k) blocked
        (λ c. blocked_unless (both (reaches l c.label) (reaches l o)) (store k (record { shape = c.shape; label = o; content = c.content })))

  -- and in tables of this size
  module _ (size : ℕ) (s : State H) (l : Label) (h : H) where
    -- "new: blocked when 64 cells exist; a cell with the job's label, the shape, the content (an act)"
    unfoldable pub new_act : ℕ → Traced H → Effect H
    new_act i v = blocked_unless (is_free size s.cells) (create (record { shape = i; label = l; content = acted h v }))

    -- "start: blocked when 64 jobs exist; a job at this label with this history."
    unfoldable pub start_act : ℕ → Effect H
    start_act b = blocked_unless (is_free size s.jobs) (launch (fresh_job b l h))

    -- "exec: blocked unless w is a cell holding code and a job fits; a job at the lower of the two labels, history: caller's, code's,
    -- new label."
    unfoldable pub exec_act : ℕ → Effect H
    exec_act k =
        on_some (get_elem? s.cells k) blocked
        (λ c. on_code c.content.value blocked
        (λ b. let m = exec_label l c.label in
        blocked_unless (is_free size s.jobs) (launch (fresh_job b m (join (join h c.content.history) (one m))))))
