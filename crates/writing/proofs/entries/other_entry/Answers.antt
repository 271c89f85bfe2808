-- `entries::other_entry` meets its contract. Assumes nothing.
use mathlib.Core.Path.{sym, ◌∙◌}
use Rattle.writing.proofs.Entered.{entered_step, entered_no_step}
use Rattle.writing.proofs.entries.other_entry.Goals as goal

-- no step
pub returns-then-group_of-ne-STEPS : goal.returns-then-group_of-ne-STEPS
returns-then-group_of-ne-STEPS c = search entered_no_step

-- a step
pub returns : goal.returns
returns c =
    entered_step c.args.t.now _ _ (λ i. (c.type_inv.t i).fits) _ _ _ (sym c.group_of.ensures ∙ c.if-group_of-ne-STEPS.false) c.requires.1 c.span_of-n.ensures
    c.from_le_bytes-number.ensures c.is_spare.ensures c.known.ensures
