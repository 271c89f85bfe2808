-- `is_cell_shape` meets its contract. Assumes nothing.
use Rattle.std.proofs.Common.{sym, ap, ◌∙◌, [], get_or, rules}
use Rattle.vetting.proofs.Vetted.{shape_is}
use Rattle.vetting.proofs.is_cell_shape.Goals as goal

pub returns-in-Some-eq18 : goal.returns-in-Some-eq18
returns-in-Some-eq18 c = let f = c.in-Some-eq18.ensures.lookup.3 in λ e. shape_is _ _ f.0 (sym (ap (λ r. get_or r 0 0) (f.1 [])) ∙ search rules)
