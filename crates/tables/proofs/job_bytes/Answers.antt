-- `job_bytes` meets its contract. Assumes nothing.
use Rattle.std.proofs.Common.{rules, [], ◌∷◌}
use Rattle.tables.specs.Bytes.{value_bytes, stored_record}
use Rattle.tables.proofs.Filling.{packed_on}
use Rattle.tables.proofs.job_bytes.Goals as goal

pub loop-i-preserved : goal.loop-i-preserved
loop-i-preserved c =
    let head = c.args.j.block ∷ c.args.j.position ∷ c.args.j.label.0 ∷ c.args.j.source.0 ∷ [] in (
      search rules,
      packed_on stored_record value_bytes head _ _ _ _ _ _ _ _ c.loop-i.invariant.1 (search rules) c.value_bytes.ensures (search rules) c.copy_in.ensures (search rules),
    )
