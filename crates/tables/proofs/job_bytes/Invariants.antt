-- Behind the first four bytes stand those of the registers behind.
use Rattle.std.proofs.Common.{◌≡◌, ◌+◌, ◌*◌, ◌∷◌, length, take, map}
use Rattle.tables.specs.Bytes.{packed, value_bytes, stored_record}
use Rattle.tables.proofs.job_bytes.Given as goal

abbrev pub invariant-loop-i : goal.invariant-loop-i
invariant-loop-i l =
    (length l.out ≡ 52)
    × (take (4 + l.i * 6) l.out
    ≡ l.fn.j.block ∷ l.fn.j.position ∷ l.fn.j.label.0 ∷ l.fn.j.source.0 ∷ packed value_bytes (map stored_record (take l.i l.v-items)))
