-- What the code scans.
--     is_pending     a job with a step left, as the code keeps it
-- Assumes nothing.
use Rattle.std.specs.Prelude.{ℕ, Bool, List, ltb, get_or}
use Rattle.rotation.specs.declared.Pending.{Pending}

abbrev pub is_pending : List Pending → ℕ → Bool
is_pending js i = ltb 0 (get_or js i (record { past = 0 })).past
