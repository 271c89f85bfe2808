-- `StoredJob::gets` meets its contract: what a job holds after a store into its registers. Assumes nothing.
use Rattle.acts.proofs.Values.{gets_in}
use Rattle.acts.proofs.StoredJob.gets.Goals as goal

pub returns-then-i-lt8 : goal.returns-then-i-lt8
returns-then-i-lt8 c = gets_in c.args.self c.args.next c.past-filled.result c.past-filled.ensures c.args.r c.args.v
