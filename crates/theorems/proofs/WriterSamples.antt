use Rattle.rows.specs.Samples as stated
use Rattle.rows.proofs.WriterSamples as proved

pub theorem : stated.WriterSamples
theorem = proved.writer_samples
