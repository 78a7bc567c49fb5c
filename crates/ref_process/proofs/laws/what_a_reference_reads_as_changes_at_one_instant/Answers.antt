use Rattle.ref_process.proofs.Readings.{row_reads}
use Rattle.ref_process.proofs.laws.what_a_reference_reads_as_changes_at_one_instant.Goals as goal

pub returns : goal.returns
returns c = λ marked d row e leads k other. row_reads marked d k row e leads other
