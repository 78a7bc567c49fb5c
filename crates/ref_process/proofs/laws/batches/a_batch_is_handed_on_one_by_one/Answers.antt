use Rattle.ref_process.proofs.BatchRows.{batch_handed_on}
use Rattle.ref_process.proofs.laws.batches.a_batch_is_handed_on_one_by_one.Goals as goal

pub returns : goal.returns
returns c = batch_handed_on
