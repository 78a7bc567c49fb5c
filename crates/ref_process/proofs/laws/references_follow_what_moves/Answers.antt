use Rattle.ref_process.proofs.MovedPlaces.{relocated_at, relocated_reads}
use Rattle.ref_process.proofs.laws.references_follow_what_moves.Goals as goal

pub returns-clause-references : goal.returns-clause-references
returns-clause-references c = relocated_at

pub returns-clause-readings : goal.returns-clause-readings
returns-clause-readings c = relocated_reads
