use Rattle.ref_script.proofs.Common.{length}
use Rattle.ref_script.proofs.replies.+fault_numbered.Given as goal

abbrev pub decreases-fault_numbered : goal.decreases-fault_numbered
decreases-fault_numbered l = length l.faults.now
