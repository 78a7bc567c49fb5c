use Rattle.refrun.proofs.Common.{arith}
use Rattle.ref_script.proofs.FaultLaws.{script_without_fault}
use Rattle.refrun.proofs.TraceLemmas.{is_script, prints_trace}
use Rattle.refrun.proofs.trace.trace_behind.Goals as goal

pub returns-clause-prints : goal.returns-clause-prints
returns-clause-prints g c = grind (arith, prints_trace, is_script)

pub returns-clause-sound : goal.returns-clause-sound
returns-clause-sound g c = script_without_fault _ _ _ (is_script _ _ _ c.requires c.in_ok-script.ensures.found)
