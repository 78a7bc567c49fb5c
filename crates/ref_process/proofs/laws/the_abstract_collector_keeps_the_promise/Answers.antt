use Rattle.ref_process.proofs.MarkedPaths.{undoomed_keeps}
use Rattle.ref_process.proofs.laws.the_abstract_collector_keeps_the_promise.Goals as goal

pub returns : goal.returns
returns c = undoomed_keeps
