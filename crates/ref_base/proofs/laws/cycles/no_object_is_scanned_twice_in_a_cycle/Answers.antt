use Rattle.ref_base.proofs.ScannedOnce.{legal_scanned_once}
use Rattle.ref_base.proofs.laws.cycles.no_object_is_scanned_twice_in_a_cycle.Goals as goal

pub returns : goal.returns
returns c = legal_scanned_once
