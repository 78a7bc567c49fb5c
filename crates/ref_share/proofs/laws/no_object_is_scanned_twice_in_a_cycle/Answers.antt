use Rattle.ref_share.proofs.ScannedRuns.{scanned_once}
use Rattle.ref_share.proofs.laws.no_object_is_scanned_twice_in_a_cycle.Goals as goal

pub returns : goal.returns
returns c = scanned_once
