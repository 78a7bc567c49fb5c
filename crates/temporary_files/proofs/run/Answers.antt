use Rattle.ref_share.proofs.Crossing.{crossing}
use Rattle.temporary_files.proofs.Crossing.{hand_send}
use Rattle.temporary_files.proofs.run.Goals as goal

pub run_with_readers-removed-requires-send-G : goal.run_with_readers-removed-requires-send-G
run_with_readers-removed-requires-send-G g c κs within = search (hand_send, crossing) depth 60 fits 20000
