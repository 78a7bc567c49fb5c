use Rattle.ref_share.proofs.Crossing.{crossing}
use Rattle.interning.proofs.run_threads.Goals as goal

pub run_with_readers-removed-requires-send-G : goal.run_with_readers-removed-requires-send-G
run_with_readers-removed-requires-send-G g c κs within = search crossing depth 60 fits 20000
