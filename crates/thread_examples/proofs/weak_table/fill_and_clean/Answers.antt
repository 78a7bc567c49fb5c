use Rattle.ref_share.proofs.Crossing.{crossing}
use Rattle.thread_examples.proofs.Crossing.{keeper_send}
use Rattle.thread_examples.proofs.weak_table.fill_and_clean.Goals as goal

pub run_with_readers-filled-requires-send-G : goal.run_with_readers-filled-requires-send-G
run_with_readers-filled-requires-send-G g c κs within = search (keeper_send, crossing) depth 60 fits 20000
