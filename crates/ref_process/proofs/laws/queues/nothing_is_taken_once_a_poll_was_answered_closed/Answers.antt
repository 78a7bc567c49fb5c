use Rattle.ref_process.proofs.NoticeRuns.{nothing_behind}
use Rattle.ref_process.proofs.laws.queues.nothing_is_taken_once_a_poll_was_answered_closed.Goals as goal

pub returns : goal.returns
returns c = nothing_behind
