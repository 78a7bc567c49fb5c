use Rattle.ref_clear.proofs.Common.{pending_at}
use Rattle.ref_clear.proofs.HandAnswers.{none_stays}
use Rattle.ref_clear.proofs.heap.Heap.hand.Goals as goal

pub returns-clause-does : goal.returns-clause-does
returns-clause-does g c = c.hand_next.ensures.does.hands (none_stays (pending_at c.args.self.now c.args.worker))
