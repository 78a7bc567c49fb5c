use Rattle.ref_world.proofs.HandedNotices.{worker_received}
use Rattle.ref_world.proofs.hands.Hands.hand_on.Goals as goal

pub returns-clause-hands : goal.returns-clause-hands
returns-clause-hands g c =
    worker_received c.args.max c.self.view_is c.worker.view_is c.hand_on.ensures.hand c.requires.fits
