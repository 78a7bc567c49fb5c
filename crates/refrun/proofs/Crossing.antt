-- What the threads of a stress run share, and what each leaves, may cross: a search at a closure need not look into it.
use denote.Param.Send.{IsSend, IsSync, sendable}
use Rattle.std.proofs.Crossing.{crosses}
use Rattle.ref_share.proofs.Crossing.{shared}
use Rattle.refrun.specs.contracts.station.Shared.{the_row as shared_row}
use Rattle.refrun.specs.contracts.tally.Tally.{the_row as tally_row}
use Rattle.refrun.specs.contracts.threads.task.Left.{the_row as left_row}

pub shared_sync : IsSync shared_row
shared_sync = search (shared, crosses, sendable) depth 60 fits 20000

pub tally_sync : IsSync tally_row
tally_sync = search (crosses, sendable) depth 60 fits 20000

pub left_send : IsSend left_row
left_send = search (shared, crosses, sendable) depth 60 fits 20000
