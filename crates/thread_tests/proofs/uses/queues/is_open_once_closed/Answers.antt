use Rattle.std.proofs.Common.{not, ap, ◌∙◌}
use Rattle.ref_share.specs.QueueSeats.{queue_view}
use Rattle.thread_tests.proofs.QueueUses.{left_closed}
use Rattle.thread_tests.proofs.uses.queues.is_open_once_closed.Goals as goal

pub returns-in-Ok-finish : goal.returns-in-Ok-finish
returns-in-Ok-finish g c =
    c.close-is_open.ensures.result
    ∙ ap not (left_closed (queue_view c.args.seat) (queue_view c.close.new.seat) _ c.in-Ok.field-0 _
    c.in-Ok.ensures.closes c.in-Ok-finish.ensures.ok)
