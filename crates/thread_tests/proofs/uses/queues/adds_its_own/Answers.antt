use Rattle.std.proofs.Common.{rules, Ok, subst}
use Rattle.ref_share.specs.QueueCalls.{PutsNotice}
use Rattle.ref_share.specs.QueueSeats.{queue_view}
use Rattle.thread_tests.proofs.QueueUses.{added_is_own}
use Rattle.thread_tests.proofs.uses.queues.adds_its_own.Goals as goal

pub returns-in-Ok-Added-clause-own : goal.returns-in-Ok-Added-clause-own
returns-in-Ok-Added-clause-own g c =
    let put = subst (λ answer. PutsNotice (queue_view c.args.seat.now) c.args.notice (Ok answer)
    (queue_view c.put.new.seat))
    c.in-Ok-Added.field-0-is c.in-Ok-Added.ensures.puts in
    let own = added_is_own (queue_view c.args.seat.now) (queue_view c.put.new.seat)
    _ c.args.notice c.in-Ok-Added.field-0-0 _
    put c.put.ensures.seat.history.run in
    search (rules, own)
