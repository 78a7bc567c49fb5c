use Rattle.std.proofs.Common.{◌≡◌, ◌<◌, ◌≤◌, ◌∙◌, ap, sym, arith, length, add-one}
use Rattle.ref_base.specs.QueueLists.{Lists, enqueued}
use Rattle.ref_queue.proofs.BatchLemmas.{at_first, own_next, room_next, over_next, tried_next, some_next}
use Rattle.ref_queue.proofs.BatchLemmas.{ends_at, left_at}
use Rattle.ref_queue.proofs.queue.Queue.put_each.Goals.{then-not-is_refused+in-Some, else-not-is_refused}
use Rattle.ref_queue.proofs.queue.Queue.put_each.Goals.{then-not-is_refused+in_default}
use Rattle.ref_queue.proofs.queue.Queue.put_each.Goals as goal

pub loop-item-init : goal.loop-item-init
loop-item-init g c = rw c.new-outs.ensures (record {
  so_far = at_first g.T.Parcel.object_of g.T.Parcel.queue_of c.args.self.now c.args.batch.now;
  before =
      c.len.ensures.count ∙ ap length (sym c.self.invariant.order)
      ∙ ap (λ (l : Lists _). length (enqueued g.T.Parcel.object_of l)) c.self.view_is;
})

pub put_next-done-requires-clause-own : goal.put_next-done-requires-clause-own
put_next-done-requires-clause-own g c =
    let within : c.loop-item._item < length c.args.batch.now =
    omega (arith, c.len-count.ensures, c.loop-item-test.true) in
    own_next g.T.Parcel.object_of g.T.Parcel.queue_of c.args.self.now c.args.batch.now within
    c.loop-item.invariant.so_far c.if-not-is_refused.true (sym c.take_first.ensures.answer ∙ c.in-Some.is) c.requires

pub put_next-done-requires-clause-room : goal.put_next-done-requires-clause-room
put_next-done-requires-clause-room g c =
    let within : c.loop-item._item < length c.args.batch.now =
    omega (arith, c.len-count.ensures, c.loop-item-test.true) in
    let few : length c.args.batch.now ≤ 32 = omega (arith, c.len-count.ensures) in
    rw c.take_first.ensures.after
    (room_next g.T.Parcel.object_of g.T.Parcel.queue_of c.args.self.now c.args.batch.now within
    c.loop-item.invariant.so_far c.if-not-is_refused.true (sym c.take_first.ensures.answer ∙ c.in-Some.is) few)

pub loop-item-preserved : goal.loop-item-preserved
loop-item-preserved g c =
    let object_of = g.T.Parcel.object_of in
    let queue_of = g.T.Parcel.queue_of in
    let queue = c.args.self.now in
    let items = c.args.batch.now in
    let so_far = c.loop-item.invariant.so_far in
    let within : c.loop-item._item < length c.args.batch.now =
    omega (arith, c.len-count.ensures, c.loop-item-test.true) in
    elim c.if-not-is_refused.branch [
      | then-not-is_refused+in-Some w ↦
          rw (
            add-one,
            w.self-is,
            w.batch-is,
            w.outs-is,
            w.is_refused-is,
            w.is_refused-is_refused.ensures,
            w.push.ensures,
            w.put_next-done.ensures.after,
            w.put_next-done.ensures.back,
            w.take_first.ensures.after,
          )
          (record {
            so_far =
                tried_next object_of queue_of queue items within so_far w.if-not-is_refused.true
                (sym w.take_first.ensures.answer ∙ w.in-Some.is) w.put_next-done.result
                w.put_next-done.ensures.becomes;
            before = c.loop-item.invariant.before;
          })
      | then-not-is_refused+in_default w ↦
          let there = some_next object_of queue_of queue items within so_far w.if-not-is_refused.true in
          absurd (w.in_default.not-Some there.0 (w.take_first.ensures.answer ∙ there.1))
      | else-not-is_refused w ↦
          rw (add-one, w.self-is, w.batch-is, w.outs-is, w.is_refused-is) (record {
            so_far = over_next object_of queue_of queue items so_far w.if-not-is_refused.false;
            before = c.loop-item.invariant.before;
          })
    ]

pub returns-clause-ends : goal.returns-clause-ends
returns-clause-ends g c =
    let all : c.loop-item._item ≡ length c.args.batch.now =
    omega (arith, c.len-count.ensures, c.loop-item-test.false, c.loop-item.auto) in
    ends_at g.T.Parcel.object_of g.T.Parcel.queue_of c.args.self.now c.args.batch.now
    (rw all at c.loop-item.invariant.so_far)

pub returns-clause-left : goal.returns-clause-left
returns-clause-left g c =
    let all : c.loop-item._item ≡ length c.args.batch.now =
    omega (arith, c.len-count.ensures, c.loop-item-test.false, c.loop-item.auto) in
    rw (c.turn.ensures, c.len-2.ensures.count, c.len-count.ensures.count)
    (left_at g.T.Parcel.object_of g.T.Parcel.queue_of c.args.self.now c.args.batch.now
    (rw all at c.loop-item.invariant.so_far))
