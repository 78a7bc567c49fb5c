use Rattle.std.proofs.Common.{arith, ◌∙◌, sym}
use Rattle.ref_judge.proofs.QueueTells.{put_refused}
use Rattle.ref_judge.proofs.PutDone.{reading, queue_there, put_fits, put_told, put_sound, refused_sound, put_wrong}
use Rattle.ref_judge.proofs.PutDone.{put_still, put_refuses, hand_accepted}
use Rattle.ref_judge.proofs.judge.Judge.put.Goals as goal

pub returns-in-Err : goal.returns-in-Err
returns-in-Err g c =
    rw (← c.self.view_is)
    (put_refused _ c.args.actor c.in-Err.fault c.args.reply _ c.in-Err.ensures.refused c.is_refused.ensures)

pub returns-in_default : goal.returns-in_default
returns-in_default g c =
    rw (← c.self.view_is)
    (put_wrong _ c.args.actor c.in-Ok.no c.queue.inside.0 _
    (reading _ c.args.actor c.in-Ok.no c.queue.inside.0 _ _ _ c.queue.view_is c.queue_of-queue.ensures
    c.in-Ok.ensures.refused c.in-Ok.ensures.first c.line.view_is c.index-line.ensures) c.args.reply
    (λ d told may. c.in_default.not-Some d (c.told_put.ensures ∙ told)))

pub returns-then-not-becomes : goal.returns-then-not-becomes
returns-then-not-becomes g c =
    rw (← c.self.view_is)
    (put_refuses _ c.args.actor c.in-Ok.no c.queue.inside.0 _
    (reading _ c.args.actor c.in-Ok.no c.queue.inside.0 _ _ _ c.queue.view_is c.queue_of-queue.ensures
    c.in-Ok.ensures.refused c.in-Ok.ensures.first c.line.view_is c.index-line.ensures) c.args.reply
    c.in-Some.done (sym c.told_put.ensures ∙ c.in-Some.is)
    (rw c.link_of.ensures at (sym c.becomes.ensures ∙ c.if-not-becomes.true)))

pub index-line-requires : goal.index-line-requires
index-line-requires g c =
    let there =
    queue_there _ c.self.invariant c.args.actor _ _ _ c.queue.view_is c.queue_of-queue.ensures c.in-Ok.ensures.first in
    let len = c.self.inside.lines.ok.0 in
    omega (arith, there, len)

pub index_mut-requires : goal.index_mut-requires
index_mut-requires g c =
    let there =
    queue_there _ c.self.invariant c.args.actor _ _ _ c.queue.view_is c.queue_of-queue.ensures c.in-Ok.ensures.first in
    let len = c.self.inside.lines.ok.0 in
    omega (arith, there, len)

pub put_in-requires : goal.put_in-requires
put_in-requires g c =
    let fits =
    put_fits _ c.args.actor c.in-Ok.no c.queue.inside.0 _
    (reading _ c.args.actor c.in-Ok.no c.queue.inside.0 _ _ _ c.queue.view_is c.queue_of-queue.ensures
    c.in-Ok.ensures.refused c.in-Ok.ensures.first c.line.view_is c.index-line.ensures)
    c.self.invariant _ c.index_mut.ensures.value c.known.ensures.formed c.args.reply c.in-Some.done
    (sym c.told_put.ensures ∙ c.in-Some.is)
    (rw c.link_of.ensures at (sym c.becomes.ensures ∙ c.if-not-becomes.false))
    (sym c.is_added.ensures ∙ c.if-is_added.true) in
    let few = c.known.ensures.few in
    omega (arith, fits, few)

pub invariant_of-self : goal.invariant_of-self
invariant_of-self g c =
    refused_sound _ c.args.actor c.in-Ok.no c.queue.inside.0 _
    (reading _ c.args.actor c.in-Ok.no c.queue.inside.0 _ _ _ c.queue.view_is c.queue_of-queue.ensures
    c.in-Ok.ensures.refused c.in-Ok.ensures.first c.line.view_is c.index-line.ensures)
    c.self.invariant _ c.index_mut.ensures.value c.known.ensures.formed _ c.in_err-put_in.ensures.stop.2 _
    c.in_err-put_in.ensures.stop.1

pub drop_first-requires : goal.drop_first-requires
drop_first-requires g c = hand_accepted _ c.args.actor c.in-Ok.ensures.refused

pub invariant_of-self-then-is_added : goal.invariant_of-self-then-is_added
invariant_of-self-then-is_added g c =
    put_sound _ c.args.actor c.in-Ok.no c.queue.inside.0 _
    (reading _ c.args.actor c.in-Ok.no c.queue.inside.0 _ _ _ c.queue.view_is c.queue_of-queue.ensures
    c.in-Ok.ensures.refused c.in-Ok.ensures.first c.line.view_is c.index-line.ensures)
    c.self.invariant _ c.index_mut.ensures.value c.known.ensures.formed c.args.reply c.in-Some.done
    (sym c.told_put.ensures ∙ c.in-Some.is)
    (rw c.link_of.ensures at (sym c.becomes.ensures ∙ c.if-not-becomes.false))
    (sym c.is_added.ensures ∙ c.if-is_added.true) _
    c.in_ok-put_in.ensures.done.1 _ c.in_ok-put_in.ensures.done.0 _ c.drop_first.ensures

pub returns-in_ok-put_in : goal.returns-in_ok-put_in
returns-in_ok-put_in g c =
    rw (← c.self.view_is)
    (put_told _ c.args.actor c.in-Ok.no c.queue.inside.0 _
    (reading _ c.args.actor c.in-Ok.no c.queue.inside.0 _ _ _ c.queue.view_is c.queue_of-queue.ensures
    c.in-Ok.ensures.refused c.in-Ok.ensures.first c.line.view_is c.index-line.ensures)
    c.self.invariant _ c.index_mut.ensures.value c.known.ensures.formed c.args.reply c.in-Some.done
    (sym c.told_put.ensures ∙ c.in-Some.is)
    (rw c.link_of.ensures at (sym c.becomes.ensures ∙ c.if-not-becomes.false))
    (sym c.is_added.ensures ∙ c.if-is_added.true) _
    c.in_ok-put_in.ensures.done.1 _ c.in_ok-put_in.ensures.done.0 _ c.drop_first.ensures)

pub returns-else-is_added : goal.returns-else-is_added
returns-else-is_added g c =
    rw (← c.self.view_is)
    (put_still _ c.args.actor c.in-Ok.no c.queue.inside.0 _
    (reading _ c.args.actor c.in-Ok.no c.queue.inside.0 _ _ _ c.queue.view_is c.queue_of-queue.ensures
    c.in-Ok.ensures.refused c.in-Ok.ensures.first c.line.view_is c.index-line.ensures) c.args.reply
    c.in-Some.done (sym c.told_put.ensures ∙ c.in-Some.is)
    (rw c.link_of.ensures at (sym c.becomes.ensures ∙ c.if-not-becomes.false))
    (sym c.is_added.ensures ∙ c.if-is_added.false))
