use Rattle.std.proofs.Common.{arith, ◌∙◌, refl, sym}
use Rattle.std.proofs.lemmas.Bool.{false≢true}
use Rattle.std.proofs.lemmas.Result.{err_from_is_err_and}
use Rattle.ref_judge.proofs.QueueTells.{puts_refused}
use Rattle.ref_judge.proofs.PutDone.{reading, queue_there, puts_fit, puts_told, puts_sound}
use Rattle.ref_judge.proofs.PutDone.{refused_sound, puts_wrong, puts_other}
use Rattle.ref_judge.proofs.judge.Judge.puts.Goals as goal

pub returns-in-Err : goal.returns-in-Err
returns-in-Err g c =
    rw (← c.self.view_is)
    (puts_refused _ c.args.actor c.in-Err.fault c.args.reply _ c.in-Err.ensures.refused c.is_refused.ensures)

pub returns-in_default-reply : goal.returns-in_default-reply
returns-in_default-reply g c =
    rw (← c.self.view_is)
    (puts_other _ c.args.actor c.in_default.field-0 c.queue.inside.0 _
    (reading _ c.args.actor c.in_default.field-0 c.queue.inside.0 _ _ _ c.queue.view_is c.queue_of-queue.ensures
    c.in_default.ensures.refused c.in_default.ensures.first refl c.index-line.ensures) c.args.reply
    c.in_default-reply.not-Outs)

pub returns-then-before-line : goal.returns-then-before-line
returns-then-before-line g c =
    rw (← c.self.view_is)
    (puts_wrong _ c.args.actor c.in_default.field-0 c.queue.inside.0 _
    (reading _ c.args.actor c.in_default.field-0 c.queue.inside.0 _ _ _ c.queue.view_is c.queue_of-queue.ensures
    c.in_default.ensures.refused c.in_default.ensures.first c.line.view_is c.index-line.ensures) c.args.reply
    c.in-Outs.outs c.in-Outs.is (λ before may. c.if-before-line.true (c.before-2.ensures.before ∙ before)))

pub index-line-requires : goal.index-line-requires
index-line-requires g c =
    let there =
    queue_there _ c.self.invariant c.args.actor _ _ _ c.queue.view_is c.queue_of-queue.ensures
    c.in_default.ensures.first in
    let len = c.self.inside.lines.ok.0 in
    omega (arith, there, len)

pub index_mut-requires : goal.index_mut-requires
index_mut-requires g c =
    let there =
    queue_there _ c.self.invariant c.args.actor _ _ _ c.queue.view_is c.queue_of-queue.ensures
    c.in_default.ensures.first in
    let len = c.self.inside.lines.ok.0 in
    omega (arith, there, len)

pub returns-in_err-added : goal.returns-in_err-added
returns-in_err-added g c =
    let p = err_from_is_err_and c.from_residual.result c.from_residual.ensures.1 in
    let wrong =
    rw (c.as_slice.ensures.numbers, c.as_slice-2.ensures.done, c.objects_of-objects.ensures) at
    c.in_err-added.ensures.1 in
    rw (← c.self.view_is, p.1, p.2, c.in_err-added.ensures.0)
    (puts_wrong _ c.args.actor c.in_default.field-0 c.queue.inside.0 _
    (reading _ c.args.actor c.in_default.field-0 c.queue.inside.0 _ _ _ c.queue.view_is c.queue_of-queue.ensures
    c.in_default.ensures.refused c.in_default.ensures.first c.line.view_is c.index-line.ensures) c.args.reply
    c.in-Outs.outs c.in-Outs.is (λ before may. false≢true (sym wrong ∙ may)))

pub put_in-requires : goal.put_in-requires
put_in-requires g c =
    let fits =
    puts_fit _ c.args.actor c.in_default.field-0 c.queue.inside.0 _
    (reading _ c.args.actor c.in_default.field-0 c.queue.inside.0 _ _ _ c.queue.view_is c.queue_of-queue.ensures
    c.in_default.ensures.refused c.in_default.ensures.first c.line.view_is c.index-line.ensures)
    c.self.invariant _ c.index_mut.ensures.value c.known.ensures.formed c.args.reply c.in-Outs.outs c.in-Outs.is
    (sym c.before-2.ensures.before ∙ c.if-before-line.false)
    (rw (c.as_slice.ensures.numbers, c.as_slice-2.ensures.done, c.objects_of-objects.ensures) at
    c.in_ok-added.ensures.0)
    _ (c.as_slice-3.ensures.numbers ∙ (rw (
      c.as_slice.ensures.numbers,
      c.as_slice-2.ensures.done,
      c.objects_of-objects.ensures,
    ) at c.in_ok-added.ensures.1)) in
    let few = c.known.ensures.few in
    omega (arith, fits, few)

pub invariant_of-self : goal.invariant_of-self
invariant_of-self g c =
    refused_sound _ c.args.actor c.in_default.field-0 c.queue.inside.0 _
    (reading _ c.args.actor c.in_default.field-0 c.queue.inside.0 _ _ _ c.queue.view_is c.queue_of-queue.ensures
    c.in_default.ensures.refused c.in_default.ensures.first c.line.view_is c.index-line.ensures)
    c.self.invariant _ c.index_mut.ensures.value c.known.ensures.formed _ c.in_err-put_in.ensures.stop.2 _
    c.in_err-put_in.ensures.stop.1

pub invariant_of-self-2 : goal.invariant_of-self-2
invariant_of-self-2 g c =
    puts_sound _ c.args.actor c.in_default.field-0 c.queue.inside.0 _
    (reading _ c.args.actor c.in_default.field-0 c.queue.inside.0 _ _ _ c.queue.view_is c.queue_of-queue.ensures
    c.in_default.ensures.refused c.in_default.ensures.first c.line.view_is c.index-line.ensures)
    c.self.invariant _ c.index_mut.ensures.value c.known.ensures.formed c.args.reply c.in-Outs.outs c.in-Outs.is
    (sym c.before-2.ensures.before ∙ c.if-before-line.false)
    (rw (c.as_slice.ensures.numbers, c.as_slice-2.ensures.done, c.objects_of-objects.ensures) at
    c.in_ok-added.ensures.0)
    _ (c.as_slice-3.ensures.numbers ∙ (rw (
      c.as_slice.ensures.numbers,
      c.as_slice-2.ensures.done,
      c.objects_of-objects.ensures,
    ) at c.in_ok-added.ensures.1)) _
    (c.not_added-left.ensures
    ∙ rw (c.as_slice-4.ensures.numbers, c.as_slice-5.ensures.done, c.objects_of-objects.ensures) refl) _
    c.in_ok-put_in.ensures.done.1 _ c.in_ok-put_in.ensures.done.0 _ c.queue_of-queue.ensures _ c.fill.ensures

pub returns : goal.returns
returns g c =
    rw (← c.self.view_is)
    (puts_told _ c.args.actor c.in_default.field-0 c.queue.inside.0 _
    (reading _ c.args.actor c.in_default.field-0 c.queue.inside.0 _ _ _ c.queue.view_is c.queue_of-queue.ensures
    c.in_default.ensures.refused c.in_default.ensures.first c.line.view_is c.index-line.ensures)
    c.self.invariant _ c.index_mut.ensures.value c.known.ensures.formed c.args.reply c.in-Outs.outs c.in-Outs.is
    (sym c.before-2.ensures.before ∙ c.if-before-line.false)
    (rw (c.as_slice.ensures.numbers, c.as_slice-2.ensures.done, c.objects_of-objects.ensures) at
    c.in_ok-added.ensures.0)
    _ (c.as_slice-3.ensures.numbers ∙ (rw (
      c.as_slice.ensures.numbers,
      c.as_slice-2.ensures.done,
      c.objects_of-objects.ensures,
    ) at c.in_ok-added.ensures.1)) _
    (c.not_added-left.ensures
    ∙ rw (c.as_slice-4.ensures.numbers, c.as_slice-5.ensures.done, c.objects_of-objects.ensures) refl) _
    c.in_ok-put_in.ensures.done.1 _ c.in_ok-put_in.ensures.done.0 _ c.queue_of-queue.ensures _ c.fill.ensures)
