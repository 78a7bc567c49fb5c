use Rattle.std.proofs.Common.{arith, refl, ap, ◌∙◌, ◌∷◌, [], ◌++◌}
use Rattle.ref_base.specs.Worlds.{Pending}
use Rattle.ref_judge.proofs.PendingFronts.{objects_more, objects_stop, objects_end}
use Rattle.ref_judge.proofs.judge.clearing.first_batch.Goals as goal

pub returns-in_default : goal.returns-in_default
returns-in_default g c =
    let within = c.in-Some.ensures.variant.0 refl in
    let len = c.args.pending.now.ok.0 in
    objects_stop c.args.first c.in-Some.next.now c.args.pending.now.items c.loop-place.place c.loop-place.invariant.all
    _ c.args.max (omega (arith, within, len)) c.in-Some.ensures.lookup
    (rw (← c.next.view_is, ← c.first.view_is) (grind (arith, c.if-next-first.false)))
    (omega (arith, c.loop-place-test.true)) c.loop-place.invariant.are

pub returns-in_default-2 : goal.returns-in_default-2
returns-in_default-2 g c =
    let within = c.in-Some.ensures.variant.0 refl in
    let len = c.args.pending.now.ok.0 in
    objects_stop c.args.first c.in-Some.next.now c.args.pending.now.items c.loop-place.place c.loop-place.invariant.all
    _ c.args.max (omega (arith, within, len)) c.in-Some.ensures.lookup
    (rw (← c.next.view_is, ← c.first.view_is) (let isnt = c.if-eq.ensures in grind (arith, isnt)))
    (omega (arith, c.loop-place-test.true)) c.loop-place.invariant.are

pub returns-in_default-3 : goal.returns-in_default-3
returns-in_default-3 g c =
    let ends = c.get.ensures.variant.1 in
    let len = c.args.pending.now.ok.0 in
    objects_end c.args.first c.args.pending.now.items c.loop-place.place c.args.max _ c.loop-place.invariant.all
    (grind (arith, ends, len, c.in_default.is)) (omega (arith, c.loop-place-test.true)) c.loop-place.invariant.are

pub loop-place-preserved : goal.loop-place-preserved
loop-place-preserved g c =
    let within = c.in-Some.ensures.variant.0 refl in
    let len = c.args.pending.now.ok.0 in
    let more = objects_more c.args.first c.in-Some.next.now c.args.pending.now.items c.loop-place.place
    c.loop-place.invariant.all
    _ _ (omega (arith, within, len)) c.in-Some.ensures.lookup
    (rw (← c.next.view_is, ← c.first.view_is) (grind (arith, c.if-next-first.true, c.if-eq.ensures)))
    c.loop-place.invariant.are (c.push.ensures ∙ ap (λ (p : Pending). c.loop-place.objects ++ p.object ∷ [])
    c.next.view_is) in
    record { all = more.0; are = more.1; few = c.loop-place.invariant.few }
