use Rattle.ref_clear.proofs.Common.{◌∙◌, arith, ap, sym}
use Rattle.std.proofs.lemmas.Result.{err_from_is_err_and}
use Rattle.ref_clear.specs.ClearViews.{may_go}
use Rattle.ref_clear.proofs.ChainedNotices.{worker_has_chain, none_first, first_registered, hand_refused, handed}
use Rattle.ref_clear.proofs.ChainedNotices.{sound_handed, hands_next, stays_next}
use Rattle.ref_clear.proofs.heap.Heap.hand_next.Goals as goal

pub index-requires : goal.index-requires
index-requires g c =
    let has_chain =
    worker_has_chain c.worker.inside.0 c.self.invariant c.self.view_is (rw c.worker.view_is c.requires) in
    omega (arith, has_chain, c.self.inside.pending.ok.0)

pub index_mut-requires : goal.index_mut-requires
index_mut-requires g c =
    let has_chain =
    worker_has_chain c.worker.inside.0 c.self.invariant c.self.view_is (rw c.worker.view_is c.requires) in
    omega (arith, has_chain, c.self.inside.pending.ok.0)

pub returns-in_default-clause-does : goal.returns-in_default-clause-does
returns-in_default-clause-does g c =
    rw (← c.self.view_is, ← c.worker.view_is)
    (none_first c.worker.inside.0 c.self.invariant c.self.view_is (rw c.worker.view_is c.requires)
    c.index.ensures c.objects.ensures c.take_first.ensures.answer c.in_default.is)

pub of-first-requires : goal.of-first-requires
of-first-requires g c =
    first_registered c.worker.inside.0 c.self.invariant c.self.view_is (rw c.worker.view_is c.requires)
    c.index.ensures c.objects.ensures c.take_first.ensures.answer c.in-Some.is

pub returns-then-not-may_go-clause-does : goal.returns-then-not-may_go-clause-does
returns-then-not-may_go-clause-does g c =
    rw (← c.self.view_is, ← c.worker.view_is)
    (stays_next c.worker.inside.0 c.self.invariant c.self.view_is (rw c.worker.view_is c.requires)
    c.index.ensures c.objects.ensures c.take_first.ensures.answer c.in-Some.is c.of-first.ensures c.args.with
    c.may_go.ensures c.if-not-may_go.true)

pub invariant_of-self : goal.invariant_of-self
invariant_of-self g c =
    (hand_refused c.worker.inside.0 c.self.invariant c.self.view_is (rw c.worker.view_is c.requires)
    c.index.ensures c.objects.ensures c.take_first.ensures.answer c.in-Some.is
    (c.first.view_is ∙ c.of-first.ensures) c.in_err-hold.ensures.answer c.in_err-hold.ensures.after).1

pub returns-in_err-hold-clause-does : goal.returns-in_err-hold-clause-does
returns-in_err-hold-clause-does g c =
    let p = err_from_is_err_and c.from_residual.result c.from_residual.ensures.1 in
    rw (← c.self.view_is, ← c.worker.view_is, p.1, p.2)
    (hands_next c.worker.inside.0 c.self.invariant c.self.view_is (rw c.worker.view_is c.requires)
    c.index.ensures c.objects.ensures c.take_first.ensures.answer c.in-Some.is
    (c.first.view_is ∙ c.of-first.ensures) c.args.with
    (c.may_go.ensures ∙ ap (may_go c.args.with) (sym c.first.view_is))
    c.if-not-may_go.false
    (hand_refused c.worker.inside.0 c.self.invariant c.self.view_is (rw c.worker.view_is c.requires)
    c.index.ensures c.objects.ensures c.take_first.ensures.answer c.in-Some.is
    (c.first.view_is ∙ c.of-first.ensures) c.in_err-hold.ensures.answer c.in_err-hold.ensures.after).0)

pub invariant_of-self-2 : goal.invariant_of-self-2
invariant_of-self-2 g c =
    sound_handed c.worker.inside.0 c.self.invariant c.self.view_is (rw c.worker.view_is c.requires)
    c.index.ensures c.objects.ensures c.take_first.ensures.answer c.in-Some.is
    (c.first.view_is ∙ c.of-first.ensures) c.in_ok-hold.ensures.answer c.in_ok-hold.ensures.after
    c.take_first.ensures.after

pub returns-clause-does : goal.returns-clause-does
returns-clause-does g c =
    rw (c.new.ensures, ← c.self.view_is, ← c.worker.view_is)
    (hands_next c.worker.inside.0 c.self.invariant c.self.view_is (rw c.worker.view_is c.requires)
    c.index.ensures c.objects.ensures c.take_first.ensures.answer c.in-Some.is
    (c.first.view_is ∙ c.of-first.ensures) c.args.with
    (c.may_go.ensures ∙ ap (may_go c.args.with) (sym c.first.view_is))
    c.if-not-may_go.false
    (handed c.worker.inside.0 c.self.invariant c.self.view_is (rw c.worker.view_is c.requires)
    c.index.ensures c.objects.ensures c.take_first.ensures.answer c.in-Some.is
    (c.first.view_is ∙ c.of-first.ensures) c.in_ok-hold.ensures.answer c.in_ok-hold.ensures.after
    c.take_first.ensures.after))
