use Rattle.ref_clear.proofs.Common.{arith, ◌≡◌, Some, sym, ap, ◌∙◌, subst, Reference, CycleHeap, IsSoundHeap}
use Rattle.std.proofs.lemmas.Result.{err_from_is_err_and}
use Rattle.ref_clear.proofs.NoticeAnswers.{mint_refused}
use Rattle.ref_clear.proofs.ChainedHeaps.{sound_marked}
use Rattle.ref_clear.proofs.UnhookAnswers.{slot_is_there}
use Rattle.ref_clear.proofs.ChainedNotices.{unhook_cut, unhook_refused, unhook_done, sound_unhooked}
use Rattle.ref_clear.proofs.heap.Heap.unhook.Goals as goal

pub invariant_of-self-in_default : goal.invariant_of-self-in_default
invariant_of-self-in_default g c = search sound_marked

pub returns-in_default-clause-does : goal.returns-in_default-clause-does
returns-in_default-clause-does g c = grind (arith, unhook_cut c.self.invariant c.args.mutator c.args.reference)

pub invariant_of-self-in_err-hold : goal.invariant_of-self-in_err-hold
invariant_of-self-in_err-hold g c =
    let mint = mint_refused c.self.inside.marker _ _ c.in_err-hold.ensures.answer c.in_err-hold.ensures.after in
    subst (λ (k : CycleHeap). IsSoundHeap k c.self.inside.pending.items c.self.inside.condemned) (sym mint.1)
    c.self.invariant

pub invariant_of-self-2 : goal.invariant_of-self-2
invariant_of-self-2 g c =
    let k : CycleHeap = c.self.inside.marker in
    let read = rw c.objects.ensures at c.in_ok-no.ensures.answer in
    let queue : c.in_ok-no.unhooked.queue ≡ Some c.in-Some.queue =
    ap (λ (r : Reference). r.queue) (sym c.unhooked.view_is) ∙ c.in-Some.is in
    sound_unhooked c.self.invariant c.args.mutator c.args.reference
    (slot_is_there k.heap c.args.mutator c.args.reference (rw c.objects.ensures at c.in_ok-no.ensures.refused))
    read.0 read.1 queue
    c.in_ok-hold.ensures.answer c.in_ok-hold.ensures.after c.clear-cleared.ensures.after

pub returns-in_err-hold-clause-does : goal.returns-in_err-hold-clause-does
returns-in_err-hold-clause-does g c =
    let k : CycleHeap = c.self.inside.marker in
    let read = rw c.objects.ensures at c.in_ok-no.ensures.answer in
    let spared = rw c.objects.ensures at c.in_ok-no.ensures.spared in
    let queue : c.in_ok-no.unhooked.queue ≡ Some c.in-Some.queue =
    ap (λ (r : Reference). r.queue) (sym c.unhooked.view_is) ∙ c.in-Some.is in
    let p = err_from_is_err_and c.from_residual-in_err-hold.result c.from_residual-in_err-hold.ensures.1 in
    rw (← c.self.view_is, p.1, p.2)
    (unhook_refused c.self.invariant c.args.mutator c.args.reference
    (slot_is_there k.heap c.args.mutator c.args.reference (rw c.objects.ensures at c.in_ok-no.ensures.refused))
    read.0 read.1 queue spared.0 c.in_err-hold.ensures.answer c.in_err-hold.ensures.after)

pub returns-clause-does : goal.returns-clause-does
returns-clause-does g c =
    let k : CycleHeap = c.self.inside.marker in
    let read = rw c.objects.ensures at c.in_ok-no.ensures.answer in
    let queue : c.in_ok-no.unhooked.queue ≡ Some c.in-Some.queue =
    ap (λ (r : Reference). r.queue) (sym c.unhooked.view_is) ∙ c.in-Some.is in
    let step =
    unhook_done c.self.invariant c.args.mutator c.args.reference
    (slot_is_there k.heap c.args.mutator c.args.reference (rw c.objects.ensures at c.in_ok-no.ensures.refused))
    read.0 read.1 queue
    c.in_ok-hold.ensures.answer c.in_ok-hold.ensures.after c.clear-cleared.ensures.after in
    rw (c.new.ensures, ← c.self.view_is) step
