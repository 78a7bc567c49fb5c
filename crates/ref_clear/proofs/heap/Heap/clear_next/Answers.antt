use Rattle.ref_clear.proofs.Common.{arith, is_some, sym, ap, ◌∙◌, Reference}
use Rattle.ref_clear.proofs.ChainedLooks.{sound_none, sound_plain, sound_skipped, sound_kept, sound_cut, sound_pended}
use Rattle.ref_clear.proofs.ChainedLooks.{look_within, last_apart, answers_cleared, seen_cut, seen_pended}
use Rattle.ref_clear.proofs.heap.Heap.clear_next.Goals.{then-is_some, else-is_some}
use Rattle.ref_clear.proofs.heap.Heap.clear_next.Goals as goal

pub invariant_of-self-in_default : goal.invariant_of-self-in_default
invariant_of-self-in_default g c = grind (arith, sound_none c.args.worker c.in_ok-look.ensures.refused c.self.invariant)

pub invariant_of-self-in_default-reference : goal.invariant_of-self-in_default-reference
invariant_of-self-in_default-reference g c =
    sound_plain c.args.worker c.in_ok-look.ensures.refused c.self.invariant
    (sym c.in-Some.is ∙ c.in_ok-look.ensures.answer) (grind arith) c.in_ok-look.ensures.after

pub invariant_of-self-then-is_none : goal.invariant_of-self-then-is_none
invariant_of-self-then-is_none g c =
    sound_skipped c.args.worker c.in_ok-look.ensures.refused c.self.invariant
    (sym c.in-Some.is ∙ c.in_ok-look.ensures.answer) c.in-Some-reference.is (grind arith) c.in_ok-look.ensures.after

pub invariant_of-self-then-not-is_cleared : goal.invariant_of-self-then-not-is_cleared
invariant_of-self-then-not-is_cleared g c =
    sound_kept c.args.worker c.in_ok-look.ensures.refused c.self.invariant
    (sym c.in-Some.is ∙ c.in_ok-look.ensures.answer) c.if-not-is_cleared.true c.in_ok-look.ensures.after

pub index-requires : goal.index-requires
index-requires g c = grind (arith, look_within c.args.worker c.in_ok-look.ensures.refused c.self.invariant)

pub index_mut-requires : goal.index_mut-requires
index_mut-requires g c = grind (arith, look_within c.args.worker c.in_ok-look.ensures.refused c.self.invariant)

pub list_last-requires : goal.list_last-requires
list_last-requires g c full = grind (arith, last_apart c.args.worker c.in_ok-look.ensures.refused c.self.invariant)

pub invariant_of-self-then-is_some : goal.invariant_of-self-then-is_some
invariant_of-self-then-is_some g c =
    rw c.worker.view_is
    (sound_pended c.args.worker c.in_ok-look.ensures.refused c.self.invariant
    (sym c.in-Some.is ∙ c.in_ok-look.ensures.answer) c.if-not-is_cleared.false
    (rw c.worker.view_is at c.index.ensures) c.in-Some-reference.is
    (ap (λ (r : Reference). is_some r.queue) (sym c.reference.view_is) ∙ sym c.is_some.ensures ∙ c.if-is_some.true)
    c.objects.ensures c.known.ensures c.in_ok-look.ensures.numbered c.in_ok-look.ensures.after
    c.list_last.ensures.links c.list_last.ensures.chain)

pub invariant_of-self-else-is_some : goal.invariant_of-self-else-is_some
invariant_of-self-else-is_some g c =
    sound_cut c.args.worker c.in_ok-look.ensures.refused c.self.invariant
    (sym c.in-Some.is ∙ c.in_ok-look.ensures.answer) c.if-not-is_cleared.false c.in-Some-reference.is
    (ap (λ (r : Reference). is_some r.queue) (sym c.reference.view_is) ∙ sym c.is_some.ensures ∙ c.if-is_some.false)
    c.in_ok-look.ensures.after

pub returns : goal.returns
returns g c =
    let told = sym c.in-Some.is ∙ c.in_ok-look.ensures.answer in
    let queue = ap (λ (r : Reference). is_some r.queue) (sym c.reference.view_is) ∙ sym c.is_some.ensures in
    let answer =
    answers_cleared c.args.worker c.in_ok-look.ensures.refused c.self.invariant told c.if-not-is_cleared.false in
    elim c.if-is_some.branch [
      | then-is_some w ↦
          let after =
          seen_pended c.args.worker c.in_ok-look.ensures.refused c.self.invariant told c.if-not-is_cleared.false
          (rw c.worker.view_is at w.index.ensures) c.in-Some-reference.is (queue ∙ w.if-is_some.true)
          c.objects.ensures c.known.ensures c.in_ok-look.ensures.numbered c.in_ok-look.ensures.after
          w.list_last.ensures.links w.list_last.ensures.chain in
          rw (w.self-is, ← c.self.view_is, c.worker.view_is) (record { answer = answer; after = after })
      | else-is_some w ↦
          let after =
          seen_cut c.args.worker c.in_ok-look.ensures.refused c.self.invariant told c.if-not-is_cleared.false
          c.in-Some-reference.is (queue ∙ w.if-is_some.false) c.in_ok-look.ensures.after in
          rw (w.self-is, ← c.self.view_is) (record { answer = answer; after = after })
    ]
