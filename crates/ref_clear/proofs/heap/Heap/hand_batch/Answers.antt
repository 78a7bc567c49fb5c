use Rattle.ref_clear.proofs.Common.{◌≡◌, ◌≤◌, ◌∙◌, ◌++◌, ◌+◌, ◌-◌, true, refl, sym, ap, arith, length, Some, pending_at}
use Rattle.std.proofs.Common.{◌^◌}
use Rattle.std.proofs.lemmas.Bool.{lt-ltb, leb-true}
use Rattle.ref_base.specs.Refusals.{is_worker}
use Rattle.ref_clear.specs.ClearViews.{front_count}
use Rattle.ref_clear.proofs.HandBatches.{may_hand_on, hands_all, notices_told}
use Rattle.ref_clear.proofs.heap.Heap.hand_batch.Goals as goal

pub hand_each-requires-clause-may : goal.hand_each-requires-clause-may
hand_each-requires-clause-may g c =
    let there : is_worker c.args.self.now.mark.heap c.args.worker ≡ true = grind (arith, lt-ltb) in
    let holds : length c.args.self.now.mark.heap.holds
    + front_count c.in-Some.first c.args.max (pending_at c.args.self.now c.args.worker) ≤ 2 ^ 64 - 1 =
    leb-true _ (2 ^ 64 - 1) (sym c.can_hold.ensures ∙ c.if-not-can_hold.false) in
    may_hand_on c.args.self.now c.args.worker c.args.max c.args.batch.now there c.requires
    (sym c.pending_of.ensures ∙ c.in-Some.is) refl holds

pub returns-clause-does : goal.returns-clause-does
returns-clause-does g c =
    let there : is_worker c.args.self.now.mark.heap c.args.worker ≡ true = grind (arith, lt-ltb) in
    let first = sym c.pending_of.ensures ∙ c.in-Some.is ∙ ap (λ p. Some p) (sym c.first.view_is) in
    let holds = leb-true _ (2 ^ 64 - 1) (sym c.can_hold.ensures ∙ c.if-not-can_hold.false) in
    rw c.hand_each.ensures.after
    (hands_all c.args.self.now c.args.worker c.args.max c.args.batch.now there c.requires first
    (ap (λ p. front_count p c.args.max (pending_at c.args.self.now c.args.worker)) (sym c.first.view_is)) holds
    (rw c.new-numbers.ensures at c.hand_each.ensures.numbers))

pub returns-clause-given : goal.returns-clause-given
returns-clause-given g c =
    let there : is_worker c.args.self.now.mark.heap c.args.worker ≡ true = grind (arith, lt-ltb) in
    let first = sym c.pending_of.ensures ∙ c.in-Some.is ∙ ap (λ p. Some p) (sym c.first.view_is) in
    let holds = leb-true _ (2 ^ 64 - 1) (sym c.can_hold.ensures ∙ c.if-not-can_hold.false) in
    c.hand_each.ensures.given
    ∙ ap (λ held. c.args.batch.now ++ held)
    (notices_told c.args.self.now c.args.worker c.args.max c.args.batch.now there c.requires first
    (ap (λ p. front_count p c.args.max (pending_at c.args.self.now c.args.worker)) (sym c.first.view_is)) holds
    (rw c.new-numbers.ensures at c.hand_each.ensures.numbers) c.args.self.now.mark.heap.no)
