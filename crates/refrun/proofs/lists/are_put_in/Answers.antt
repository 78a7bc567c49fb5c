use Rattle.refrun.proofs.Common.{◌≡◌, true, refl, sym, ap, ◌∙◌, take_all, arith, has}
use Rattle.ref_base.proofs.HasLaws.{has-list_any}
use Rattle.refrun.proofs.ListChecks.{not_so}
use Rattle.refrun.proofs.NoEvidence.{next_of_all, next_list_of_all}
use Rattle.refrun.proofs.Reports.{all_looked_at, one_missing}
use Rattle.refrun.proofs.lists.are_put_in.Goals as goal

pub loop-number-preserved : goal.loop-number-preserved
loop-number-preserved g c =
    let n = c.number-item.result in
    next_of_all c.deref-number-items.result.now c.loop-number.number-index n (omega arith) c.number-item.is
    (λ m. has c.args.enqueued.now m ≡ true) c.loop-number.invariant
    (sym (c.in_ok-reported.ensures.answer n) ∙ has-list_any c.in_ok-reported.reported.keys n ∙ sym c.contains.ensures
    ∙ c.if-not-contains.false)

pub loop-list-preserved : goal.loop-list-preserved
loop-list-preserved g c =
    let ns = c.deref-number-items.result.now in
    next_list_of_all (λ v. v.items) c.args.kept.now c.loop-list.list-index c.list-item.result ns (omega arith)
    c.list-item.is c.deref-number-items.ensures.value (λ n. has c.args.enqueued.now n ≡ true) c.loop-list.invariant
    (λ n there. c.loop-number.invariant n
    (ap (λ l. has l n) (take_all c.loop-number.number-index ns c.loop-number-test.false) ∙ there))

pub returns-then-not-contains-clause-answer : goal.returns-then-not-contains-clause-answer
returns-then-not-contains-clause-answer g c =
    let n = c.number-item.result in
    not_so (one_missing (λ v. v.items) c.args.kept.now c.args.enqueued.now c.loop-list.list-index c.list-item.result
    c.deref-number-items.result.now (omega arith) c.list-item.is c.deref-number-items.ensures.value
    c.loop-number.number-index n (omega arith) c.number-item.is
    (sym (c.in_ok-reported.ensures.answer n) ∙ has-list_any c.in_ok-reported.reported.keys n ∙ sym c.contains.ensures
    ∙ c.if-not-contains.true))

pub returns-clause-answer : goal.returns-clause-answer
returns-clause-answer g c = (
  λ holds. all_looked_at (λ v. v.items) c.args.kept.now c.args.enqueued.now c.loop-list.list-index
      c.loop-list-test.false c.loop-list.invariant,
  λ all. refl,
)
