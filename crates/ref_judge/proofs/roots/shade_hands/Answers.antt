use Rattle.ref_base.proofs.Common.{sym, ap, ◌∙◌, ◌++◌, [], append-nil}
use Rattle.ref_judge.specs.Spreading.{reported_by}
use Rattle.ref_judge.specs.declared.hand.Hand.{Hand}
use Rattle.ref_judge.proofs.SpreadLemmas.{shades_item, hands-parts}
use Rattle.ref_judge.proofs.roots.shade_hands.Goals as goal

pub loop-hand-preserved : goal.loop-hand-preserved
loop-hand-preserved g c =
    shades_item reported_by hands-parts _ _ _ _ _ _ c.hand-item.result _ _ _ c.loop-hand-test.true
    (ap (λ (hand : Hand). hand.objects ++ []) (sym c.hand-item.is) ∙ append-nil c.hand-item.result.objects
    ∙ sym c.as_slice.ensures.numbers) c.loop-hand.invariant c.shade_each.ensures
