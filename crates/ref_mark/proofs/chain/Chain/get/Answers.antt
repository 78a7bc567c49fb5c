use Rattle.ref_mark.proofs.Common.{sym, ◌∙◌, arith, eq-eqb}
use Rattle.ref_mark.proofs.ChainLemmas.{listed_at-next, listed_at-none, listed_at-past}
use Rattle.ref_mark.proofs.chain.Chain.get.Goals as goal

pub returns-then-place-config : goal.returns-then-place-config
returns-then-place-config g c = grind (arith, listed_at-past)

pub returns-then-no-eq0 : goal.returns-then-no-eq0
returns-then-no-eq0 g c =
    sym (c.loop-step.invariant ∙ listed_at-none _ _ _ _ _ (eq-eqb c.loop-step.no 0 c.if-no-eq0.true))

pub returns-then-no-eq0-2 : goal.returns-then-no-eq0-2
returns-then-no-eq0-2 g c =
    sym (c.loop-step.invariant ∙ listed_at-none _ _ _ _ _ (eq-eqb c.loop-step.no 0 c.if-no-eq0-2.true))

pub returns-else-no-eq0-2 : goal.returns-else-no-eq0-2
returns-else-no-eq0-2 g c = grind arith

pub loop-step-preserved : goal.loop-step-preserved
loop-step-preserved g c = grind (arith, listed_at-next)
