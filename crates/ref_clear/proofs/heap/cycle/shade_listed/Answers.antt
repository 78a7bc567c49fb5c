use Rattle.ref_clear.proofs.Common.{arith, eq-eqb}
use Rattle.ref_clear.proofs.ShadedLists.{shading_more, shading_done}
use Rattle.ref_clear.proofs.heap.cycle.shade_listed.Goals as goal

pub loop-step-init : goal.loop-step-init
loop-step-init g c = grind arith

pub loop-step-preserved : goal.loop-step-preserved
loop-step-preserved g c = grind (arith, shading_more)

pub returns-then-next-eq0 : goal.returns-then-next-eq0
returns-then-next-eq0 g c =
    shading_done _ _ _ _ _ (eq-eqb c.loop-step.next 0 c.if-next-eq0.true) c.loop-step.invariant

pub returns : goal.returns
returns g c = grind arith
