use Rattle.ref_base.proofs.Common.{sym, ap, ◌∙◌, ◌++◌, [], append-nil}
use Rattle.ref_judge.specs.Judged.{Line}
use Rattle.ref_judge.specs.Spreading.{reported_in}
use Rattle.ref_judge.proofs.SpreadLemmas.{shades_item, lines-parts}
use Rattle.ref_judge.proofs.roots.shade_lines.Goals as goal

pub loop-line-preserved : goal.loop-line-preserved
loop-line-preserved g c =
    shades_item reported_in lines-parts _ _ _ _ _ _ c.line-item.result _ _ _ c.loop-line-test.true
    (ap (λ (line : Line). line.stands ++ []) (sym c.line-item.is) ∙ append-nil c.line-item.result.stands)
    c.loop-line.invariant c.shade_line.ensures
