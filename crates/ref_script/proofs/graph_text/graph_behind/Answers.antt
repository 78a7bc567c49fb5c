use Rattle.ref_script.proofs.Common.{◌+◌, [], err_from_is_err_and, Declarations}
use Rattle.ref_script.proofs.LineLemmas.{fails_for}
use Rattle.ref_script.proofs.GraphLines.{has_declared_more, has_declared_all, has_declared_later_fault}
use Rattle.ref_script.proofs.graph_text.graph_behind.Goals as goal

pub returns-in_err-content-clause-fault : goal.returns-in_err-content-clause-fault
returns-in_err-content-clause-fault g c =
    let p = err_from_is_err_and c.from_residual.result c.from_residual.ensures.1 in
    let lines = c.args.lines.now in
    rw (p.1, p.2) (fails_for (Declarations []) (lines.number + 1) lines.lines _
    (has_declared_later_fault lines c.loop-graph.lines c.loop-graph.graph _ c.loop-graph.invariant
    c.in_err-content.ensures.fault))

pub loop-graph-preserved : goal.loop-graph-preserved
loop-graph-preserved g c =
    has_declared_more c.args.lines.now c.loop-graph.lines c.next_told.new.self c.loop-graph.graph c.add_line.new.graph
    c.in-Some.content c.loop-graph.invariant (rw c.in-Some.is at c.in_ok-content.ensures.found)
    c.in_ok-add_line.ensures.ok

pub returns-clause-spelt : goal.returns-clause-spelt
returns-clause-spelt g c =
    (has_declared_all c.args.lines.now c.loop-graph.lines c.next_told.new.self c.loop-graph.graph
    c.loop-graph.invariant (rw c.in_default.is at c.in_ok-content.ensures.found)).0
