use Rattle.ref_script.proofs.Common.{length}
use Rattle.ref_script.proofs.GraphLines.{HasDeclared}
use Rattle.ref_script.proofs.graph_text.graph_behind.Given as goal

abbrev pub invariant-loop-graph : goal.invariant-loop-graph
invariant-loop-graph g l = HasDeclared l.initial.lines l.lines l.graph

abbrev pub decreases-loop-graph : goal.decreases-loop-graph
decreases-loop-graph g l = length l.lines.lines
