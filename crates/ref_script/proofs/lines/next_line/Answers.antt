use Rattle.ref_script.proofs.Common.{arith}
use Rattle.ref_script.proofs.Cuts.{line_cut, last_cut}
use Rattle.ref_script.proofs.lines.next_line.Goals as goal

pub returns-in-None-clause-lines : goal.returns-in-None-clause-lines
returns-in-None-clause-lines c = grind (arith, last_cut)

pub returns-in-Some-clause-lines : goal.returns-in-Some-clause-lines
returns-in-Some-clause-lines c = grind (arith, line_cut)
