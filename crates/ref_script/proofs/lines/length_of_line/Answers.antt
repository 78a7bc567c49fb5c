use Rattle.ref_script.proofs.FirstBytes.{found_behind, all_before}
use Rattle.ref_script.proofs.lines.length_of_line.Goals as goal

pub returns-in-Some-clause-length : goal.returns-in-Some-clause-length
returns-in-Some-clause-length c = found_behind 10 c.args.text.now c.in-Some.length c.in-Some.ensures

pub returns-in-None-clause-length : goal.returns-in-None-clause-length
returns-in-None-clause-length c = all_before 10 c.args.text.now c.in-None.ensures
