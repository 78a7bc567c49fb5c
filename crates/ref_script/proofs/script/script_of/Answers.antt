use Rattle.ref_script.proofs.Common.{arith, err_from_is_err_and}
use Rattle.ref_script.proofs.LineLemmas.{fails_for}
use Rattle.ref_script.proofs.ScriptLines.{behind_configuration}
use Rattle.ref_script.proofs.script.script_of.Goals as goal

pub returns-in_err-line-clause-fault : goal.returns-in_err-line-clause-fault
returns-in_err-line-clause-fault g c = grind (arith, fails_for)

pub returns-in_err-line-2-clause-fault : goal.returns-in_err-line-2-clause-fault
returns-in_err-line-2-clause-fault g c = grind (arith, fails_for)

pub returns-in_err-steps-clause-fault : goal.returns-in_err-steps-clause-fault
returns-in_err-steps-clause-fault g c =
    let p = err_from_is_err_and c.from_residual-in_err-steps.result c.from_residual-in_err-steps.ensures.1 in
    let fault_is = behind_configuration c.of-lines.result c.next_told.new.self c.next_told-2.new.self c.in-Some.line
    c.in-Some-2.line c.in-Some-header_rule.rule c.in-Some-config_of.config
    (rw c.in-Some.is at c.in_ok-line.ensures.found) (grind arith) (rw c.in-Some-2.is at c.in_ok-line-2.ensures.found)
    (grind arith) (grind arith) in
    rw (p.1, p.2, (rw c.of-lines.ensures at fault_is)) c.in_err-steps.ensures.fault
