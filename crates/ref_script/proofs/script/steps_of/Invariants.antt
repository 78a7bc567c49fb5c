use Rattle.ref_script.proofs.Common.{length}
use Rattle.ref_script.proofs.ScriptLines.{HasRead}
use Rattle.ref_script.proofs.script.steps_of.Given as goal

abbrev pub invariant-loop-steps : goal.invariant-loop-steps
invariant-loop-steps g l = HasRead l.initial.lines l.lines l.steps.items

abbrev pub decreases-loop-steps : goal.decreases-loop-steps
decreases-loop-steps g l = length l.lines.lines
