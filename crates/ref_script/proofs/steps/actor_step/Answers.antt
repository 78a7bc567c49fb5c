use Rattle.ref_script.proofs.Common.{rules, words_of}
use Rattle.ref_script.proofs.OperandReads.{actor_read}
use Rattle.ref_script.proofs.steps.actor_step.Goals as goal

pub returns : goal.returns
returns c =
    actor_read c.end.result c.in-Some.step c.in_ok-letter.letter.now c.of_actor-number.result.0 c.args.actor.now
    c.in_ok-letter.number.now c.in_ok-name.name.now (words_of c.args.rest.now) (words_of c.in_ok-name.rest.now) _ _
    (search rules) (search rules) c.of_actor-number.ensures c.in-Some.ensures c.end.ensures
