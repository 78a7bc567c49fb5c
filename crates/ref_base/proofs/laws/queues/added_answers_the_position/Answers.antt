use Rattle.ref_base.proofs.AddedRows.{added_position, outs_position}
use Rattle.ref_base.proofs.laws.queues.added_answers_the_position.Goals as goal

pub returns-clause-one : goal.returns-clause-one
returns-clause-one c = added_position

pub returns-clause-all : goal.returns-clause-all
returns-clause-all c = outs_position
