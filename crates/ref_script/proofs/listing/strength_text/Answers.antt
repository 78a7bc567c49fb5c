use Rattle.ref_script.proofs.Common.{arith}
use Rattle.ref_script.proofs.listing.strength_text.Goals as goal

pub returns-in-Ok-clause-answer : goal.returns-in-Ok-clause-answer
returns-in-Ok-clause-answer g c = grind arith

pub returns-in-Ok-clause-refused : goal.returns-in-Ok-clause-refused
returns-in-Ok-clause-refused g c = grind arith

pub returns-clause-answer : goal.returns-clause-answer
returns-clause-answer g c = grind arith

pub returns-clause-refused : goal.returns-clause-refused
returns-clause-refused g c = grind arith
