use Rattle.std.proofs.Common.{arith}
use Rattle.ref_space.proofs.words.parts_of.Goals as goal

pub returns-in-Some-clause-own : goal.returns-in-Some-clause-own
returns-in-Some-clause-own c = grind arith

pub returns-in-Some-clause-all : goal.returns-in-Some-clause-all
returns-in-Some-clause-all c = grind arith

pub returns-in-None-clause-all : goal.returns-in-None-clause-all
returns-in-None-clause-all c = grind arith
