use Rattle.ref_space.proofs.Common.{arith, length-take-le}
use Rattle.std.proofs.Math.Seq.{take-set-lt}
use Rattle.ref_space.proofs.field_words.Words.set.Goals as goal

pub returns-clause-after : goal.returns-clause-after
returns-clause-after c = grind (arith, length-take-le, take-set-lt)
