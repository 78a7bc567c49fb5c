use Rattle.ref_space.proofs.Common.{arith, length-take-le}
use Rattle.ref_base.proofs.FilledLemmas.{take-pushed}
use Rattle.ref_space.proofs.fields.Fields.push.Goals as goal

pub returns : goal.returns
returns c = grind (arith, length-take-le, take-pushed)
