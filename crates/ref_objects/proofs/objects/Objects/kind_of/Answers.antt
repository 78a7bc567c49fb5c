use Rattle.ref_objects.proofs.Common.{arith}
use Rattle.ref_objects.proofs.objects.Objects.kind_of.Goals as goal

pub returns-in-Some : goal.returns-in-Some
returns-in-Some g c = grind arith

pub returns-in-None : goal.returns-in-None
returns-in-None g c = grind arith
