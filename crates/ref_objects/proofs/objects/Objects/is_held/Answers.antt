use Rattle.ref_objects.proofs.Common.{arith}
use Rattle.ref_objects.proofs.GroundLemmas.{has-holds_of}
use Rattle.ref_objects.proofs.objects.Objects.is_held.Goals as goal

pub returns : goal.returns
returns g c = grind (arith, has-holds_of)
