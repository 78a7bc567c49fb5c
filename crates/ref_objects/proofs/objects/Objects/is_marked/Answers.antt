use Rattle.ref_objects.proofs.Common.{arith}
use Rattle.ref_objects.proofs.MarkLemmas.{has-marked_of}
use Rattle.ref_objects.proofs.objects.Objects.is_marked.Goals as goal

pub returns : goal.returns
returns g c = grind (arith, has-marked_of)
