use Rattle.ref_objects.proofs.Common.{arith}
use Rattle.ref_objects.proofs.MarkLemmas.{is_unmarked-tabled}
use Rattle.ref_objects.proofs.objects.Objects.is_unmarked.Goals as goal

pub returns : goal.returns
returns g c = grind (arith, is_unmarked-tabled)
