use Rattle.ref_objects.proofs.Common.{arith}
use Rattle.ref_objects.proofs.NumberLemmas.{least_where}
use Rattle.ref_space.proofs.TableReads.{numbers-all}
use Rattle.ref_objects.proofs.objects.Objects.first_from.Goals as goal

pub returns : goal.returns
returns g c = grind (arith, least_where, numbers-all c.self.inside.table.tabled)
