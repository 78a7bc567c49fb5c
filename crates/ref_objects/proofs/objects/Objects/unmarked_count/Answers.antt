use Rattle.ref_objects.proofs.Common.{arith}
use Rattle.ref_space.proofs.MarkCounts.{length-unmarked_of}
use Rattle.ref_objects.proofs.MarkLemmas.{unmarked-tabled}
use Rattle.ref_objects.proofs.objects.Objects.unmarked_count.Goals as goal

pub overflow_sub-result : goal.overflow_sub-result
overflow_sub-result g c = grind (arith, length-unmarked_of c.self.inside.table.round.number c.self.inside.table.tabled)

pub returns : goal.returns
returns g c = grind (arith, length-unmarked_of, unmarked-tabled)
