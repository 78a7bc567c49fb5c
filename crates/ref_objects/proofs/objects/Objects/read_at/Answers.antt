use Rattle.ref_objects.proofs.Common.{arith}
use Rattle.ref_objects.proofs.objects.Objects.read_at.Goals as goal

pub returns-then-refers_to_unmarked_at : goal.returns-then-refers_to_unmarked_at
returns-then-refers_to_unmarked_at g c = grind arith

pub returns-else-hide_unmarked : goal.returns-else-hide_unmarked
returns-else-hide_unmarked g c = grind arith
