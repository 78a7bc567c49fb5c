use Rattle.std.proofs.Common.{length}
use Rattle.ref_c.proofs.list.+list_objects.Given as goal

abbrev pub decreases-list_objects : goal.decreases-list_objects
decreases-list_objects l = length l.objects.now
