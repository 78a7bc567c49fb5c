use Rattle.std.proofs.Common.{arith, ◌+◌}
use Rattle.ref_base.proofs.Common.{numbers}
use Rattle.ref_judge.proofs.ObjectWalks.{none_behind}
use Rattle.ref_judge.proofs.survivors.next_object.Goals as goal

pub returns-in-None : goal.returns-in-None
returns-in-None g c =
    grind (
      arith,
      c.requires.few,
      none_behind (numbers c.args.objects.now.heap.objects) (c.args.no + 1),
    )
