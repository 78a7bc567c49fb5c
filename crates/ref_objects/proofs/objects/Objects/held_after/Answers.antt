use Rattle.ref_objects.proofs.Common.{◌+◌, arith}
use Rattle.ref_objects.proofs.GroundLemmas.{least_from-past}
use Rattle.ref_objects.proofs.objects.Objects.held_after.Goals as goal

pub returns-in-None : goal.returns-in-None
returns-in-None g c =
    grind (
      arith,
      least_from-past c.self.inside.table.tabled c.self.inside.table.last (c.args.no + 1)
          c.known.ensures.orderly.given,
    )
