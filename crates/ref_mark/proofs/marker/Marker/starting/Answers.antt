use Rattle.ref_mark.proofs.Common.{arith}
use Rattle.ref_mark.proofs.MarkerLemmas.{sound_first, seen_first}
use Rattle.ref_mark.proofs.FirstStates.{first_stands}
use Rattle.ref_mark.proofs.marker.Marker.starting.Goals as goal

pub invariant_of-result : goal.invariant_of-result
invariant_of-result g c = grind (arith, sound_first c.args.config c.args.heap_no c.args.start)

pub returns-in-Ok-clause-made : goal.returns-in-Ok-clause-made
returns-in-Ok-clause-made g c =
    grind (
      arith,
      seen_first c.args.config c.args.heap_no c.args.start c.first_policy.ensures
          c.in_ok-objects.ensures.1 c.in-Ok.ensures.grey c.in-Ok.ensures.found,
    )

pub returns-in-Ok-clause-stands : goal.returns-in-Ok-clause-stands
returns-in-Ok-clause-stands g c =
    rw (returns-in-Ok-clause-made g c).1 (first_stands c.args.config c.args.heap_no c.args.start)
