use Rattle.ref_clear.proofs.Common.{arith}
use Rattle.ref_clear.proofs.FirstHeaps.{seen_first, first_stands, first_sound}
use Rattle.ref_clear.proofs.heap.Heap.starting.Goals as goal

pub invariant_of-result : goal.invariant_of-result
invariant_of-result g c =
    search (first_sound c.args.config c.args.heap_no c.args.start c.in_ok-marker.ensures.made.1
    c.in_ok-marker.ensures.stands c.in-Ok.ensures.pending c.in-Ok.ensures.condemned)

pub returns-in-Ok-clause-made : goal.returns-in-Ok-clause-made
returns-in-Ok-clause-made g c =
    grind (
      arith,
      seen_first c.args.config c.args.heap_no c.args.start c.in_ok-marker.ensures.made.1
          c.in-Ok.ensures.pending,
    )

pub returns-in-Ok-clause-stands : goal.returns-in-Ok-clause-stands
returns-in-Ok-clause-stands g c = grind (arith, first_stands, returns-in-Ok-clause-made g c)
