use Rattle.ref_mark.proofs.Common.{arith}
use Rattle.ref_mark.proofs.MarkerLemmas.{condemned_swept, sound_freed, seen_freed}
use Rattle.ref_mark.proofs.SettledMoves.{settled_freed}
use Rattle.ref_mark.proofs.marker.Marker.free.Goals as goal

pub invariant_of-self : goal.invariant_of-self
invariant_of-self g c = record {
  lists = sound_freed c.args.entry.no c.known.ensures c.free.ensures.after c.self.invariant.lists;
  moves = settled_freed c.self.inside.objects _ c.args.entry.no _ _ c.free.ensures.after c.self.invariant.moves;
}

pub returns-clause-answer : goal.returns-clause-answer
returns-clause-answer g c =
    grind (
      arith,
      condemned_swept c.self.inside.objects c.self.inside.grey c.self.inside.found.items c.self.inside.phase
          c.self.inside.policy c.self.inside.cycle c.args.entry.no c.known.ensures c.self.invariant.lists,
    )

pub returns-clause-after : goal.returns-clause-after
returns-clause-after g c =
    rw (← c.self.view_is)
    (seen_freed c.args.entry.no c.known.ensures c.free.ensures.after c.self.invariant.lists c.self.inside.policy
    c.self.inside.cycle)
