use Rattle.ref_mark.proofs.Common.{Some}
use Rattle.ref_mark.proofs.MarkerLemmas.{sound_marked}
use Rattle.ref_mark.proofs.SettledMoves.{settled_same, space_marked}
use Rattle.ref_mark.proofs.marker.Marker.make_young.Goals as goal

pub invariant_of-self : goal.invariant_of-self
invariant_of-self g c = record {
  lists = sound_marked (Some c.args.no) c.mark.ensures.after c.self.invariant.lists c.known.ensures;
  moves = settled_same c.self.inside.objects.space _ _ _
      (space_marked c.self.inside.objects _ (Some c.args.no) c.mark.ensures.after) c.self.invariant.moves;
}
