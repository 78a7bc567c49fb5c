use Rattle.ref_mark.proofs.MarkerLemmas.{sound_cut_in}
use Rattle.ref_mark.proofs.SettledMoves.{settled_same, space_cut}
use Rattle.ref_mark.proofs.marker.Marker.clear.Goals as goal

pub invariant_of-self : goal.invariant_of-self
invariant_of-self g c = record {
  lists =
      sound_cut_in c.is_past_mark-spare_doomed.result c.args.mutator c.args.reference c.cut_in.result
      c.cut_in.ensures.after c.self.invariant.lists;
  moves = settled_same c.self.inside.objects.space _ _ _
      (space_cut c.self.inside.objects _ c.is_past_mark-spare_doomed.result c.args.mutator c.args.reference
      c.cut_in.result c.cut_in.ensures.after) c.self.invariant.moves;
}
