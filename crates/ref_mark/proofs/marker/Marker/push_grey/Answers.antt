use Rattle.ref_mark.proofs.Common.{sym, subst, CycleHeap, MayGrey}
use Rattle.ref_mark.proofs.MarkerLemmas.{grey_has_room, sound_greyed}
use Rattle.ref_mark.proofs.marker.Marker.push_grey.Goals as goal

pub push-requires : goal.push-requires
push-requires g c =
    grey_has_room c.args.entry.no (subst (λ (k : CycleHeap). MayGrey k c.args.entry.no) (sym c.self.view_is) c.requires)
    c.self.invariant.lists

pub invariant_of-self : goal.invariant_of-self
invariant_of-self g c = record {
  lists =
      sound_greyed c.args.entry.no (subst (λ (k : CycleHeap). MayGrey k c.args.entry.no) (sym c.self.view_is)
      c.requires) c.self.invariant.lists c.push.ensures;
  moves = c.self.invariant.moves;
}
