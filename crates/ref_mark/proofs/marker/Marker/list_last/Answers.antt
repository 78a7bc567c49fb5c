use Rattle.ref_mark.proofs.Common.{◌≡◌, false, ◌==◌, sym, subst, CycleHeap, has, joined}
use Rattle.ref_mark.proofs.MarkerLemmas.{sound_linked, seen_linked}
use Rattle.ref_mark.proofs.marker.Marker.list_last.Goals as goal

pub invariant_of-self : goal.invariant_of-self
invariant_of-self g c = record {
  lists =
      sound_linked c.args.chain.now c.args.no c.push.ensures.links
      (subst (λ (k : CycleHeap). (c.args.chain.now.first == 0) ≡ false → has (joined k.found)
      c.args.chain.now.last ≡ false)
      (sym c.self.view_is) c.requires)
      c.self.invariant.lists;
  moves = rw c.push.ensures.links c.self.invariant.moves;
}

pub returns-clause-links : goal.returns-clause-links
returns-clause-links g c =
    rw (← c.self.view_is)
    (seen_linked c.args.chain.now c.args.no c.push.ensures.links
    (subst (λ (k : CycleHeap). (c.args.chain.now.first == 0) ≡ false → has (joined k.found)
    c.args.chain.now.last ≡ false)
    (sym c.self.view_is) c.requires)
    c.self.invariant.lists c.self.inside.policy c.self.inside.cycle)
