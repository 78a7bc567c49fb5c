use Rattle.ref_mark.proofs.Common.{CycleHeap, MayFind, is_white, seen_marker, sym, subst, refers_into, reference_at}
use Rattle.ref_mark.proofs.Common.{◌≡◌, true}
use Rattle.ref_mark.proofs.MarkerLemmas.{may_find, referring_is_there, tagged_if_there, sound_found, seen_found}
use Rattle.ref_mark.proofs.marker.Marker.list_found.Goals as goal

pub invariant_of-self : goal.invariant_of-self
invariant_of-self g c =
    let k : CycleHeap = seen_marker c.self.inside.objects c.self.inside.grey c.self.inside.found.items
    c.self.inside.phase c.self.inside.policy c.self.inside.cycle in
    let asks : MayFind k c.worker.inside.0 c.args.no =
    may_find c.args.no c.self.view_is c.worker.view_is c.requires.may in
    let white : refers_into (is_white k) (reference_at k.heap c.args.no) ≡ true =
    subst (λ (j : CycleHeap). refers_into (is_white j) (reference_at j.heap c.args.no) ≡ true) (sym c.self.view_is)
    c.requires.white in
    record {
      lists =
          sound_found c.worker.inside.0 c.args.no asks.worker c.index.ensures
          (tagged_if_there _ c.args.no c.known.ensures (referring_is_there (is_white k) k.heap c.args.no white))
          asks.going asks.marked asks.black asks.new c.push_near.ensures.links c.push_near.ensures.chain
          c.self.invariant.lists;
      moves = rw c.push_near.ensures.links c.self.invariant.moves;
    }

pub returns : goal.returns
returns g c =
    let k : CycleHeap = seen_marker c.self.inside.objects c.self.inside.grey c.self.inside.found.items
    c.self.inside.phase c.self.inside.policy c.self.inside.cycle in
    let asks : MayFind k c.worker.inside.0 c.args.no =
    may_find c.args.no c.self.view_is c.worker.view_is c.requires.may in
    let white : refers_into (is_white k) (reference_at k.heap c.args.no) ≡ true =
    subst (λ (j : CycleHeap). refers_into (is_white j) (reference_at j.heap c.args.no) ≡ true) (sym c.self.view_is)
    c.requires.white in
    rw (← c.self.view_is, ← c.worker.view_is)
    (seen_found c.worker.inside.0 c.args.no asks.worker c.index.ensures
    (tagged_if_there _ c.args.no c.known.ensures (referring_is_there (is_white k) k.heap c.args.no white)) asks.going
    asks.marked asks.black asks.new c.push_near.ensures.links c.push_near.ensures.chain c.self.invariant.lists
    c.self.inside.policy c.self.inside.cycle white)
