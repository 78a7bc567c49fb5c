use Rattle.ref_mark.proofs.Common.{arith, refl, Object, new_reference, slot_at}
use Rattle.ref_mark.proofs.MarkerLemmas.{sound_made, young_made, unmarked_next}
use Rattle.ref_mark.proofs.marker.Marker.alloc_ref.Goals as goal

pub invariant_of-self-2 : goal.invariant_of-self-2
invariant_of-self-2 g c =
    let o : Object =
    new_reference c.self.inside.objects.heap c.self.inside.objects.next c.args.strength
    (slot_at c.self.inside.objects.heap c.args.mutator c.args.from) c.args.queue c.args.fields in
    record {
      lists =
          sound_made c.args.mutator c.args.into o refl c.in_ok-no.ensures.after c.self.invariant.lists
          c.known-2.ensures;
      moves = rw c.in_ok-no.ensures.after c.self.invariant.moves;
    }

pub returns : goal.returns
returns g c =
    let o : Object =
    new_reference c.self.inside.objects.heap c.self.inside.objects.next c.args.strength
    (slot_at c.self.inside.objects.heap c.args.mutator c.args.from) c.args.queue c.args.fields in
    let young =
    young_made c.args.mutator c.args.into o refl c.in_ok-no.ensures.after c.self.invariant.lists c.self.inside.policy
    c.self.inside.cycle (unmarked_next c.self.inside.objects c.known.ensures) in
    grind arith
