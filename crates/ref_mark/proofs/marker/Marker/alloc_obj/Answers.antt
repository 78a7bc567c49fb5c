use Rattle.ref_mark.proofs.Common.{arith, refl, plain_object, nulls}
use Rattle.ref_mark.proofs.MarkerLemmas.{sound_made, young_made, unmarked_next}
use Rattle.ref_mark.proofs.marker.Marker.alloc_obj.Goals as goal

pub invariant_of-self-2 : goal.invariant_of-self-2
invariant_of-self-2 g c = record {
  lists =
      sound_made c.args.mutator c.args.into (plain_object c.self.inside.objects.next (nulls c.args.fields)) refl
      c.in_ok-no.ensures.after c.self.invariant.lists c.known-2.ensures;
  moves = rw c.in_ok-no.ensures.after c.self.invariant.moves;
}

pub returns : goal.returns
returns g c =
    let young =
    young_made c.args.mutator c.args.into (plain_object c.self.inside.objects.next (nulls c.args.fields)) refl
    c.in_ok-no.ensures.after c.self.invariant.lists c.self.inside.policy c.self.inside.cycle
    (unmarked_next c.self.inside.objects c.known.ensures) in
    grind arith
