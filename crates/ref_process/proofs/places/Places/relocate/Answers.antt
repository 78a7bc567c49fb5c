use Rattle.std.proofs.lemmas.List.{length-map}
use Rattle.ref_process.specs.Relocations.{relocated_place}
use Rattle.ref_process.proofs.MovedPlaces.{moved_are_vacant, all_moved}
use Rattle.ref_process.proofs.places.Places.relocate.Goals as goal

pub invariant_of-self : goal.invariant_of-self
invariant_of-self g c =
    let to = g.M.Moves.moved_to c.args.moves.now in
    rw (all_moved to c.self.inside.places.items c.deref_mut.result.now c.relocate_all.new.places
    c.self.inside.places.len c.deref_mut.ensures.value c.relocate_all.ensures c.self.inside.places.ok.0) (
      moved_are_vacant to c.self.inside.places.items c.self.inside.free.items c.self.invariant.0,
      rw (length-map c.self.inside.places.items (relocated_place to)) c.self.invariant.1,
    )
