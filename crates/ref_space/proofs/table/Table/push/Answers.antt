use Rattle.ref_space.proofs.ReadLemmas.{sound_unread, seen_read}
use Rattle.ref_space.specs.Tables.{with_none_read}
use Rattle.ref_space.specs.Moves.{ways_of}
use Rattle.ref_space.proofs.Common.{with_tabled}
use Rattle.ref_space.proofs.Common.{◌∙◌, arith, made_entry}
use Rattle.ref_space.proofs.PushLemmas.{has_cell, can_make, CanMake, seen_made, sound_made}
use Rattle.ref_space.proofs.CellChanges.{marks_fit}
use Rattle.ref_space.proofs.Common.{ap, refl, Table, leads_by, target_of, occupants_of, option_map, referent_of}
use Rattle.ref_space.proofs.Common.{true}
use Rattle.ref_space.specs.Tables.{made_of}
use Rattle.ref_space.proofs.PushLemmas.{entry-named, made_held, made_marked}
use Rattle.ref_space.specs.Naming.{IsHeldIn}
use Rattle.ref_space.proofs.Common.{sym, from_bool}
use Rattle.ref_space.proofs.CellChanges.{round_seen}
use Rattle.ref_space.proofs.table.Table.push.Given.{Over}
use Rattle.ref_space.proofs.table.Table.push.Goals.{After-unwrap-page}
use Rattle.ref_space.specs.Tables.{left_of}
use Rattle.ref_space.proofs.BroughtLemmas.{left_made}
use Rattle.ref_space.proofs.table.Table.push.Goals as goal

-- an object may be made once its place was taken
can : (g : Over) (c : After-unwrap-page g)
    → CanMake c.self.inside.cells.items c.self.inside.index.items c.make_room.new.index.items
    (ways_of c.self.inside.pages c.self.inside.forwards.items c.self.inside.last_good c.self.inside.is_tuned)
    (ways_of c.place.new.self c.self.inside.forwards.items c.self.inside.last_good c.self.inside.is_tuned)
    c.self.inside.last c.self.inside.room c.unwrap-page.result
can g c =
    can_make c.self.invariant c.self.view_is c.requires.room c.deref.ensures.value
    (c.len.ensures ∙ c.self.inside.cells.ok.0) c.make_room.ensures.entries c.place.ensures.answer
    (ap (λ ps. ways_of ps c.self.inside.forwards.items c.self.inside.last_good c.self.inside.is_tuned)
    c.place.ensures.after)
    c.unwrap-page.ensures

pub unwrap-page-requires : goal.unwrap-page-requires
unwrap-page-requires g c = grind (arith, has_cell c.self.invariant c.self.view_is c.requires.room)

pub overflow_mul-place : goal.overflow_mul-place
overflow_mul-place g c = omega (arith, (can g c).taken.within, c.self.invariant.0.placed.small)

pub overflow_add-place : goal.overflow_add-place
overflow_add-place g c = omega (arith, (can g c).taken.within, c.self.invariant.0.placed.small)

pub index_mut-requires : goal.index_mut-requires
index_mut-requires g c =
    let within = (can g (goal.at.index_mut-requires g c).After-unwrap-page).taken.within in
    omega (arith, c.self.inside.cells.ok.0, within)

pub overflow_cast-place-2 : goal.overflow_cast-place-2
overflow_cast-place-2 g c =
    let within = (can g (goal.at.overflow_cast-place-2 g c).After-unwrap-page).taken.within in
    omega (arith, within, c.self.invariant.0.placed.small)

pub overflow_cast-place-3 : goal.overflow_cast-place-3
overflow_cast-place-3 g c =
    let within = (can g (goal.at.overflow_cast-place-3 g c).After-unwrap-page).taken.within in
    omega (arith, within, c.self.invariant.0.placed.small)

pub push_reserved-requires : goal.push_reserved-requires
push_reserved-requires g c =
    let room = (can g (goal.at.push_reserved-requires g c).After-unwrap-page).closed.room in
    omega (arith, c.make_room.new.index.ok.0, c.self.invariant.0.index_fits, c.make_room.ensures.capacity, room)

pub overflow_add-self-2 : goal.overflow_add-self-2
overflow_add-self-2 g c = omega (arith, marks_fit c.self.invariant.0 c.args.marked c.from.ensures)

-- what the new cell holds leads to objects, and is by number what it is made of
holds : (g : Over) (c : After-unwrap-page g)
    → IsHeldIn c.self.inside.round.number
    (leads_by c.self.inside.round.good (ways_of c.self.inside.pages c.self.inside.forwards.items c.self.inside.last_good
    c.self.inside.is_tuned) (occupants_of c.self.inside.cells.items))
    (made_entry c.self.inside.round.number c.args.no c.args.count c.kept_of_new-kept.result c.args.marked)
holds g c =
    made_held c.self.inside.round.number c.self.inside.round.good
    (ways_of c.self.inside.pages c.self.inside.forwards.items c.self.inside.last_good c.self.inside.is_tuned)
    (occupants_of c.self.inside.cells.items) c.args.no c.args.count c.kept_of_new-kept.result c.args.marked
    (ap (λ (t : Table). leads_by t.round.good t.ways t.occupants true (referent_of c.kept_of_new-kept.result))
    c.self.view_is
    ∙ c.kept_of_new-kept.ensures.healed)

pub invariant_of-self : goal.invariant_of-self
invariant_of-self g c =
    sound_made (sound_unread c.self.invariant c.nothing_read.ensures)
    (seen_read c.self.invariant c.self.view_is c.nothing_read.ensures)
    (can g (goal.at.invariant_of-self g c).After-unwrap-page)
    (made_entry c.self.inside.round.number c.args.no c.args.count c.kept_of_new-kept.result c.args.marked)
    c.requires.rises c.occupy.ensures
    c.push_reserved.ensures.items (holds g (goal.at.invariant_of-self g c).After-unwrap-page) c.args.into
    c.of_place.ensures c.nothing_read.ensures
    (omega (arith, c.make_room.ensures.capacity, c.push_reserved.ensures.capacity))
    (c.from.ensures
    ∙ ap from_bool (sym (made_marked c.self.inside.round.number c.args.no c.args.count c.kept_of_new-kept.result
    c.args.marked c.self.invariant.1.begun)))

pub returns : goal.returns
returns g c =
    let made =
    seen_made (sound_unread c.self.invariant c.nothing_read.ensures)
    (seen_read c.self.invariant c.self.view_is c.nothing_read.ensures) (can g (goal.at.returns g c).After-unwrap-page)
    (made_entry c.self.inside.round.number c.args.no c.args.count c.kept_of_new-kept.result c.args.marked)
    c.requires.rises c.occupy.ensures
    c.push_reserved.ensures.items (holds g (goal.at.returns g c).After-unwrap-page) c.args.into
    c.of_place.ensures
    (option_map (made_of c.args.self.now.slots) c.args.reference) c.args.count c.args.marked
    (entry-named (target_of c.args.self.now) refl c.self.inside.round.number c.args.no c.args.count c.args.marked
    c.kept_of_new-kept.result c.kept_of_new-kept.ensures.named)
    ∙ ap (λ r. with_tabled (with_none_read c.args.self.now) c.args.into (made_entry r c.args.no c.args.count
    (option_map (made_of c.args.self.now.slots) c.args.reference) c.args.marked)) (sym
    (round_seen c.self.invariant c.self.view_is))
    in
    record {
      after = made;
      left = ap left_of made
          ∙ left_made c.self.invariant c.self.view_is c.args.into
          (made_entry c.args.self.now.round.number c.args.no c.args.count
          (option_map (made_of c.args.self.now.slots) c.args.reference) c.args.marked)
          c.unwrap-page.result
          (can g (goal.at.returns g c).After-unwrap-page).next;
    }
