use Rattle.ref_space.proofs.Common.{arith}
use Rattle.ref_space.proofs.ReadLemmas.{sound_unread, seen_read}
use Rattle.ref_space.specs.Moves.{ways_of}
use Rattle.ref_space.proofs.Common.{refl, ◌∙◌, ap, leads_by, target_by, occupants_of}
use Rattle.ref_space.proofs.Common.{on_object, with_field, has_field, target_of}
use Rattle.ref_space.proofs.ReadCells.{sound_then}
use Rattle.ref_space.proofs.CellChanges.{left_there, left_led_nowhere, answered_there}
use Rattle.ref_space.proofs.CellChanges.{answered_led_nowhere}
use Rattle.ref_space.proofs.CellChanges.{has_field-named, field-named, field_leads, led_place, tabled_here}
use Rattle.ref_space.proofs.CellChanges.{changed_here}
use Rattle.ref_space.proofs.CellChanges.{leads_seen, named_seen}
use Rattle.ref_space.proofs.table.Table.set_field.Goals as goal

pub invariant_of-self : goal.invariant_of-self
invariant_of-self g c =
    sound_then c.self.invariant
    (led_place c.self.invariant c.args.object c.self.view_is c.deref.ensures.value c.deref-2.ensures.value
    c.in-Some.ensures)
    (on_object (with_field c.args.field c.args.value)) (λ k. refl)
    c.index_mut.ensures.value c.set_field.ensures.after
    (field_leads c.self.inside.round.number (leads_by c.self.inside.round.good
    (ways_of c.self.inside.pages c.self.inside.forwards.items c.self.inside.last_good c.self.inside.is_tuned)
    (occupants_of c.self.inside.cells.items)) c.args.field c.args.value
    (leads_seen c.self.invariant c.args.value c.self.view_is c.requires)) (λ k. refl) c.nothing_read.ensures

pub returns-in-Some-clause-there : goal.returns-in-Some-clause-there
returns-in-Some-clause-there g c =
    answered_there c.self.invariant
    (led_place c.self.invariant c.args.object c.self.view_is c.deref.ensures.value c.deref-2.ensures.value
    c.in-Some.ensures)
    c.self.view_is (λ k. has_field k c.args.field) (has_field-named c.args.field) c.index_mut.ensures.value
    c.set_field.ensures.there
    ∙ ap (λ k. has_field k c.args.field)
    (tabled_here c.self.invariant c.args.object c.self.view_is c.deref.ensures.value c.deref-2.ensures.value
    c.in-Some.ensures)

pub returns-in-Some-clause-after : goal.returns-in-Some-clause-after
returns-in-Some-clause-after g c =
    let name = (target_by (ways_of c.self.inside.pages c.self.inside.forwards.items c.self.inside.last_good
    c.self.inside.is_tuned) (occupants_of c.self.inside.cells.items)) in
    left_there (sound_unread c.self.invariant c.nothing_read.ensures)
    (led_place (sound_unread c.self.invariant c.nothing_read.ensures) c.args.object
    (seen_read c.self.invariant c.self.view_is c.nothing_read.ensures) c.deref.ensures.value c.deref-2.ensures.value
    c.in-Some.ensures)
    (on_object (with_field c.args.field c.args.value)) (on_object (with_field c.args.field (name c.args.value)))
    (λ k. refl) c.index_mut.ensures.value c.set_field.ensures.after
    (seen_read c.self.invariant c.self.view_is c.nothing_read.ensures)
    (field-named name c.args.field c.args.value)
    ∙ changed_here (sound_unread c.self.invariant c.nothing_read.ensures) c.args.object
    (seen_read c.self.invariant c.self.view_is c.nothing_read.ensures) c.deref.ensures.value c.deref-2.ensures.value
    c.in-Some.ensures
    (on_object (with_field c.args.field (name c.args.value)))
    ∙ rw (named_seen (sound_unread c.self.invariant c.nothing_read.ensures) c.args.value
    (seen_read c.self.invariant c.self.view_is c.nothing_read.ensures)) refl

pub returns-in-None-clause-there : goal.returns-in-None-clause-there
returns-in-None-clause-there g c =
    answered_led_nowhere c.self.invariant c.args.object c.self.view_is c.deref.ensures.value c.deref-2.ensures.value
    c.in-None.ensures
    (λ k. has_field k c.args.field)

pub returns-in-None-clause-after : goal.returns-in-None-clause-after
returns-in-None-clause-after g c =
    seen_read c.self.invariant c.self.view_is c.nothing_read.ensures
    ∙ left_led_nowhere (sound_unread c.self.invariant c.nothing_read.ensures) c.args.object
    (seen_read c.self.invariant c.self.view_is c.nothing_read.ensures) c.deref.ensures.value c.deref-2.ensures.value
    c.in-None.ensures
    (on_object (with_field c.args.field (target_of c.args.self.now c.args.value)))

pub index_mut-requires : goal.index_mut-requires
index_mut-requires g c =
    let place = led_place c.self.invariant c.args.object c.self.view_is c.deref.ensures.value c.deref-2.ensures.value
    c.in-Some.ensures in
    omega (arith, c.self.inside.cells.ok.0, place.within)
