use Rattle.ref_space.proofs.Common.{arith, refl, sym, ◌∙◌, ap, leads_by, target_by, occupants_of, on_object, Table}
use Rattle.ref_space.proofs.Common.{with_field, target_of, changed_if, changed_of, Some}
use Rattle.ref_space.specs.ColouredWords.{is_in_colour}
use Rattle.ref_space.specs.Moves.{ways_of}
use Rattle.ref_space.specs.Tables.{with_read, word_name}
use Rattle.ref_space.proofs.CellChanges.{left_there, led_place, named_here, named_nowhere, field-named}
use Rattle.ref_space.proofs.CellChanges.{field_leads, leads_seen, named_seen}
use Rattle.ref_space.proofs.ReadCells.{sound_written}
use Rattle.ref_space.proofs.ReadLemmas.{field_good, sound_unread, seen_read}
use Rattle.ref_space.proofs.table.Table.heal_field.Goals as goal

pub returns-in_default : goal.returns-in_default
returns-in_default g c =
    let none = named_nowhere c.self.invariant c.args.object c.self.view_is c.deref.ensures.value c.deref-2.ensures.value
    c.in_default.ensures in
    seen_read c.self.invariant c.self.view_is c.nothing_read.ensures
    ∙ ap (λ n. changed_if (with_read c.args.self.now (word_name n (Some c.args.field))) n
    (on_object (with_field c.args.field (target_of c.args.self.now c.args.value)))) (sym none)

pub invariant_of-self : goal.invariant_of-self
invariant_of-self g c = sound_unread c.self.invariant c.nothing_read.ensures

pub index_mut-requires : goal.index_mut-requires
index_mut-requires g c =
    let place = led_place c.self.invariant c.args.object c.self.view_is c.deref.ensures.value c.deref-2.ensures.value
    c.in-Some.ensures in
    omega (arith, c.self.inside.cells.ok.0, place.within)

pub invariant_of-self-2 : goal.invariant_of-self-2
invariant_of-self-2 g c =
    sound_written c.self.invariant
    (led_place c.self.invariant c.args.object c.self.view_is c.deref.ensures.value c.deref-2.ensures.value
    c.in-Some.ensures)
    (on_object (with_field c.args.field c.args.value)) (λ k. refl)
    c.index_mut.ensures.value c.set_field.ensures.after
    (field_leads c.self.inside.round.number (leads_by c.self.inside.round.good
    (ways_of c.self.inside.pages c.self.inside.forwards.items c.self.inside.last_good c.self.inside.is_tuned)
    (occupants_of c.self.inside.cells.items)) c.args.field c.args.value
    (leads_seen c.self.invariant c.args.value c.self.view_is c.requires.healed)) (λ k. refl) (Some c.args.field)
    (field_good c.self.inside.round.good c.args.field c.args.value
    (ap (λ (t : Table). is_in_colour t.round.good c.args.value) c.self.view_is ∙ c.requires.good))
    (c.of.ensures ∙ c.word_name-name.ensures
    ∙ ap (λ n. word_name n (Some c.args.field))
    (named_here c.self.invariant c.args.object c.self.view_is c.deref.ensures.value c.deref-2.ensures.value
    c.in-Some.ensures))

pub returns : goal.returns
returns g c =
    let name = (target_by (ways_of c.self.inside.pages c.self.inside.forwards.items c.self.inside.last_good
    c.self.inside.is_tuned) (occupants_of c.self.inside.cells.items)) in
    ap (λ (t : Table). with_read t c.of.result.value)
    (left_there c.self.invariant
    (led_place c.self.invariant c.args.object c.self.view_is c.deref.ensures.value c.deref-2.ensures.value
    c.in-Some.ensures)
    (on_object (with_field c.args.field c.args.value)) (on_object (with_field c.args.field (name c.args.value)))
    (λ k. refl) c.index_mut.ensures.value c.set_field.ensures.after c.self.view_is
    (field-named name c.args.field c.args.value))
    ∙ ap (λ n. changed_if (with_read c.args.self.now c.of.result.value) n
    (on_object (with_field c.args.field (name c.args.value))))
    (sym (named_here c.self.invariant c.args.object c.self.view_is c.deref.ensures.value c.deref-2.ensures.value
    c.in-Some.ensures))
    ∙ ap (λ w. changed_of (with_read c.args.self.now w) c.args.object
    (on_object (with_field c.args.field (name c.args.value)))) (c.of.ensures ∙ c.word_name-name.ensures)
    ∙ ap (λ v. changed_of (with_read c.args.self.now (word_name (target_of c.args.self.now c.args.object)
    (Some c.args.field))) c.args.object (on_object (with_field c.args.field v)))
    (sym (named_seen c.self.invariant c.args.value c.self.view_is))
