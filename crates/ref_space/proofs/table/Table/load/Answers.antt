use Rattle.ref_space.proofs.Common.{refl, ◌<◌, ◌∙◌, ap, sym, subst, arith, length, Table, Some, target_of}
use Rattle.ref_space.specs.Naming.{tabled_of}
use Rattle.ref_space.specs.Tables.{field_held, held_at, left_of, without_if_any, word_name}
use Rattle.ref_space.proofs.BroughtLemmas.{field_loaded, loaded, not_loaded, slots_loaded}
use Rattle.ref_space.proofs.TableSlots.{slot_there, slot_led, slot_named, slot_sound, slot_seen}
use Rattle.ref_space.proofs.Common.{tabled_if}
use Rattle.ref_space.proofs.table.Table.load.Goals as goal

pub load_field-requires : goal.load_field-requires
load_field-requires g c = slot_led c.self.invariant c.self.view_is c.args.from c.requires.from c.index-object.ensures

pub returns-in_err-value-clause-after : goal.returns-in_err-value-clause-after
returns-in_err-value-clause-after g c =
    not_loaded c.args.self.now (word_name (held_at c.args.self.now c.args.from) (Some c.args.field)) c.args.into
    c.args.from c.args.field
    (tabled_of c.args.self.now c.index-object.result.now)
    (ap (tabled_if c.args.self.now.tabled)
    (slot_named c.self.invariant c.self.view_is c.args.from c.requires.from c.index-object.ensures))
    c.in_err-value.ensures.held
    (c.load_field.ensures.after
    ∙ ap (λ n. field_loaded c.args.self.now (word_name n (Some c.args.field))
    (tabled_of c.args.self.now c.index-object.result.now) c.args.field)
    (slot_named c.self.invariant c.self.view_is c.args.from c.requires.from c.index-object.ensures))

pub index_mut-requires : goal.index_mut-requires
index_mut-requires g c =
    let there =
    slot_there c.self-2.invariant c.self-2.view_is c.args.into
    (subst (λ ns. c.args.into < length ns)
    (sym (ap (λ (t : Table). t.slots) c.load_field.ensures.after
    ∙ slots_loaded c.args.self.now
    (word_name (target_of c.args.self.now c.index-object.result.now) (Some c.args.field))
    (tabled_of c.args.self.now c.index-object.result.now) c.args.field)) c.requires.into) in
    omega (arith, there, c.self-2.inside.slots.ok.0)

pub invariant_of-self : goal.invariant_of-self
invariant_of-self g c =
    slot_sound c.self-2.invariant c.self-2.view_is c.args.into c.in_ok-value.value c.in_ok-value.ensures.healed

pub returns-clause-after : goal.returns-clause-after
returns-clause-after g c =
    loaded c.args.self.now (word_name (held_at c.args.self.now c.args.from) (Some c.args.field)) c.args.into c.args.from
    c.args.field (tabled_of c.args.self.now c.index-object.result.now)
    (ap (tabled_if c.args.self.now.tabled)
    (slot_named c.self.invariant c.self.view_is c.args.from c.requires.from c.index-object.ensures))
    c.in_ok-value.ensures.held
    (c.load_field.ensures.after
    ∙ ap (λ n. field_loaded c.args.self.now (word_name n (Some c.args.field))
    (tabled_of c.args.self.now c.index-object.result.now) c.args.field)
    (slot_named c.self.invariant c.self.view_is c.args.from c.requires.from c.index-object.ensures))
    (slot_seen c.self-2.invariant c.self-2.view_is c.args.into c.in_ok-value.value refl)

pub returns-clause-left : goal.returns-clause-left
returns-clause-left g c =
    ap left_of c.self-2.view_is ∙ c.load_field.ensures.left
    ∙ ap (λ d. without_if_any (left_of c.args.self.now) (field_held (tabled_if c.args.self.now.tabled d) c.args.field))
    (slot_named c.self.invariant c.self.view_is c.args.from c.requires.from c.index-object.ensures)
