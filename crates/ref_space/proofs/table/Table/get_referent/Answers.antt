use Rattle.ref_space.proofs.Common.{◌<◌, ◌∙◌, ap, sym, subst, arith, length, None, Some, Table, target_of}
use Rattle.ref_space.specs.Naming.{tabled_of}
use Rattle.ref_space.specs.Tables.{brought, left_of, slotted, tabled_if, tabled_reference, without_if_any, with_read}
use Rattle.ref_space.specs.Tables.{word_name, read_if_good}
use Rattle.ref_base.specs.CollectorRows.{referent_of}
use Rattle.ref_space.proofs.BroughtLemmas.{slots_brought}
use Rattle.ref_space.proofs.TableSlots.{slot_there, slot_led, slot_named, slot_sound, slot_seen}
use Rattle.ref_space.proofs.table.Table.get_referent.Goals as goal

pub load_referent-referent-requires-clause-object : goal.load_referent-referent-requires-clause-object
load_referent-referent-requires-clause-object g c =
    slot_led c.self.invariant c.self.view_is c.args.from c.requires.from c.index-object.ensures

pub load_referent-referent-requires-clause-led : goal.load_referent-referent-requires-clause-led
load_referent-referent-requires-clause-led g c = c.requires.word.led

pub load_referent-referent-requires-clause-held : goal.load_referent-referent-requires-clause-held
load_referent-referent-requires-clause-held g c =
    c.requires.word.held
    ∙ ap (λ d. referent_of (tabled_reference (tabled_if c.args.self.now.tabled d)))
    (sym (slot_named c.self.invariant c.self.view_is c.args.from c.requires.from c.index-object.ensures))

pub load_referent-referent-requires-clause-read : goal.load_referent-referent-requires-clause-read
load_referent-referent-requires-clause-read g c =
    c.requires.word.read
    ∙ ap (λ d. with_read c.args.self.now (read_if_good c.args.self.now.round (word_name d None) (Some c.args.word)))
    (sym (slot_named c.self.invariant c.self.view_is c.args.from c.requires.from c.index-object.ensures))

pub index_mut-requires : goal.index_mut-requires
index_mut-requires g c =
    let there =
    slot_there c.self-2.invariant c.self-2.view_is c.args.into
    (subst (λ ns. c.args.into < length ns)
    (sym (ap (λ (t : Table). t.slots) c.load_referent-referent.ensures.after
    ∙ slots_brought (with_read c.args.self.now
    (word_name (target_of c.args.self.now c.index-object.result.now) None)) _)) c.requires.into) in
    omega (arith, there, c.self-2.inside.slots.ok.0)

pub invariant_of-self : goal.invariant_of-self
invariant_of-self g c =
    slot_sound c.self-2.invariant c.self-2.view_is c.args.into c.load_referent-referent.result
    c.load_referent-referent.ensures.healed

pub returns-clause-after : goal.returns-clause-after
returns-clause-after g c =
    slot_seen c.self-2.invariant c.self-2.view_is c.args.into c.load_referent-referent.result
    c.load_referent-referent.ensures.named
    ∙ ap (λ (t : Table). slotted t c.args.into
    (referent_of (tabled_reference (tabled_of c.args.self.now c.index-object.result.now))))
    c.load_referent-referent.ensures.after
    ∙ ap (λ d. slotted (brought (with_read c.args.self.now (word_name d None))
    (referent_of (tabled_reference (tabled_if c.args.self.now.tabled d)))) c.args.into
    (referent_of (tabled_reference (tabled_if c.args.self.now.tabled d))))
    (slot_named c.self.invariant c.self.view_is c.args.from c.requires.from c.index-object.ensures)

pub returns-clause-left : goal.returns-clause-left
returns-clause-left g c =
    ap left_of c.self-2.view_is ∙ c.load_referent-referent.ensures.left
    ∙ ap (λ d. without_if_any (left_of c.args.self.now)
    (referent_of (tabled_reference (tabled_if c.args.self.now.tabled d))))
    (slot_named c.self.invariant c.self.view_is c.args.from c.requires.from c.index-object.ensures)
