use Rattle.ref_space.proofs.Common.{◌∙◌, ap, sym, Some, has_field, option_map}
use Rattle.ref_space.proofs.CellChanges.{blind_told, has_field-named, told_leads, told_there, word_told}
use Rattle.ref_space.specs.Naming.{bits_told}
use Rattle.ref_space.specs.ColouredWords.{are_in_colour}
use Rattle.ref_space.proofs.CellChanges.{field_told_good}
use Rattle.ref_space.proofs.table.Table.word_at.Goals as goal

pub told_bits-requires : goal.told_bits-requires
told_bits-requires g c =
    told_leads c.self.invariant c.args.no c.self.view_is c.deref.ensures.value c.deref-2.ensures.value
    c.in-Some.ensures c.args.field (sym c.in-Some-field.is ∙ c.field.ensures)

pub returns-in-Some-field-clause-there : goal.returns-in-Some-field-clause-there
returns-in-Some-field-clause-there g c =
    told_there c.self.invariant c.args.no c.self.view_is c.deref.ensures.value c.deref-2.ensures.value
    c.in-Some.ensures c.args.field
    (ap (option_map (bits_told c.self.inside.pages.uses)) (sym c.in-Some-field.is ∙ c.field.ensures))

pub returns-in-Some-field-clause-word : goal.returns-in-Some-field-clause-word
returns-in-Some-field-clause-word g c =
    word_told c.self.invariant c.args.no c.self.view_is c.deref.ensures.value c.deref-2.ensures.value
    c.in-Some.ensures c.args.field
    (ap Some c.told_bits.ensures
    ∙ ap (option_map (bits_told c.args.self.now.ways.pages.uses)) (sym c.in-Some-field.is ∙ c.field.ensures))

pub returns-in-None-field-clause-there : goal.returns-in-None-field-clause-there
returns-in-None-field-clause-there g c =
    told_there c.self.invariant c.args.no c.self.view_is c.deref.ensures.value c.deref-2.ensures.value
    c.in-Some.ensures c.args.field
    (ap (option_map (bits_told c.self.inside.pages.uses)) (sym c.in-None-field.is ∙ c.field.ensures))

pub returns-in-None-clause-there : goal.returns-in-None-clause-there
returns-in-None-clause-there g c =
    blind_told c.self.invariant c.args.no c.self.view_is c.deref.ensures.value c.deref-2.ensures.value
    c.in-None.ensures (λ k. has_field k c.args.field) (has_field-named c.args.field)

pub returns-in-Some-field-clause-read : goal.returns-in-Some-field-clause-read
returns-in-Some-field-clause-read g c = λ same.
    ap (are_in_colour c.args.self.now.round.good) c.told_bits.ensures
    ∙ field_told_good c.self.invariant c.args.no c.self.view_is c.deref.ensures.value c.deref-2.ensures.value
    c.in-Some.ensures c.args.field (sym c.in-Some-field.is ∙ c.field.ensures) same
