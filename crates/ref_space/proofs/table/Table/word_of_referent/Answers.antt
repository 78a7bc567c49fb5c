use Rattle.ref_space.specs.ColouredWords.{are_in_colour}
use Rattle.ref_space.proofs.CellChanges.{referent_told_good}
use Rattle.ref_space.proofs.Common.{◌∙◌, ap, sym, subst, Option, is_some, Reference, referent_of, tabled_reference}
use Rattle.ref_space.proofs.CellChanges.{blind_told, referent_led, referent_told, some_reference}
use Rattle.ref_space.specs.Naming.{HasTarget, bits_told}
use Rattle.ref_space.proofs.table.Table.word_of_referent.Goals as goal

pub told_bits-requires : goal.told_bits-requires
told_bits-requires g c =
    subst (HasTarget c.args.self.now)
    (ap (λ (r : Option Reference). referent_of r) (sym c.kept.ensures ∙ c.in-Some-kept.is)
    ∙ ap (λ (r : Reference). r.referent) (sym c.kept-in-Some-kept.view_is))
    (referent_led c.self.invariant c.args.no c.self.view_is c.deref.ensures.value c.deref-2.ensures.value
    c.in-Some.ensures)

pub returns-in-Some-kept-clause-there : goal.returns-in-Some-kept-clause-there
returns-in-Some-kept-clause-there g c =
    ap is_some (sym c.in-Some-kept.is ∙ c.kept.ensures)
    ∙ blind_told c.self.invariant c.args.no c.self.view_is c.deref.ensures.value c.deref-2.ensures.value
    c.in-Some.ensures (λ k. is_some (tabled_reference k)) some_reference

pub returns-in-Some-kept-clause-word : goal.returns-in-Some-kept-clause-word
returns-in-Some-kept-clause-word g c =
    referent_told c.self.invariant c.args.no c.self.view_is c.deref.ensures.value c.deref-2.ensures.value
    c.in-Some.ensures
    (c.told_bits.ensures
    ∙ ap (λ (r : Reference). bits_told c.args.self.now.ways.pages.uses r.referent) c.kept-in-Some-kept.view_is
    ∙ ap (λ (r : Option Reference). bits_told c.args.self.now.ways.pages.uses (referent_of r))
    (sym c.in-Some-kept.is ∙ c.kept.ensures))

pub returns-in-None-kept-clause-there : goal.returns-in-None-kept-clause-there
returns-in-None-kept-clause-there g c =
    ap is_some (sym c.in-None-kept.is ∙ c.kept.ensures)
    ∙ blind_told c.self.invariant c.args.no c.self.view_is c.deref.ensures.value c.deref-2.ensures.value
    c.in-Some.ensures (λ k. is_some (tabled_reference k)) some_reference

pub returns-in-None-clause-there : goal.returns-in-None-clause-there
returns-in-None-clause-there g c =
    blind_told c.self.invariant c.args.no c.self.view_is c.deref.ensures.value c.deref-2.ensures.value
    c.in-None.ensures (λ k. is_some (tabled_reference k)) some_reference

pub returns-in-Some-kept-clause-read : goal.returns-in-Some-kept-clause-read
returns-in-Some-kept-clause-read g c = λ same.
    ap (are_in_colour c.args.self.now.round.good)
    (c.told_bits.ensures
    ∙ ap (λ (r : Reference). bits_told c.args.self.now.ways.pages.uses r.referent) c.kept-in-Some-kept.view_is
    ∙ ap (λ (r : Option Reference). bits_told c.args.self.now.ways.pages.uses (referent_of r))
    (sym c.in-Some-kept.is ∙ c.kept.ensures))
    ∙ referent_told_good c.self.invariant c.args.no c.self.view_is c.deref.ensures.value c.deref-2.ensures.value
    c.in-Some.ensures same
