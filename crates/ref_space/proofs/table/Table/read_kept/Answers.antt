use Rattle.ref_space.proofs.Common.{◌≡◌, true, arith, sym, ◌∙◌, ap, subst, target_of, tabled_of, None, Some, Table}
use Rattle.ref_space.proofs.Common.{tabled_reference, referent_of, option_map, reference_by_number, Reference}
use Rattle.ref_space.specs.ColouredWords.{is_in_colour}
use Rattle.ref_space.specs.Naming.{HasTarget}
use Rattle.ref_space.proofs.CellChanges.{object_read, reference-named, referent_led_read, good_read}
use Rattle.ref_space.proofs.ReadLemmas.{referent_read, read_good, sound_read}
use Rattle.ref_space.proofs.table.Table.read_kept.Goals as goal
use Rattle.ref_space.proofs.table.Table.read_kept.Given.{Over}

pub returns-in_err-cell-clause-held : goal.returns-in_err-cell-clause-held
returns-in_err-cell-clause-held g c =
    ap (option_map (reference_by_number (target_of c.args.self.now))) c.from_residual.ensures
    ∙ ap tabled_reference
    (object_read c.self.invariant c.args.object c.self.view_is c.deref.ensures.value c.deref-2.ensures.value
    c.in_err-cell.ensures)

pub returns-in_err-kept-clause-held : goal.returns-in_err-kept-clause-held
returns-in_err-kept-clause-held g c =
    ap (option_map (reference_by_number (target_of c.args.self.now)))
    (c.from_residual-in_err-kept.ensures ∙ c.in_err-kept.ensures)
    ∙ reference-named (target_of c.args.self.now) c.in_ok-cell.cell.now
    ∙ ap tabled_reference
    (object_read c.self.invariant c.args.object c.self.view_is c.deref.ensures.value c.deref-2.ensures.value
    c.in_ok-cell.ensures)

pub returns-then-not-is_in_colour-clause-held : goal.returns-then-not-is_in_colour-clause-held
returns-then-not-is_in_colour-clause-held g c =
    ap (option_map (reference_by_number (target_of c.args.self.now))) c.in_ok-kept.ensures
    ∙ reference-named (target_of c.args.self.now) c.in_ok-cell.cell.now
    ∙ ap tabled_reference
    (object_read c.self.invariant c.args.object c.self.view_is c.deref.ensures.value c.deref-2.ensures.value
    c.in_ok-cell.ensures)

pub returns-then-not-is_in_colour-clause-led : goal.returns-then-not-is_in_colour-clause-led
returns-then-not-is_in_colour-clause-led g c =
    referent_led_read c.self.invariant c.args.object c.self.view_is c.deref.ensures.value c.deref-2.ensures.value
    c.in_ok-cell.ensures (ap referent_of c.in_ok-kept.ensures)

good : (g : Over) (c : goal.After-drop-self-inside g)
    → is_in_colour c.self.inside.round.good c.in_ok-kept.kept.referent ≡ true
good g c =
    ap (λ (r : Reference). is_in_colour c.self.inside.round.good r.referent) (sym c.kept-2.view_is)
    ∙ sym c.is_in_colour.ensures ∙ grind (arith, c.if-not-is_in_colour.false)

pub invariant_of-self : goal.invariant_of-self
invariant_of-self g c =
    sound_read c.self.invariant c.of.result.value
    (good_read c.self.invariant c.args.object c.self.view_is c.deref.ensures.value c.deref-2.ensures.value
    c.in_ok-cell.ensures None (c.of.ensures ∙ c.word_name-name.ensures)
    (referent_read c.self.inside.round.good c.in_ok-cell.cell.now c.in_ok-kept.kept.referent
    (ap referent_of c.in_ok-kept.ensures) (good g c)))

pub returns-clause-held : goal.returns-clause-held
returns-clause-held g c =
    subst (λ (t : Table). option_map (reference_by_number (target_of t)) (Some c.in_ok-kept.kept)
    ≡ tabled_reference (tabled_of t c.args.object))
    (sym (read_good c.self.invariant c.self.view_is (c.of.ensures ∙ c.word_name-name.ensures)
    c.in_ok-kept.kept.referent (good g c)))
    (ap (option_map (reference_by_number (target_of c.args.self.now))) c.in_ok-kept.ensures
    ∙ reference-named (target_of c.args.self.now) c.in_ok-cell.cell.now
    ∙ ap tabled_reference
    (object_read c.self.invariant c.args.object c.self.view_is c.deref.ensures.value c.deref-2.ensures.value
    c.in_ok-cell.ensures))

pub returns-clause-led : goal.returns-clause-led
returns-clause-led g c =
    subst (λ (t : Table). HasTarget t c.in_ok-kept.kept.referent)
    (sym (read_good c.self.invariant c.self.view_is (c.of.ensures ∙ c.word_name-name.ensures)
    c.in_ok-kept.kept.referent (good g c)))
    (referent_led_read c.self.invariant c.args.object c.self.view_is c.deref.ensures.value c.deref-2.ensures.value
    c.in_ok-cell.ensures (ap referent_of c.in_ok-kept.ensures))
