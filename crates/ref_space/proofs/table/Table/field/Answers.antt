use Rattle.ref_space.proofs.Common.{◌≡◌, true, arith, refl, sym, ◌∙◌, ap, subst, target_of, tabled_of, field_in_cell}
use Rattle.ref_space.proofs.Common.{Some}
use Rattle.ref_space.proofs.Common.{Table, option_map}
use Rattle.ref_space.specs.ColouredWords.{is_in_colour}
use Rattle.ref_space.specs.Naming.{HasTarget}
use Rattle.ref_space.specs.Tables.{word_name}
use Rattle.ref_space.proofs.CellChanges.{object_read, field-named_in, field_named_read, field_led_read, good_read}
use Rattle.ref_space.proofs.ReadLemmas.{field_read, read_good, read_other, sound_read}
use Rattle.ref_space.proofs.table.Table.field.Goals as goal
use Rattle.ref_space.proofs.table.Table.field.Given.{Over}

pub returns-in_err-cell-clause-held : goal.returns-in_err-cell-clause-held
returns-in_err-cell-clause-held g c =
    ap (option_map (target_of c.args.self.now)) c.from_residual.ensures
    ∙ ap (λ k. field_in_cell k c.args.field)
    (object_read c.self.invariant c.args.object c.self.view_is c.deref.ensures.value c.deref-2.ensures.value
    c.in_err-cell.ensures)

pub returns-in_err-value-clause-held : goal.returns-in_err-value-clause-held
returns-in_err-value-clause-held g c =
    ap (option_map (target_of c.args.self.now)) (c.from_residual-in_err-value.ensures ∙ c.in_err-value.ensures)
    ∙ field-named_in (target_of c.args.self.now) refl c.in_ok-cell.cell.now c.args.field
    ∙ ap (λ k. field_in_cell k c.args.field)
    (object_read c.self.invariant c.args.object c.self.view_is c.deref.ensures.value c.deref-2.ensures.value
    c.in_ok-cell.ensures)

pub returns-then-not-is_in_colour : goal.returns-then-not-is_in_colour
returns-then-not-is_in_colour g c = record {
  held = field_named_read c.self.invariant c.args.object c.self.view_is c.deref.ensures.value c.deref-2.ensures.value
      c.in_ok-cell.ensures c.args.field c.in_ok-value.ensures;
  led = field_led_read c.self.invariant c.args.object c.self.view_is c.deref.ensures.value c.deref-2.ensures.value
      c.in_ok-cell.ensures c.args.field c.in_ok-value.ensures;
  after = sym (read_other c.self.invariant c.self.view_is
      (word_name (target_of c.args.self.now c.args.object) (Some c.args.field)) c.in_ok-value.value
      (sym c.is_in_colour.ensures ∙ grind (arith, c.if-not-is_in_colour.true)));
}

good : (g : Over) (c : goal.After-drop-self-inside g)
    → is_in_colour c.self.inside.round.good c.in_ok-value.value ≡ true
good g c = sym c.is_in_colour.ensures ∙ grind (arith, c.if-not-is_in_colour.false)

pub invariant_of-self : goal.invariant_of-self
invariant_of-self g c =
    sound_read c.self.invariant c.of.result.value
    (good_read c.self.invariant c.args.object c.self.view_is c.deref.ensures.value c.deref-2.ensures.value
    c.in_ok-cell.ensures (Some c.args.field) (c.of.ensures ∙ c.word_name-name.ensures)
    (field_read c.self.inside.round.good c.in_ok-cell.cell.now c.args.field c.in_ok-value.value
    (sym c.in_ok-value.ensures) (good g c)))

pub returns : goal.returns
returns g c =
    let after = read_good c.self.invariant c.self.view_is (c.of.ensures ∙ c.word_name-name.ensures) c.in_ok-value.value
    (good g c) in
    record {
      held = subst (λ (t : Table). option_map (target_of t) (Some c.in_ok-value.value)
          ≡ field_in_cell (tabled_of t c.args.object) c.args.field) (sym after)
          (field_named_read c.self.invariant c.args.object c.self.view_is c.deref.ensures.value c.deref-2.ensures.value
          c.in_ok-cell.ensures c.args.field c.in_ok-value.ensures);
      led = subst (λ (t : Table). HasTarget t c.in_ok-value.value) (sym after)
          (field_led_read c.self.invariant c.args.object c.self.view_is c.deref.ensures.value c.deref-2.ensures.value
          c.in_ok-cell.ensures c.args.field c.in_ok-value.ensures);
      after = after;
    }
