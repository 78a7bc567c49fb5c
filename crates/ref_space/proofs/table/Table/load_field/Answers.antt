use Rattle.ref_space.proofs.Common.{◌≡◌, ◌∙◌, ap, sym, subst, refl, Some, target_of, field_in_cell, on_object}
use Rattle.ref_space.proofs.Common.{with_field, tabled_of, Table}
use Rattle.ref_space.specs.Naming.{HasTarget}
use Rattle.ref_space.specs.Tables.{left_of, without_if_any, word_name}
use Rattle.ref_space.proofs.BroughtLemmas.{IsLoaded, field_loaded_is, field_loaded_by, healed_named, held_is}
use Rattle.ref_space.proofs.BroughtLemmas.{good_loaded, healed_loaded}
use Rattle.ref_space.proofs.table.Table.load_field.Goals as goal
use Rattle.ref_space.proofs.table.Table.load_field.Given.{Over}

held_then : (g : Over) (c : goal.Then-is_good g)
    → Some (target_of c.args.self.now c.in_ok-value.value)
    ≡ field_in_cell (tabled_of c.args.self.now c.args.object) c.args.field
held_then g c =
    subst (λ (t : Table). Some (target_of t c.in_ok-value.value) ≡ field_in_cell (tabled_of t c.args.object)
    c.args.field)
    c.in_ok-value.ensures.after c.in_ok-value.ensures.held

pub returns-then-is_good : goal.returns-then-is_good
returns-then-is_good g c =
    let t = c.args.self.now in
    let name = word_name (target_of t c.args.object) (Some c.args.field) in
    let its = good_loaded t c.field.new.self name c.in_ok-value.value c.in_ok-value.ensures.after
    c.if-is_good.ensures.healed c.if-is_good.ensures.good c.if-is_good.ensures.stays c.if-is_good.ensures.left in
    record {
      held = ap Some its.named ∙ held_then g c;
      healed = its.healed;
      good = its.good;
      after = its.after ∙ field_loaded_by t name (tabled_of t c.args.object) c.args.field (held_then g c);
      left = its.left
          ∙ ap (without_if_any (left_of t)) (held_is (tabled_of t c.args.object) c.args.field (held_then g c));
    }

held_there : (g : Over) (c : goal.After-heal_field g)
    → Some (target_of c.args.self.now c.in_ok-value.value)
    ≡ field_in_cell (tabled_of c.args.self.now c.args.object) c.args.field
held_there g c =
    subst (λ (t : Table). Some (target_of t c.in_ok-value.value) ≡ field_in_cell (tabled_of t c.args.object)
    c.args.field)
    c.in_ok-value.ensures.after c.in_ok-value.ensures.held

led : (g : Over) (c : goal.After-heal_field g) → HasTarget c.field.new.self c.args.object
led g c = subst (λ (t : Table). HasTarget t c.args.object) (sym c.in_ok-value.ensures.after) c.requires

-- the word is that of the object, which has moved
its : (g : Over) (c : goal.After-heal_field g)
    → IsLoaded c.args.self.now (word_name (target_of c.args.self.now c.args.object) (Some c.args.field))
    c.in_ok-value.value c.heal_field.new.self c.bring-healed.result
its g c =
    healed_loaded c.args.self.now c.field.new.self
    (word_name (target_of c.args.self.now c.args.object) (Some c.args.field)) c.in_ok-value.value
    c.in_ok-value.ensures.after c.bring-healed.new.self c.args.object
    (on_object (with_field c.args.field (target_of c.bring-healed.new.self c.bring-healed.result)))
    c.bring-healed.ensures.after
    (field_loaded_is c.field.new.self c.bring-healed.new.self c.in_ok-value.value c.args.object
    c.bring-healed.ensures.after c.bring-healed.ensures.kept c.in_ok-value.ensures.led (led g c) c.bring-healed.result
    c.bring-healed.ensures.named c.args.field c.in_ok-value.ensures.held refl)
    (ap (λ n. word_name n (Some c.args.field))
    ((c.bring-healed.ensures.kept c.args.object (led g c)).0
    ∙ ap (λ (t : Table). target_of t c.args.object) c.in_ok-value.ensures.after))
    c.heal_field.ensures c.bring-healed.result
    (healed_named c.field.new.self c.bring-healed.new.self c.in_ok-value.value c.args.object
    c.bring-healed.ensures.after c.bring-healed.ensures.kept c.in_ok-value.ensures.led (led g c) c.bring-healed.result
    c.bring-healed.ensures.named)
    c.bring-healed.ensures.healed c.bring-healed.ensures.good c.bring-healed.ensures.left

pub returns : goal.returns
returns g c =
    let t = c.args.self.now in
    let name = word_name (target_of t c.args.object) (Some c.args.field) in
    record {
      held = ap Some (its g c).named ∙ held_there g c;
      healed = (its g c).healed;
      good = (its g c).good;
      after = (its g c).after
          ∙ field_loaded_by t name (tabled_of t c.args.object) c.args.field (held_there g c);
      left = (its g c).left
          ∙ ap (without_if_any (left_of t)) (held_is (tabled_of t c.args.object) c.args.field (held_there g c));
    }
