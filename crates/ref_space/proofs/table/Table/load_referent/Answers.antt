use Rattle.ref_space.proofs.Common.{◌∙◌, ap, refl, None, target_of, on_object}
use Rattle.ref_base.specs.Heaps.{with_reference}
use Rattle.ref_space.specs.Naming.{with_referent}
use Rattle.ref_space.specs.Tables.{brought, left_of, without_if_any, with_read, word_name}
use Rattle.ref_space.proofs.BroughtLemmas.{IsLoaded, referent_loaded_is, healed_named, good_loaded, healed_loaded}
use Rattle.ref_space.proofs.table.Table.load_referent.Goals as goal
use Rattle.ref_space.proofs.table.Table.load_referent.Given.{Over}

pub returns-then-is_good : goal.returns-then-is_good
returns-then-is_good g c =
    let t = c.args.self.now in
    let name = word_name (target_of t c.args.object) None in
    let its = good_loaded t t name c.args.value c.requires.read c.if-is_good.ensures.healed c.if-is_good.ensures.good
    c.if-is_good.ensures.stays c.if-is_good.ensures.left in
    record {
      named = its.named ∙ c.requires.held;
      healed = its.healed;
      good = its.good;
      after = its.after ∙ ap (brought (with_read t name)) c.requires.held;
      left = its.left ∙ ap (without_if_any (left_of t)) c.requires.held;
    }

-- the word is that of the object, which has moved
its : (g : Over) (c : goal.After-heal_referent g)
    → IsLoaded c.args.self.now (word_name (target_of c.args.self.now c.args.object) None) c.args.value
    c.heal_referent.new.self c.bring-healed.result
its g c =
    healed_loaded c.args.self.now c.args.self.now (word_name (target_of c.args.self.now c.args.object) None)
    c.args.value c.requires.read c.bring-healed.new.self c.args.object
    (on_object (with_reference (with_referent (target_of c.bring-healed.new.self c.bring-healed.result))))
    c.bring-healed.ensures.after
    (referent_loaded_is c.args.self.now c.bring-healed.new.self c.args.value c.args.object c.bring-healed.ensures.after
    c.bring-healed.ensures.kept c.requires.led c.requires.object c.bring-healed.result c.bring-healed.ensures.named
    c.requires.held refl)
    (ap (λ n. word_name n None) (c.bring-healed.ensures.kept c.args.object c.requires.object).0)
    c.heal_referent.ensures c.bring-healed.result
    (healed_named c.args.self.now c.bring-healed.new.self c.args.value c.args.object c.bring-healed.ensures.after
    c.bring-healed.ensures.kept c.requires.led c.requires.object c.bring-healed.result c.bring-healed.ensures.named)
    c.bring-healed.ensures.healed c.bring-healed.ensures.good c.bring-healed.ensures.left

pub returns : goal.returns
returns g c =
    let t = c.args.self.now in
    record {
      named = (its g c).named ∙ c.requires.held;
      healed = (its g c).healed;
      good = (its g c).good;
      after = (its g c).after
          ∙ ap (brought (with_read t (word_name (target_of t c.args.object) None))) c.requires.held;
      left = (its g c).left ∙ ap (without_if_any (left_of t)) c.requires.held;
    }
