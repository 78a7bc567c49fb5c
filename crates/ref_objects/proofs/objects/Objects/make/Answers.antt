use Rattle.ref_objects.proofs.Common.{◌∙◌, ap, arith, option_map, made_of, sym, None}
use Rattle.ref_space.specs.Tables.{left_of}
use Rattle.ref_objects.proofs.GroundLemmas.{no_cell, has_cell, seen_made}
use Rattle.ref_objects.proofs.SlotLemmas.{new_sound, read_sound}
use Rattle.ref_objects.proofs.objects.Objects.make.Goals as goal

pub returns-then-is_full-clause-refused : goal.returns-then-is_full-clause-refused
returns-then-is_full-clause-refused g c =
    grind (arith, no_cell c.self.invariant.ground c.args.fields c.if-fields-gt-MOST_FIELDS.false)

pub invariant_of-self : goal.invariant_of-self
invariant_of-self g c =
    rw c.push.ensures.after
    (new_sound (read_sound c.self.invariant None) c.args.place c.args.fields c.args.reference
    (omega (arith, c.if-self-from.false, c.from.ensures))
    (ap left_of (sym c.push.ensures.after) ∙ c.push.ensures.left) c.known.ensures.orderly.given
    c.known.ensures.orderly.begun)

pub returns-clause-refused : goal.returns-clause-refused
returns-clause-refused g c =
    grind (arith, has_cell c.self.invariant.ground c.args.fields c.if-fields-gt-MOST_FIELDS.false)

pub returns-clause-after : goal.returns-clause-after
returns-clause-after g c =
    rw (c.push.ensures.after, ← c.self.view_is)
    (seen_made (read_sound c.self.invariant None).ground c.args.place c.args.fields
    (option_map (made_of c.self.inside.table.slots) c.args.reference)
    (ap left_of (sym c.push.ensures.after) ∙ c.push.ensures.left) c.known.ensures.orderly.given
    c.known.ensures.orderly.begun)
