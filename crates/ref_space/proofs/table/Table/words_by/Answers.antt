use Rattle.ref_space.proofs.Common.{◌∙◌, ap, target_of}
use Rattle.ref_space.proofs.Common.{map, tabled_fields}
use Rattle.ref_space.proofs.CellChanges.{object_read, fields-named}
use Rattle.ref_space.proofs.table.Table.words_by.Goals as goal

pub returns-in-Some : goal.returns-in-Some
returns-in-Some g c =
    ap (map (target_of c.args.self.now)) c.fields.ensures ∙ fields-named (target_of c.args.self.now) c.in-Some.cell.now
    ∙ ap tabled_fields
    (object_read c.self.invariant c.args.object c.self.view_is c.deref.ensures.value c.deref-2.ensures.value
    c.in-Some.ensures)

pub returns-in-None : goal.returns-in-None
returns-in-None g c =
    ap (map (target_of c.args.self.now)) c.nulls.ensures
    ∙ ap tabled_fields
    (object_read c.self.invariant c.args.object c.self.view_is c.deref.ensures.value c.deref-2.ensures.value
    c.in-None.ensures)
