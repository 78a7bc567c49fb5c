use Rattle.ref_space.proofs.Common.{◌∙◌, ap}
use Rattle.ref_space.proofs.Common.{tabled_linked}
use Rattle.ref_space.proofs.CellChanges.{object_told}
use Rattle.ref_space.proofs.table.Table.linked.Goals as goal

pub returns-in-Some : goal.returns-in-Some
returns-in-Some g c =
    c.told.ensures
    ∙ ap (tabled_linked c.args.no)
    (object_told c.self.invariant c.args.no c.self.view_is c.deref.ensures.value c.deref-2.ensures.value
    c.in-Some.ensures)

pub returns-in-None : goal.returns-in-None
returns-in-None g c =
    c.missing.ensures
    ∙ ap (tabled_linked c.args.no)
    (object_told c.self.invariant c.args.no c.self.view_is c.deref.ensures.value c.deref-2.ensures.value
    c.in-None.ensures)
