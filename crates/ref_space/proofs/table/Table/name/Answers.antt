use Rattle.ref_space.proofs.Common.{◌∙◌}
use Rattle.ref_space.proofs.CellChanges.{number_read}
use Rattle.ref_space.proofs.table.Table.name.Goals as goal

pub returns-in-Some : goal.returns-in-Some
returns-in-Some g c =
    c.number.ensures ∙ number_read c.self.invariant c.args.value c.self.view_is c.deref.ensures.value
    c.deref-2.ensures.value c.in-Some.ensures

pub returns-in-None : goal.returns-in-None
returns-in-None g c =
    number_read c.self.invariant c.args.value c.self.view_is c.deref.ensures.value c.deref-2.ensures.value
    c.in-None.ensures
