use Rattle.ref_space.proofs.CellChanges.{found_there, found_lies}
use Rattle.ref_space.proofs.table.Table.place_near.Goals as goal

pub returns-clause-there : goal.returns-clause-there
returns-clause-there g c =
    found_there c.self.invariant c.args.entry.no c.place_near.result c.self.view_is c.deref.ensures.value
    c.deref-2.ensures.value c.place_near.ensures

pub returns-clause-lies : goal.returns-clause-lies
returns-clause-lies g c =
    found_lies c.self.invariant c.self.view_is c.args.entry.no c.place_near.result c.deref.ensures.value
    c.deref-2.ensures.value c.place_near.ensures
