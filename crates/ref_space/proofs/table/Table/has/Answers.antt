use Rattle.ref_space.proofs.Common.{arith}
use Rattle.ref_space.proofs.CellChanges.{found_there}
use Rattle.ref_space.proofs.table.Table.has.Goals as goal

pub returns : goal.returns
returns g c =
    grind (
      arith,
      found_there c.self.invariant c.args.no c.place_of.result c.self.view_is c.deref.ensures.value
          c.deref-2.ensures.value c.place_of.ensures,
    )
