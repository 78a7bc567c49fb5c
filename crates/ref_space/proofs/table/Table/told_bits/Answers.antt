use Rattle.ref_space.proofs.Common.{sym}
use Rattle.ref_space.proofs.CellChanges.{frame_there}
use Rattle.ref_space.proofs.table.Table.told_bits.Goals as goal

pub address-requires : goal.address-requires
address-requires g c = frame_there c.self.invariant c.self.view_is c.args.value c.requires (sym c.in-Some.ensures)
