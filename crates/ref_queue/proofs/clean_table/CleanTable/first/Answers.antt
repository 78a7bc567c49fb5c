use Rattle.std.proofs.Common.{arith}
use Rattle.ref_queue.proofs.TableLemmas.{finds_first}
use Rattle.ref_queue.proofs.clean_table.CleanTable.first.Goals as goal

pub returns : goal.returns
returns g c = grind (arith, finds_first)
