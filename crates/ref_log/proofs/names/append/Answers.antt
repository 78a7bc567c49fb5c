use Rattle.std.proofs.Common.{arith}
use Rattle.ref_log.proofs.LineWords.{text_behind}
use Rattle.ref_log.proofs.names.append.Goals as goal

pub returns : goal.returns
returns g c = grind (arith, text_behind)
