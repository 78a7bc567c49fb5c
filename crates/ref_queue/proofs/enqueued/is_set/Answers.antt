use Rattle.std.proofs.Common.{arith}
use Rattle.std.proofs.lemmas.Nat.Bits.{shr_and_one}
use Rattle.ref_queue.proofs.enqueued.is_set.Goals as goal

pub returns : goal.returns
returns c = grind (arith, shr_and_one)
