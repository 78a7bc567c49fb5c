use Rattle.std.proofs.Common.{arith}
use Rattle.ref_judge.proofs.HandsAlike.{sound_mutators}
use Rattle.ref_judge.proofs.judge.Judge.check_polls.Goals as goal

pub returns-in_err-check_fits : goal.returns-in_err-check_fits
returns-in_err-check_fits g c = let same = sound_mutators _ c.self.invariant in grind (arith, same)
