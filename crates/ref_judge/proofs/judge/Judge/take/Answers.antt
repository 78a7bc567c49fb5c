use Rattle.std.proofs.Common.{subst, ◌≡◌}
use Rattle.std.specs.Prelude.{Result, Ok, Err, MatchResult}
use Rattle.ref_base.specs.declared.reply.Reply.{Reply}
use Rattle.ref_base.specs.declared.step.Step.{Step}
use Rattle.ref_judge.specs.Judged.{Judged}
use Rattle.ref_judge.specs.Standing.{IsLegalIn, IsSettled, TellsOf}
use Rattle.ref_judge.specs.declared.stop.Stop.{Stop}
use Rattle.ref_judge.proofs.JudgedRuns.{taken_is_legal}
use Rattle.ref_judge.proofs.judge.Judge.take.Goals as goal

-- what is taken is legal, and where nothing is nothing changes
told_so : (old new : Judged) (step : Step) (reply : Reply) (result : Result (Unit {0}) Stop)
    → TellsOf old (record { step = step; reply = reply }) result new → IsSettled new
    → MatchResult result (λ done. IsLegalIn old step reply) (λ stop. new ≡ old)
told_so old new step reply (Ok done) takes settled = taken_is_legal old new step reply takes settled
told_so old new step reply (Err Stop.Illegal) told settled = told.1
told_so old new step reply (Err Stop.NoMemory) told settled = told.1

pub returns : goal.returns
returns g c =
    told_so c.args.self.now c.chosen_row-result.new.self c.args.step c.args.reply c.chosen_row-result.result
    c.chosen_row-result.ensures (subst IsSettled c.self.view_is c.self.invariant.settled)
