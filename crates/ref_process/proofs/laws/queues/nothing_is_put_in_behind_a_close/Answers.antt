use Rattle.std.proofs.Common.{refl}
use Rattle.ref_process.proofs.NoticeRuns.{run_adds_nothing}
use Rattle.ref_process.proofs.laws.queues.nothing_is_put_in_behind_a_close.Goals as goal

pub returns : goal.returns
returns c = λ q was_open d leads rows e run. run_adds_nothing rows d e (rw leads.1 refl) run
