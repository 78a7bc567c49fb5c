use Rattle.ref_process.proofs.NoticeRuns.{run_positions, run_count}
use Rattle.ref_process.proofs.laws.queues.positions_rise_by_one.Goals as goal

pub returns-clause-positions : goal.returns-clause-positions
returns-clause-positions c = λ q rows e run. run_positions rows q e run

pub returns-clause-count : goal.returns-clause-count
returns-clause-count c = λ q rows e run. run_count rows q e run
