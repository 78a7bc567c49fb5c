use Rattle.ref_process.proofs.RenamedRows.{renamed_run_by, renamed_run}
use Rattle.ref_process.proofs.laws.a_run_is_the_same_by_other_handles.Goals as goal

pub returns-clause-by_one_marker : goal.returns-clause-by_one_marker
returns-clause-by_one_marker c = λ to from back marked d rows e run. renamed_run_by to from back marked rows d e run

pub returns-clause-by_any : goal.returns-clause-by_any
returns-clause-by_any c = λ to from back d rows e run. renamed_run to from back rows d e run
