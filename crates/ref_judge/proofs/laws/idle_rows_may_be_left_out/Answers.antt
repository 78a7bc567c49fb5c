use Rattle.ref_judge.proofs.IdleRows.{kept_rows_are_legal}
use Rattle.ref_judge.proofs.laws.idle_rows_may_be_left_out.Goals as goal

pub returns : goal.returns
returns c = kept_rows_are_legal
