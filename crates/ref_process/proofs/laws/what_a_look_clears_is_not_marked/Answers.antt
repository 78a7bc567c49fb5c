use Rattle.ref_process.proofs.Readings.{first_unmarked}
use Rattle.ref_process.specs.DeskRows.{lists_at}
use Rattle.ref_process.proofs.laws.what_a_look_clears_is_not_marked.Goals as goal

pub returns : goal.returns
returns c = λ marked d i k q e leads. first_unmarked marked d.desk.places (lists_at d i).found k leads.0.2
