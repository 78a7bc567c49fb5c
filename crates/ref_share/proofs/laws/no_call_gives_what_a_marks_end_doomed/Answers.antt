use Rattle.ref_share.proofs.NamedRuns.{never_given}
use Rattle.ref_share.proofs.laws.no_call_gives_what_a_marks_end_doomed.Goals as goal

pub returns : goal.returns
returns c = never_given
