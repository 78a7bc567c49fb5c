use Rattle.ref_mark.proofs.SweepBegins.{closed_clearing}
use Rattle.ref_mark.proofs.laws.nothing_refers_to_the_doomed_once_clearing_is_done.Goals as goal

pub returns : goal.returns
returns c = closed_clearing
