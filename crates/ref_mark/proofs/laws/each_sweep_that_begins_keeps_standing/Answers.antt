use Rattle.ref_mark.proofs.SweepBegins.{sweep_begun_stands}
use Rattle.ref_mark.proofs.laws.each_sweep_that_begins_keeps_standing.Goals as goal

pub returns : goal.returns
returns c = sweep_begun_stands
