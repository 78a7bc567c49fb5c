use Rattle.std.proofs.Common.{◌≡◌, true, take}
use Rattle.std.specs.List.{list_all}
use Rattle.ref_judge.specs.MarkEnding.{spares}
use Rattle.ref_judge.proofs.roots.is_line_spared.Given as goal

abbrev pub invariant-loop-place : goal.invariant-loop-place
invariant-loop-place g l = list_all (spares l.fn.end l.fn.objects.tags) (take l.place l.fn.line.stands) ≡ true
