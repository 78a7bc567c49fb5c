use Rattle.std.proofs.Common.{◌≡◌, true, take}
use Rattle.std.specs.List.{list_all}
use Rattle.ref_judge.specs.MarkEnding.{spares}
use Rattle.ref_judge.proofs.survivors.are_spared.Given as goal

abbrev pub invariant-loop-no : goal.invariant-loop-no
invariant-loop-no g l = list_all (spares l.fn.end l.fn.objects.tags) (take l.no-index l.fn.numbers) ≡ true
