use Rattle.std.proofs.Common.{◌≡◌, true, take}
use Rattle.std.specs.List.{list_all}
use Rattle.ref_judge.specs.MarkEnding.{passes, spares}
use Rattle.ref_judge.proofs.survivors.are_fields_spared.Given as goal

abbrev pub invariant-loop-field : goal.invariant-loop-field
invariant-loop-field g l = list_all (passes (spares l.fn.end l.fn.objects.tags)) (take l.field l.fields) ≡ true
