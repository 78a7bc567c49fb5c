use Rattle.std.proofs.Common.{◌≡◌, true, take}
use Rattle.std.specs.List.{list_all}
use Rattle.ref_judge.specs.MarkEnding.{spares}
use Rattle.ref_judge.proofs.roots.are_lines_spared.Given as goal

abbrev pub invariant-loop-line : goal.invariant-loop-line
invariant-loop-line g l =
    list_all (λ h. list_all (spares l.fn.end l.fn.objects.tags) h.stands) (take l.line-index l.fn.lines) ≡ true
