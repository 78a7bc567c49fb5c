use Rattle.refrun.proofs.Common.{◌++◌, take, flat_map}
use Rattle.refrun.proofs.ListChecks.{Left}
use Rattle.refrun.proofs.lists.gives_each_once.Given as goal

abbrev pub invariant-loop-list : goal.invariant-loop-list
invariant-loop-list g l = Left l.taken (flat_map (λ v. v.items) (take l.list-index l.lists)) l.missing.keys

abbrev pub invariant-loop-number : goal.invariant-loop-number
invariant-loop-number g l =
    Left l.taken (flat_map (λ v. v.items) (take l.list-index l.lists) ++ take l.number-index l.number-items)
    l.missing.keys
