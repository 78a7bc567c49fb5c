use Rattle.std.proofs.Common.{◌≡◌, ◌++◌, drop}
use Rattle.ref_process.specs.Desks.{owed_owners}
use Rattle.ref_process.proofs.processor.making.collect_owed.Given as goal

abbrev pub invariant-loop-place : goal.invariant-loop-place
invariant-loop-place g l = l.owners.items ++ owed_owners (drop l.place-index l.places) ≡ owed_owners l.places
