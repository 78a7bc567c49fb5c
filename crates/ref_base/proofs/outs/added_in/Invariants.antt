use Rattle.ref_base.proofs.Common.{◌≡◌, ◌≤◌, take}
use Rattle.ref_base.specs.Outs.{added_in}
use Rattle.ref_base.proofs.outs.added_in.Given as goal

abbrev pub invariant-loop-one : goal.invariant-loop-one
invariant-loop-one l = (l.count ≡ added_in (take l.one-index l.done)) × (l.count ≤ l.one-index)
