use Rattle.ref_mark.proofs.Common.{arith, ap, ◌∙◌, is_in, Clearing, CycleHeap}
use Rattle.ref_mark.proofs.SettledMoves.{clearing_is_within}
use Rattle.ref_mark.proofs.marker.Marker.to_sweeping.Goals as goal

pub invariant_of-self : goal.invariant_of-self
invariant_of-self g c = grind arith

pub condemn-requires-clause-tuned : goal.condemn-requires-clause-tuned
condemn-requires-clause-tuned g c =
    c.self.invariant.moves.tuned
    (clearing_is_within c.self.inside.phase
    (ap (λ (k : CycleHeap). is_in k.phase Clearing) c.self.view_is ∙ c.requires.clearing))
