use Rattle.ref_mark.proofs.Common.{ap, ◌∙◌, is_in, Ground, Sweeping, CycleHeap}
use Rattle.ref_mark.proofs.SettledMoves.{sweeping_is_within}
use Rattle.ref_mark.proofs.marker.Marker.to_idle.Goals as goal

pub end_moves-requires-clause-tuned : goal.end_moves-requires-clause-tuned
end_moves-requires-clause-tuned g c =
    ap (λ (g : Ground). g.space.stage) c.end_cycle.ensures
    ∙ c.self.invariant.moves.tuned
    (sweeping_is_within c.self.inside.phase
    (ap (λ (k : CycleHeap). is_in k.phase Sweeping) c.self.view_is ∙ c.requires.sweeping))
