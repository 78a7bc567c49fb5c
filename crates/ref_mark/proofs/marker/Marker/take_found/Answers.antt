use Rattle.ref_mark.proofs.Common.{◌≡◌, ◌<◌, ℕ, ◌∙◌, arith, Clearing, CycleHeap}
use Rattle.ref_mark.proofs.MarkerLemmas.{worker_within, first_told, sound_looked, seen_looked}
use Rattle.ref_mark.proofs.SettledMoves.{settled_same, space_looked}
use Rattle.ref_mark.proofs.marker.Marker.take_found.Goals as goal

-- the worker is one of the heap's, by the fields of both
clearer_within : {k now : CycleHeap} {v w : ℕ} → k ≡ now → v ≡ w → w < now.heap.config.workers
    → v < k.heap.config.workers
clearer_within same own within = rw (same, own) within

pub invariant_of-self : goal.invariant_of-self
invariant_of-self g c =
    let worker =
    clearer_within c.self.view_is c.worker.view_is
    (worker_within c.args.self.now.heap c.args.self.now.phase Clearing c.args.worker c.in_ok-check_work.ensures) in
    record {
      lists =
          sound_looked c.worker.inside.0 worker c.index.ensures c.look_at_first-look.ensures.after
          c.self.invariant.lists c.self.inside.cycle c.look_at_first-look.ensures.objects;
      moves = settled_same c.self.inside.objects.space _ _ _
          (space_looked c.self.inside.objects _ _ c.self.inside.cycle c.look_at_first-look.ensures.objects)
          c.self.invariant.moves;
    }

pub returns-clause-answer : goal.returns-clause-answer
returns-clause-answer g c =
    let worker =
    clearer_within c.self.view_is c.worker.view_is
    (worker_within c.args.self.now.heap c.args.self.now.phase Clearing c.args.worker c.in_ok-check_work.ensures) in
    rw (← c.self.view_is, ← c.worker.view_is)
    (c.look_at_first-look.ensures.answer
    ∙ first_told c.worker.inside.0 worker c.index.ensures c.look_at_first-look.ensures.after c.self.invariant.lists
    c.self.inside.policy c.self.inside.cycle)

pub returns-clause-after : goal.returns-clause-after
returns-clause-after g c = grind (arith, seen_looked)
