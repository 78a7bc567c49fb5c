use Rattle.ref_mark.proofs.Common.{◌≡◌, ◌++◌, map, take, drop, no_chain}
use Rattle.ref_mark.proofs.marker.Marker.forget_found.Given as goal

-- the lists so far are empty, the others as they were, and nothing else changes
abbrev pub invariant-loop-worker : goal.invariant-loop-worker
invariant-loop-worker g l = record {
  found : l.self-inside.found.items
      ≡ map (λ c. no_chain) (take l.worker l.initial.self-inside.found.items)
      ++ drop l.worker l.initial.self-inside.found.items;
  objects : l.self-inside.objects ≡ l.initial.self-inside.objects;
  grey : l.self-inside.grey ≡ l.initial.self-inside.grey;
  phase : l.self-inside.phase ≡ l.initial.self-inside.phase;
  policy : l.self-inside.policy ≡ l.initial.self-inside.policy;
  cycle : l.self-inside.cycle ≡ l.initial.self-inside.cycle;
}
