use Rattle.ref_mark.proofs.Common.{◌≡◌, ◌≤◌, map, length, set, ◌∙◌, ap, arith, no_chain}
use Rattle.std.proofs.lemmas.List.Edits.{map_over_more}
use Rattle.ref_mark.proofs.MarkerLemmas.{all_cleared, sound_emptied, seen_emptied}
use Rattle.ref_mark.proofs.marker.Marker.forget_found.Goals as goal

pub invariant_of-self : goal.invariant_of-self
invariant_of-self g c =
    let all : length c.self.inside.found.items ≤ c.loop-worker.worker =
    omega (arith, c.loop-worker-test.false, c.len-worker-end.ensures) in
    let whole : c.loop-worker.self-inside.found.items ≡ map (λ x. no_chain) c.self.inside.found.items =
    all_cleared c.self.inside.found.items c.loop-worker.worker all c.loop-worker.invariant.found in
    rw (
      whole,
      c.loop-worker.invariant.objects,
      c.loop-worker.invariant.grey,
      c.loop-worker.invariant.phase,
      c.loop-worker.invariant.cycle,
    )
    (record { lists = sound_emptied c.self.invariant.lists; moves = c.self.invariant.moves })

pub loop-worker-preserved : goal.loop-worker-preserved
loop-worker-preserved g c = record {
  found = ap (set c.loop-worker.self-inside.found.items c.loop-worker.worker) c.new.ensures
      ∙ map_over_more (λ x. no_chain) c.self.inside.found.items c.loop-worker.self-inside.found.items
      c.loop-worker.worker
      c.index_mut.result.now (omega (arith, c.loop-worker-test.true, c.len-worker-end.ensures))
      c.loop-worker.invariant.found c.index_mut.ensures.value;
  objects = c.loop-worker.invariant.objects;
  grey = c.loop-worker.invariant.grey;
  phase = c.loop-worker.invariant.phase;
  policy = c.loop-worker.invariant.policy;
  cycle = c.loop-worker.invariant.cycle;
}

pub returns : goal.returns
returns g c =
    let all : length c.self.inside.found.items ≤ c.loop-worker.worker =
    omega (arith, c.loop-worker-test.false, c.len-worker-end.ensures) in
    let whole : c.loop-worker.self-inside.found.items ≡ map (λ x. no_chain) c.self.inside.found.items =
    all_cleared c.self.inside.found.items c.loop-worker.worker all c.loop-worker.invariant.found in
    rw (
      ← c.self.view_is,
      whole,
      c.loop-worker.invariant.objects,
      c.loop-worker.invariant.grey,
      c.loop-worker.invariant.phase,
      c.loop-worker.invariant.policy,
      c.loop-worker.invariant.cycle,
    )
    (seen_emptied c.self.inside.objects c.self.inside.grey c.self.inside.found.items c.self.inside.phase
    c.self.inside.policy c.self.inside.cycle)
