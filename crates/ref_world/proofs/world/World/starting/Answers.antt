use Rattle.ref_world.proofs.Common.{arith, ap, sym, Hands}
use Rattle.ref_world.proofs.FirstCores.{first_sound}
use Rattle.ref_world.proofs.world.World.starting.Goals as goal

pub invariant_of-result : goal.invariant_of-result
invariant_of-result g c = grind (arith, first_sound c.args.config c.args.start)

pub returns-in-Ok-clause-stands : goal.returns-in-Ok-clause-stands
returns-in-Ok-clause-stands g c = record {
  heap = c.in_ok-heap.ensures.stands;
  number = grind arith;
  mutator_hands = ap (λ (hs : Hands). hs.mutators) (sym c.in_ok-hands.ensures.ok);
  worker_hands = ap (λ (hs : Hands). hs.workers) (sym c.in_ok-hands.ensures.ok);
  queues = sym c.in-Ok.ensures;
}
