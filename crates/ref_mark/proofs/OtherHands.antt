-- Whether a heap stands for a state is no matter of hands and queues, nor of moments but for what was ever kept in
-- them.
use Rattle.ref_mark.proofs.Common.{List, State}
use Rattle.ref_base.specs.QueueLists.{Lists}
use Rattle.ref_base.specs.Worlds.{Notice}

-- the state with other hands and queues
abbrev pub with_others : State → List (List Notice) → List (List Notice) → List (Lists Notice) → State
with_others a mutators workers queues = record a {
  world = record a.world { mutator_hands = mutators; worker_hands = workers; queues = queues };
}
