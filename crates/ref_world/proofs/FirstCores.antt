-- The world at first.
use Rattle.ref_world.proofs.Common.{◌≡◌, ℕ, ◌+◌, [], ◌∷◌, ◌++◌, refl, ap, arith, Lists, new_queue, new_queues}
use Rattle.ref_world.proofs.Common.{Notice, Config, HeapStands, Stands, IsSound}
use Rattle.std.proofs.Common.{zero, suc}
use Rattle.ref_clear.specs.ClearHeaps.{first_clear_heap}
use Rattle.ref_world.specs.Cores.{starting_core}
use Rattle.ref_mark.specs.MarkRows.{starting_state}
use Rattle.ref_objects.specs.declared.start.Start.{Start}
use Rattle.ref_base.proofs.SoundWorlds.{first_queue}

-- one more new queue, last
pub new_queues_more : (first count next : ℕ) → next ≡ first + count
    → new_queues {T = Notice} first (count + 1) ≡ new_queues first count ++ new_queue next ∷ []
new_queues_more first zero next is = ap (λ q. new_queue q ∷ []) (omega (arith, is))
new_queues_more first (suc count) next is = grind (arith, new_queues_more (first + 1) count next)

module _ (config : Config) (start : Start)
    (stands : HeapStands (first_clear_heap config 0 start) (starting_state config 0 start.obj start.cycle))
  where
    pub first_stands : Stands (starting_core config start) (starting_state config 0 start.obj start.cycle)
    first_stands = record { heap = stands; number = refl; mutator_hands = refl; worker_hands = refl; queues = refl }

    pub first_sound : IsSound (starting_core config start)
    first_sound = record {
      reached = record {
        config = config;
        start = start;
        rows = [];
        state = starting_state config 0 start.obj start.cycle;
        run = refl;
        stands = first_stands;
      };
      numbered = λ q. ap (λ (l : Lists Notice). l.queue) (first_queue config q);
    }
