-- What holds of every world still holds after a row.
use Rattle.ref_world.proofs.Common.{arith, ◌≡◌, ℕ, List, Result, Ok, Err, ap, ◌∙◌, slice_index_or, slice_set, Lists}
use Rattle.ref_world.proofs.Common.{new_queue, Notice, Fault, Reply, Step, Core, IsRowOf, IsSound, Does}
use Rattle.ref_base.specs.declared.reply.Reply.TheVariants.{Refused}
use Rattle.ref_base.proofs.Places.{set_each}
use Rattle.ref_world.proofs.ReachedCores.{reached_after}

-- where the queues stay
pub sound_after : (old new : Core) (step : Step) (reply : Reply) → new.queues ≡ old.queues → IsSound old
    → IsRowOf old step reply new → IsSound new
sound_after old new step reply same sound row = grind (arith, reached_after old new step reply sound.reached row)

-- where one of them changes, and keeps its number
pub sound_queue_after : (old new : Core) (step : Step) (reply : Reply) (i : ℕ) (queue : Lists Notice)
    → new.queues ≡ slice_set old.queues i queue → queue.queue ≡ i → IsSound old → IsRowOf old step reply new
    → IsSound new
sound_queue_after old new step reply i queue is own sound row = record {
  reached = reached_after old new step reply sound.reached row;
  numbered = λ q.
      ap (λ (qs : List (Lists Notice)). (slice_index_or qs q (new_queue q)).queue) is
      ∙ set_each (λ k (l : Lists Notice). l.queue ≡ k) old.queues i queue (λ k. new_queue k) own sound.numbered q;
}

-- the same of a call that does the step, or refuses it
pub sound_queue_does : (old new : Core) (step : Step) (reply : Result Reply Fault) (i : ℕ) (queue : Lists Notice)
    → new.queues ≡ slice_set old.queues i queue → queue.queue ≡ i → IsSound old → Does old step reply new → IsSound new
sound_queue_does old new step (Ok reply) i queue is own sound row =
    sound_queue_after old new step reply i queue is own sound row
sound_queue_does old new step (Err fault) i queue is own sound row =
    sound_queue_after old new step (Refused fault) i queue is own sound row
