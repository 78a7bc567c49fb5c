-- The history of a heap: how each path to what a mark's end dooms leaves what lives.
use Rattle.ref_share.proofs.Common.{arith, ◌≡◌, ℕ, true, List, doomed_at, has, graph_of, State, IsHeapTurn}
use Rattle.ref_base.specs.LeavingEdges.{FirstLeaves, LeavesBy}
use Rattle.ref_base.specs.Paths.{IsPath, soft_and_weak_referents}
use Rattle.ref_base.proofs.LeavingLaws.{has_first_step, first_step_clears}
use Rattle.ref_base.specs.declared.heap_step.HeapStep.TheVariants as heap
use Rattle.ref_base.specs.declared.plain_step.PlainStep.TheVariants as plain
use Rattle.ref_base.specs.declared.reply.Reply.TheVariants as told
use Rattle.ref_world.specs.declared.heap_machine.HeapReply.TheVariants as replies

pub leaves_by_a_new_clear : (a : State) (count : ℕ) (b : State) (n : ℕ) (before : List ℕ)
    → IsHeapTurn a (heap.Plain plain.EndMark) (replies.Told (told.Doomed count)) b
    → IsPath soft_and_weak_referents (graph_of a.world) n before → has (doomed_at a) n ≡ true
    → (outer inner : ℕ) × FirstLeaves (doomed_at a) n before outer inner
    × LeavesBy a.world.heap.objects (doomed_at a) outer inner
leaves_by_a_new_clear a count b n before ends path doomed = grind (arith, has_first_step, first_step_clears)
