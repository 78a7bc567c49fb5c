-- What the heap inside a world does, and what it doesn't: worked and illegal examples.
use Rattle.ref_world.proofs.Common.{◌≡◌, ℕ, [], refl, Reply, Core}
use Rattle.ref_base.specs.declared.fault.Fault.TheVariants.{MovesLeft}
use Rattle.ref_base.specs.declared.phase.Phase.TheVariants.{Moving}
use Rattle.ref_base.specs.declared.plain_step.PlainStep.TheVariants as plain
use Rattle.ref_base.specs.declared.reply.Reply.TheVariants as replies
use Rattle.ref_base.specs.declared.step.Step.TheVariants as steps
use Rattle.ref_mark.specs.MarkCalls.{end_move_reply, unless_refused}
use Rattle.ref_base.specs.Refusals.{is_in, unless}
use Rattle.ref_base.specs.declared.fault.Fault.TheVariants.{WrongPhase}
use Rattle.std.specs.Prelude.{None}
use Rattle.ref_world.specs.InsideHeaps.{DoesInside, DoesEach}
use Rattle.ref_world.specs.WorldHeaps.{cycles_of}

-- a close asks nothing of the heap, and no rows leave the world as it is
a_close_leaves_the_heap : (c : Core) (m q : ℕ) (reply : Reply) → DoesInside c (steps.Close m q) reply c
a_close_leaves_the_heap c m q reply = refl

no_rows_do_nothing : (c : Core) → DoesEach c [] c
no_rows_do_nothing c = refl

-- promise: World::step: moves end where none is left to move
-- moves end where nothing is left to move
moves_end_where_none_is_left : (c d : Core) → (cycles_of c.heap).phase ≡ Moving
    → (cycles_of c.heap).space.still_to_move ≡ []
    → DoesInside c (steps.Plain plain.EndMove) (replies.Refused MovesLeft) d → ⊥
moves_end_where_none_is_left c d moving none does =
    let told : replies.Refused MovesLeft
    ≡ unless_refused (unless (is_in (cycles_of c.heap).phase Moving) WrongPhase None) replies.Refused
    (end_move_reply (cycles_of c.heap).space.still_to_move) = does.answer in
    let here : replies.Refused MovesLeft ≡ replies.Done = rw (moving, none) at told in
    absurd (cc)
