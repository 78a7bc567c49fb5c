-- The rows of moves: objects are chosen, move one by one, and at last none is left.
use Rattle.ref_mark.proofs.Common.{◌≡◌, ℕ, Bool, true, refl, arith, ap, ◌∙◌, List, [], ◌∷◌, Option, Some, None}
use Rattle.ref_mark.proofs.Common.{cases_Bool, ◌⊎◌, inl, inr, if◌then◌else◌, is_there, is_in, is_empty, unless}
use Rattle.ref_mark.proofs.Common.{work_refusal, State, Heap, Fault, Phase, Idle, Moving, CycleHeap, MarkStands}
use Rattle.ref_mark.proofs.Common.{cycle_brought, cycle_in_phase, first_in}
use Rattle.std.proofs.Common.{Result, Ok, Err}
use Rattle.ref_base.specs.Refusals.{select_refusal}
use Rattle.ref_base.specs.CollectorRows.{Selects, Moves, EndsMove, move_begun, with_world}
use Rattle.ref_base.specs.Replay.{with_phase}
use Rattle.ref_base.specs.declared.reply.Reply.TheVariants as replies
use Rattle.ref_base.specs.declared.fault.Fault.TheVariants.{NoRoom, AddressesSpent, WrongPhase}
use Rattle.ref_objects.specs.Grounds.{choice_in, with_choice, wins_room, has_addresses}
use Rattle.ref_mark.specs.CycleHeaps.{chosen_by, moves_begun, only_there, next_to_move, moves_ended}
use Rattle.ref_mark.specs.MarkCalls.{reply_of, moved_reply, end_move_reply}
use Rattle.ref_mark.proofs.HealedMarks.{none_unhealed}
use Rattle.ref_mark.proofs.MovedSpaces.{brought_stands}
use Rattle.ref_mark.proofs.Passed.{is_idle, is_moving, work_passed}
use Rattle.ref_mark.proofs.PlainStates.{plain_state-is}

-- ---- a choice

-- a choice that is refused has one of two faults
no_choice : (k : CycleHeap) (fault : Fault) → choice_in k.space ≡ Err fault
    → (fault ≡ NoRoom) ⊎ (fault ≡ AddressesSpent)
no_choice k fault is =
    elim (cases_Bool (wins_room k.space)) [
      | inl wins ↦ elim (cases_Bool (has_addresses k.space)) [ inl spare ↦ grind arith | inr spent ↦ grind arith ]
      | inr none ↦ grind arith
    ]

-- and one that isn't leaves the chosen to move
some_choice : (k : CycleHeap) (count : ℕ) → choice_in k.space ≡ Ok count → (with_choice k.space).has_choice ≡ true
some_choice k count is = grind arith

-- nothing is unhealed between cycles, nor once objects were chosen
chosen_stands : (k : CycleHeap) (a : State) (count : ℕ) → MarkStands k a → k.phase ≡ Idle
    → choice_in k.space ≡ Ok count
    → MarkStands (record k { space = with_choice k.space; phase = Moving }) (move_begun a)
chosen_stands k a count stands idle is =
    let unhealed : (with_choice k.space).unhealed ≡ k.space.unhealed = grind arith in
    grind (arith, some_choice k count is, none_unhealed k a stands, plain_state-is k a Idle stands)

chosen_row : (k : CycleHeap) (a : State) (answer : Result ℕ Fault) → MarkStands k a → k.phase ≡ Idle
    → choice_in k.space ≡ answer
    → (b : State) × Selects a (reply_of replies.Selected answer) b × MarkStands (chosen_by k answer) b
chosen_row k a (Ok count) stands idle is =
    (move_begun a, inl (count, (refl, refl)), chosen_stands k a count stands idle is)
chosen_row k a (Err fault) stands idle is = (
  a,
  inr (
    elim (no_choice k fault is) [
      | inl room ↦ inl (ap (λ f. replies.Refused f) room)
      | inr spent ↦ inr (ap (λ f. replies.Refused f) spent)
    ],
    refl,
  ),
  stands,
)

idle_passed : (phase : Phase) (moved : Bool) → select_refusal phase moved ≡ None → is_in phase Idle ≡ true
idle_passed phase moved none = grind arith

-- a choice that isn't refused for the phase
pub select_row : (k : CycleHeap) (a : State) → MarkStands k a → select_refusal k.phase k.space.has_choice ≡ None
    → (b : State) × Selects a (reply_of replies.Selected (choice_in k.space)) b × MarkStands (moves_begun k) b
select_row k a stands none =
    chosen_row k a (choice_in k.space) stands (is_idle k.phase (idle_passed k.phase k.space.has_choice none)) refl

-- ---- moves

-- what moves is there
moved_there : (k : CycleHeap) (a : State) (value : Option ℕ) → a.world.heap ≡ k.heap
    → Moves a (moved_reply (only_there k value)) a
moved_there k a None same = (refl, refl)
moved_there k a (Some n) same =
    elim (cases_Bool (is_there k.heap.objects n)) [
      | inl there ↦ simp there (ap (λ (h : Heap). is_there h.objects n) same ∙ there, refl)
      | inr gone ↦ simp gone (refl, refl)
    ]

pub move_row : (k : CycleHeap) (a : State) (w : ℕ) → MarkStands k a → work_refusal k.heap k.phase Moving w ≡ None
    → (b : State) × Moves a (moved_reply (next_to_move k)) b × MarkStands (cycle_brought k (next_to_move k)) b
move_row k a w stands none =
    let moving : k.phase ≡ Moving = is_moving k.phase (work_passed k Moving w none).1 in
    let same : a.world.heap ≡ k.heap =
    ap (λ (s : State). s.world.heap) (plain_state-is k a Moving stands moving refl) in
    (a, moved_there k a (first_in k.space.still_to_move) same, brought_stands k a (next_to_move k) stands)

-- ---- the end of moves

idle_stands : (k : CycleHeap) (a : State) → MarkStands k a → k.phase ≡ Moving
    → MarkStands (cycle_in_phase k Idle) (with_world a (with_phase a.world Idle))
idle_stands k a stands moving = grind (arith, plain_state-is k a Moving stands)

ended_by : (k : CycleHeap) (a : State) (left : List ℕ) → MarkStands k a → k.phase ≡ Moving
    → (b : State) × EndsMove a (end_move_reply left) b
    × MarkStands (if is_empty left then cycle_in_phase k Idle else k) b
ended_by k a [] stands moving =
    (with_world a (with_phase a.world Idle), inl (refl, refl), idle_stands k a stands moving)
ended_by k a (n ∷ ns) stands moving = (a, inr (refl, refl), stands)

moving_passed : (phase : Phase) → unless (is_in phase Moving) WrongPhase None ≡ None → is_in phase Moving ≡ true
moving_passed phase none = grind arith

-- of moves that go on
pub end_move_row : (k : CycleHeap) (a : State) → MarkStands k a
    → unless (is_in k.phase Moving) WrongPhase None ≡ None
    → (b : State) × EndsMove a (end_move_reply k.space.still_to_move) b × MarkStands (moves_ended k) b
end_move_row k a stands none =
    ended_by k a k.space.still_to_move stands (is_moving k.phase (moving_passed k.phase none))
