-- Rows of the steps that fill or empty a hand by way of the heap.
use Rattle.ref_world.proofs.Common.{arith, ◌≡◌, ℕ, true, List, [], ◌∷◌, Some, None, refl, sym, ap, subst, ◌∙◌, has}
use Rattle.ref_world.proofs.Common.{told_notices, Notice, hand_of, unless, has_slot, drop_refusal}
use Rattle.ref_world.proofs.Common.{Actor, Mutator, Worker, NoSuchActor, Reply, unless_refused, HeapDoes, WorldHeap}
use Rattle.ref_world.proofs.Common.{answer_in, received, Core, Hands, hand_in, with_rest_in, has_hand, filling_refusal}
use Rattle.ref_world.proofs.Common.{filling_some_refusal, refusal}
use Rattle.ref_world.proofs.Common.{emptying_refusal, IsReached, IsRowOf, heap_no_of, model_heap, State, heap_refusal}
use Rattle.ref_world.proofs.Common.{Stands}
use Rattle.std.proofs.Common.{◌==◌, ◌&&◌}
use Rattle.ref_base.specs.Refusals.{fits}
use Rattle.ref_base.specs.HeapSteps.{hold_of, spending}
use Rattle.ref_base.specs.declared.fault.Fault.TheVariants.{ForeignHold}
use Rattle.ref_base.specs.declared.heap_step.HoldName.{HoldName}
use Rattle.ref_world.specs.HeapReplies.{told_reply, GivesOut, IsTold}
use Rattle.ref_world.specs.HeapReplies.{HeapAnswer}
use Rattle.ref_world.specs.declared.heap_machine.HeapReply.TheVariants.{Told, Notice as Given, Held, Back, Handed}
use Rattle.ref_clear.proofs.HeapLaws.{stands_number}
use Rattle.ref_base.proofs.HeapRowLaws.{free_unhook, free_hand, full_adopt, full_release}
use Rattle.ref_world.proofs.AskedRows.{handed_in, asked_core, row_to, asked_row}
use Rattle.ref_world.proofs.ReachedCores.{same_hand, same_holds, same_actors, hand_is_counted}
use Rattle.ref_base.proofs.RowForms.{unless_passes}
use Rattle.ref_world.proofs.Refusals.{same_actor}
use Rattle.ref_base.specs.declared.heap_step.HeapStep.TheVariants as heap
use Rattle.ref_base.specs.declared.reply.Reply.TheVariants as replies
use Rattle.ref_base.specs.declared.step.Step.TheVariants as steps

-- ---- an empty hand

pub free_from : (hands : Hands) (who : Actor) → filling_refusal hands who ≡ None → hand_in hands who ≡ []
free_from hands who accepted = grind arith

-- where it may be filled with so many at most
pub free_for_some : (hands : Hands) (who : Actor) (max : ℕ) → filling_some_refusal hands who max ≡ None
    → (filling_refusal hands who ≡ None) × (fits max 0 ≡ true)
free_for_some hands who max accepted = grind arith

-- the hand that an unhook's notice goes to
pub unhook_row : (c : Core) (m s : ℕ) → hand_in c.hands (Mutator m) ≡ []
    → IsRowOf c (steps.Unhook m s) (answer_in c.heap (heap.Unhook m s))
    (asked_core c (heap.Unhook m s) (received c.hands (Mutator m) (told_notices (answer_in c.heap (heap.Unhook m s)))))
unhook_row c m s free a stands =
    asked_row c a (steps.Unhook m s) (heap.Unhook m s) stands refl
    (free_unhook a m s (same_hand c a stands (Mutator m) ∙ free))

pub hand_row : (c : Core) (k : ℕ) → hand_in c.hands (Worker k) ≡ []
    → IsRowOf c (steps.Hand k) (answer_in c.heap (heap.Hand k))
    (asked_core c (heap.Hand k) (received c.hands (Worker k) (told_notices (answer_in c.heap (heap.Hand k)))))
hand_row c k free a stands =
    asked_row c a (steps.Hand k) (heap.Hand k) stands refl
    (free_hand a k (same_hand c a stands (Worker k) ∙ free))

-- an empty hand is filled with so many at most as there is room for in it
free_hands : (a : State) (k max : ℕ) → hand_of a.world (Worker k) ≡ []
    → refusal a (steps.Hands k max) ≡ heap_refusal a (heap.Hands k max [])
free_hands a k max free = grind arith

pub hands_row : (c : Core) (k max : ℕ) → hand_in c.hands (Worker k) ≡ []
    → IsRowOf c (steps.Hands k max) (answer_in c.heap (heap.Hands k max []))
    (asked_core c (heap.Hands k max [])
    (received c.hands (Worker k) (told_notices (answer_in c.heap (heap.Hands k max [])))))
hands_row c k max free a stands =
    asked_row c a (steps.Hands k max) (heap.Hands k max []) stands refl
    (free_hands a k max (same_hand c a stands (Worker k) ∙ free))

-- ---- a full hand: its first notice is a hold that the heap counts, so an adopt and a release are accepted

-- what is accepted gives no hold back
pub adopted_told : (number m d : ℕ) (hold : HoldName) (reply : HeapAnswer) (n : ℕ)
    → GivesOut number (heap.Adopt m d hold) reply → told_reply reply ≡ replies.Object n → IsTold reply
adopted_told number m d hold (Told told) n gives is = tt
adopted_told number m d hold (Given notice) n gives is = absurd gives
adopted_told number m d hold (Held held) n gives is = absurd gives
adopted_told number m d hold (Back fault back) n gives is = absurd cc
adopted_told number m d hold (Handed told batch) n gives is = absurd gives

pub released_told : (number : ℕ) (hold : HoldName) (reply : HeapAnswer)
    → GivesOut number (heap.Release hold) reply → told_reply reply ≡ replies.Done → IsTold reply
released_told number hold (Told told) gives is = tt
released_told number hold (Given notice) gives is = absurd gives
released_told number hold (Held held) gives is = absurd gives
released_told number hold (Back fault back) gives is = absurd cc
released_told number hold (Handed told batch) gives is = absurd gives

-- the hold of what a notice reports: the world's heap has number 0
abbrev pub own_hold : Notice → HoldName
own_hold notice = record { heap_no = 0; object = notice.object }

module _ (c : Core) (reached : IsReached c) where
  own_is : (a : State) (notice : Notice) → Stands c a → hold_of a.world notice ≡ own_hold notice
  own_is a notice stands =
      ap (λ no. record { heap_no = no; object = notice.object }) (stands_number c.heap a stands.heap ∙ stands.number)

  zero_no : heap_no_of c.heap ≡ 0
  zero_no = reached.stands.number

  counted : (who : Actor) (notice : Notice) (rest : List Notice) → has_hand c.hands who ≡ true
      → hand_in c.hands who ≡ notice ∷ rest
      → ((0 == (heap_no_of c.heap)) && has (model_heap c.heap).holds notice.object) ≡ true
  counted who notice rest there full = rw (zero_no, hand_is_counted c reached who notice rest there full) refl

  pub adopted_reply : (m d : ℕ) (notice : Notice) (rest : List Notice) → drop_refusal (model_heap c.heap) m d ≡ None
      → has_hand c.hands (Mutator m) ≡ true → hand_in c.hands (Mutator m) ≡ notice ∷ rest
      → answer_in c.heap (heap.Adopt m d (own_hold notice)) ≡ replies.Object notice.object
  adopted_reply m d notice rest slot there full =
      let within = unless_passes (has_slot (model_heap c.heap) m d) NoSuchActor None slot in
      ap (λ refused. unless_refused refused replies.Refused (replies.Object notice.object))
      (ap (λ test. unless test NoSuchActor
      (unless ((0 == (heap_no_of c.heap)) && has (model_heap c.heap).holds notice.object) ForeignHold None)) within.0
      ∙ ap (λ test. unless test ForeignHold None) (counted (Mutator m) notice rest there full))

  pub released_reply : (who : Actor) (notice : Notice) (rest : List Notice)
      → has_hand c.hands who ≡ true → hand_in c.hands who ≡ notice ∷ rest
      → answer_in c.heap (heap.Release (own_hold notice)) ≡ replies.Done
  released_reply who notice rest there full = search (counted who notice rest there full)

  adopt_row : (m d : ℕ) (notice : Notice) (rest : List Notice) → drop_refusal (model_heap c.heap) m d ≡ None
      → has_hand c.hands (Mutator m) ≡ true → hand_in c.hands (Mutator m) ≡ notice ∷ rest
      → IsRowOf c (steps.Adopt m d) (replies.Object notice.object)
      (asked_core c (heap.Adopt m d (own_hold notice)) (with_rest_in c.hands (Mutator m)))
  adopt_row m d notice rest slot there full a stands =
      let asked = heap.Adopt m d (own_hold notice) in
      let hand : hand_of a.world (Mutator m) ≡ notice ∷ rest = same_hand c a stands (Mutator m) ∙ full in
      let held : has a.world.heap.holds notice.object ≡ true =
      ap (λ ns. has ns notice.object) (same_holds c a stands)
      ∙ hand_is_counted c reached (Mutator m) notice rest there full in
      subst (λ (r : Reply). row_to a (steps.Adopt m d) r (asked_core c asked (handed_in c.hands (steps.Adopt m d) r)))
      (adopted_reply m d notice rest slot there full)
      (asked_row c a (steps.Adopt m d) asked stands
      (ap (spending a.world (λ hold. heap.Adopt m d hold)) hand
      ∙ ap (λ hold. Some (heap.Adopt m d hold)) (own_is a notice stands))
      (full_adopt a m d notice rest hand held
      ∙ ap (λ hold. heap_refusal a (heap.Adopt m d hold)) (own_is a notice stands)))

  release_row : (who : Actor) (notice : Notice) (rest : List Notice) → has_hand c.hands who ≡ true
      → hand_in c.hands who ≡ notice ∷ rest
      → IsRowOf c (steps.Release who) replies.Done
      (asked_core c (heap.Release (own_hold notice)) (with_rest_in c.hands who))
  release_row who notice rest there full a stands =
      let asked = heap.Release (own_hold notice) in
      let hand : hand_of a.world who ≡ notice ∷ rest = same_hand c a stands who ∙ full in
      let held : has a.world.heap.holds notice.object ≡ true =
      ap (λ ns. has ns notice.object) (same_holds c a stands) ∙ hand_is_counted c reached who notice rest there full in
      subst (λ (r : Reply). row_to a (steps.Release who) r
      (asked_core c asked (handed_in c.hands (steps.Release who) r)))
      (released_reply who notice rest there full)
      (asked_row c a (steps.Release who) asked stands
      (ap (spending a.world (λ hold. heap.Release hold)) hand
      ∙ ap (λ hold. Some (heap.Release hold)) (own_is a notice stands))
      (full_release a who notice rest (same_actor c a stands who ∙ sym (same_actors c reached who) ∙ there) hand held
      ∙ ap (λ hold. heap_refusal a (heap.Release hold)) (own_is a notice stands)))

  -- ---- as the calls tell it

  pub adopt_reply : (m d : ℕ) (notice : Notice) (rest : List Notice) (hold : HoldName) (reply : Reply) {k : WorldHeap}
      → drop_refusal (model_heap c.heap) m d ≡ None → emptying_refusal c.hands (Mutator m) ≡ None
      → hand_in c.hands (Mutator m) ≡ notice ∷ rest → hold ≡ own_hold notice
      → HeapDoes c.heap (heap.Adopt m d hold) reply k → reply ≡ replies.Object notice.object
  adopt_reply m d notice rest hold reply slot accepted full is does = grind (arith, adopted_reply)

  pub adopt_done : (m d : ℕ) (notice : Notice) (rest : List Notice) (hold : HoldName) {reply told : Reply}
      {k : WorldHeap} {hands : Hands}
      → drop_refusal (model_heap c.heap) m d ≡ None → emptying_refusal c.hands (Mutator m) ≡ None
      → hand_in c.hands (Mutator m) ≡ notice ∷ rest → hold ≡ own_hold notice
      → reply ≡ told → HeapDoes c.heap (heap.Adopt m d hold) told k → hands ≡ with_rest_in c.hands (Mutator m)
      → IsRowOf c (steps.Adopt m d) reply (record { heap = k; hands = hands; queues = c.queues })
  adopt_done m d notice rest hold {reply} {told} {k} {hands} slot accepted full is tells does emptied =
      grind (arith, adopt_reply, adopt_row)

  pub release_reply : (who : Actor) (notice : Notice) (rest : List Notice) (hold : HoldName) (reply : Reply)
      {k : WorldHeap} → emptying_refusal c.hands who ≡ None → hand_in c.hands who ≡ notice ∷ rest
      → hold ≡ own_hold notice → HeapDoes c.heap (heap.Release hold) reply k → reply ≡ replies.Done
  release_reply who notice rest hold reply accepted full is does = grind (arith, released_reply who notice rest)

  pub release_done : (who : Actor) (notice : Notice) (rest : List Notice) (hold : HoldName) {reply told : Reply}
      {k : WorldHeap} {hands : Hands}
      → emptying_refusal c.hands who ≡ None → hand_in c.hands who ≡ notice ∷ rest → hold ≡ own_hold notice
      → reply ≡ told → HeapDoes c.heap (heap.Release hold) told k → hands ≡ with_rest_in c.hands who
      → IsRowOf c (steps.Release who) reply (record { heap = k; hands = hands; queues = c.queues })
  release_done who notice rest hold {reply} {told} {k} {hands} accepted full is tells does emptied =
      grind (arith, release_reply, release_row)
