-- Want of memory is answered by puts alone.
use Rattle.ref_base.proofs.Common.{arith, ◌≡◌, ℕ, Bool, true, false, List, [], ◌∷◌, Option, Some, None, refl, sym, ap}
use Rattle.ref_base.proofs.Common.{◌∙◌, is_some, nat_lt, length, ◌-◌, false≢true, Reference, object_at, Heap}
use Rattle.ref_base.proofs.Common.{reference_at, NamedStep, heap_step, Notice, Pending, queue_at, State, unless}
use Rattle.ref_base.proofs.Common.{unless_full, field_count, object_refusal, field_refusal, reference_refusal}
use Rattle.ref_base.proofs.Common.{holds_refusal, minting_refusal, unhook_refusal, hand_refusal, held_refusal, is_in}
use Rattle.ref_base.proofs.Common.{heap_refusal, refusal, Gives, GivesAnewIf, Loads, Gets, Unhooks, Holds, Polls}
use Rattle.ref_base.proofs.Common.{Closes, Scans, ClearsNext, Sweeps, Selects, Moves, EndsMove, looked_at}
use Rattle.ref_base.proofs.Common.{value_reply, HeapAccepts, AcceptsAsking, IsAnswer, IsRow, Fault, NoMemory, BadField}
use Rattle.ref_base.proofs.Common.{NotAReference, Actor, Marking, Reply, Step}
use Rattle.std.specs.Prelude.{◌^◌, nat_le}
use Rattle.ref_base.proofs.Common.{◌∷◌, ◌+◌, ℕ, take, map, subst, Lists, with_parcel, object_of, hand_of, pending_of}
use Rattle.ref_base.proofs.Common.{Worker, Mutator, is_mutator, NoSuchActor, one_handed, all_handed, one_taken}
use Rattle.ref_base.proofs.Common.{batch_of, fits, hands_refusal, PutsAll, Become, Done}
use Rattle.ref_base.specs.QueueBatches.{EndsBatch}
use Rattle.ref_base.specs.Outs.{Outs, IsWantedLast}
use Rattle.ref_base.specs.Refusals.{is_worker, is_queue}
use Rattle.ref_base.specs.declared.fault.Fault.TheVariants.{BadConfig, BadQueue}
use Rattle.ref_base.specs.declared.out.Done.TheVariants.{Added, Already, Closed, Refused}
use Rattle.ref_base.specs.Refusals.{unless_empty, empty_hand_refusal, asked_refusal}
use Rattle.ref_base.specs.declared.fault.Fault.TheVariants.{NumbersSpent}
use Rattle.ref_base.specs.declared.heap_step.HeapStep.TheVariants as heap
use Rattle.ref_base.specs.declared.reply.Reply.TheVariants as replies
use Rattle.ref_base.specs.declared.plain_step.PlainStep.TheVariants as plain
use Rattle.ref_base.specs.declared.step.Step.TheVariants as steps

-- ---- no refusal is for want of memory

abbrev is_memory : Fault → Bool
is_memory NoMemory = true
is_memory fault = false

abbrev wants : Option Fault → Bool
wants None = false
wants (Some fault) = is_memory fault

no_want : (test : Bool) (fault : Fault) (later : Option Fault) → is_memory fault ≡ false → wants later ≡ false
    → wants (unless test fault later) ≡ false
no_want true fault later other none = none
no_want false fault later other none = other

object_wants : (h : Heap) (next k : ℕ) → wants (object_refusal h next k) ≡ false
object_wants h next k = search no_want

field_wants : (h : Heap) (held : Option ℕ) (i : ℕ) → wants (field_refusal h held i) ≡ false
field_wants h None i = refl
field_wants h (Some n) i = no_want (nat_lt i (field_count (object_at h.objects n))) BadField None refl refl

reference_wants : (h : Heap) (held : Option ℕ) → wants (reference_refusal h held) ≡ false
reference_wants h None = refl
reference_wants h (Some n) = no_want (is_some (reference_at h n)) NotAReference None refl refl

holds_wants : (h : Heap) → wants (holds_refusal h) ≡ false
holds_wants h = no_want (nat_lt (length h.holds) (2 ^ 64 - 1)) NumbersSpent None refl refl

minting_wants : (h : Heap) (r : Option Reference) → wants (minting_refusal h r) ≡ false
minting_wants h None = refl
minting_wants h (Some r) = grind arith

unhook_wants : (h : Heap) (held : Option ℕ) → wants (unhook_refusal h held) ≡ false
unhook_wants h None = refl
unhook_wants h (Some n) = minting_wants h (reference_at h n)

held_wants : (h : Heap) (held : Option ℕ) → wants (held_refusal h held) ≡ false
held_wants h None = refl
held_wants h (Some n) = holds_wants h

hand_wants : (ps : List Pending) (h : Heap) → wants (hand_refusal ps h) ≡ false
hand_wants [] h = refl
hand_wants (p ∷ ps) h = holds_wants h

hands_wants : (ps : List Pending) (h : Heap) → wants (hands_refusal ps h) ≡ false
hands_wants [] h = refl
hands_wants (p ∷ ps) h =
    no_want (nat_le (length h.holds + length (p ∷ ps)) (2 ^ 64 - 1)) NumbersSpent None refl refl

empty_wants : (held : Option ℕ) (later : Option Fault) → wants later ≡ false → wants (unless_empty held later) ≡ false
empty_wants None later none = refl
empty_wants (Some n) later none = none

full_wants : (hand : List Notice) (later : Option Fault) → wants later ≡ false → wants (unless_full hand later) ≡ false
full_wants [] later none = none
full_wants (notice ∷ rest) later none = refl

empty_hand_wants : (hand : List Notice) → wants (empty_hand_refusal hand) ≡ false
empty_hand_wants [] = refl
empty_hand_wants (notice ∷ rest) = refl

heap_wants : (a : State) (step : NamedStep) → wants (heap_refusal a step) ≡ false
heap_wants a (heap.Plain (plain.New m d k)) = search (no_want, object_wants, refl)
heap_wants a (heap.Hands k max batch) =
    let some : List Pending = batch_of max (pending_of a.world k) in
    no_want (is_worker a.world.heap k) NoSuchActor _ refl
    (no_want (fits max (length batch)) BadConfig _ refl (hands_wants some a.world.heap))
heap_wants a step =
    search
    (no_want, object_wants, empty_wants, field_wants, reference_wants, unhook_wants, held_wants, hand_wants, refl)

asked_wants : (a : State) (asked : Option NamedStep) → wants (asked_refusal a asked) ≡ false
asked_wants a None = refl
asked_wants a (Some asked) = heap_wants a asked

step_wants : (a : State) (step : Step) → wants (refusal a step) ≡ false
step_wants a (steps.Put who) = search (no_want, empty_hand_wants, refl)
step_wants a (steps.Hands k max) =
    let hand : List Notice = hand_of a.world (Worker k) in
    no_want (is_worker a.world.heap k) NoSuchActor _ refl
    (no_want (fits max (length hand)) BadConfig _ refl
    (full_wants hand (heap_refusal a (heap.Hands k max [])) (heap_wants a (heap.Hands k max []))))
step_wants a (steps.Polls m q max) =
    let hand : List Notice = hand_of a.world (Mutator m) in
    no_want (is_mutator a.world.heap m) NoSuchActor _ refl
    (no_want (is_queue a.world.heap q) BadQueue _ refl
    (no_want (fits max (length hand)) BadConfig _ refl (full_wants hand None refl)))
step_wants a step = search (no_want, full_wants, empty_hand_wants, heap_wants, asked_wants, refl)

-- ---- no step that is accepted is answered so, but a put

abbrev tells_want : Reply → Bool
tells_want (replies.Refused fault) = is_memory fault
tells_want reply = false

told : {reply answer : Reply} → reply ≡ answer → tells_want answer ≡ false → tells_want reply ≡ false
told is other = ap tells_want is ∙ other

anew_tells : (flag : Bool) (answer : Reply) (c : State) (reply : Reply) (b : State) → GivesAnewIf flag answer c reply b
    → tells_want answer ≡ false → tells_want reply ≡ false
anew_tells true answer c reply b gives other = told gives.0 other
anew_tells false answer c reply b gives other = told gives.0 other

value_tells : (value : Option ℕ) → tells_want (value_reply value) ≡ false
value_tells None = refl
value_tells (Some n) = refl

load_tells : (a : State) (m d : ℕ) (value : Option ℕ) (reply : Reply) (b : State) → Loads a m d value reply b
    → tells_want reply ≡ false
load_tells a m d None reply b gives = told gives.0 refl
load_tells a m d (Some n) reply b gives =
    anew_tells (is_in a.world.phase Marking) (replies.Object n) _ reply b gives refl

get_tells : (a : State) (m d s : ℕ) (value : Option ℕ) (reply : Reply) (b : State) → Gets a m d s value reply b
    → tells_want reply ≡ false
get_tells a m d s None reply b gives = told gives.0 refl
get_tells a m d s (Some n) reply b gives = anew_tells (is_in _ Marking) (replies.Object n) _ reply b gives refl

unhook_tells : (a : State) (m s : ℕ) (held queue : Option ℕ) (reply : Reply) (b : State)
    → Unhooks a m s held queue reply b → tells_want reply ≡ false
unhook_tells a m s None queue reply b gives = told gives.0 refl
unhook_tells a m s (Some n) None reply b gives = told gives.0 refl
unhook_tells a m s (Some n) (Some q) reply b gives = told gives.0 refl

hold_tells : (a : State) (held : Option ℕ) (reply : Reply) (b : State) → Holds a held reply b → tells_want reply ≡ false
hold_tells a None reply b holds = absurd holds
hold_tells a (Some n) reply b gives = told gives.0 refl

look_tells : (a : State) (k n : ℕ) → tells_want (looked_at a k n) ≡ false
look_tells a k n = grind arith

clear_tells : (a : State) (k : ℕ) (found : List ℕ) (reply : Reply) (b : State) → ClearsNext a k found reply b
    → tells_want reply ≡ false
clear_tells a k [] reply b gives = told gives.0 refl
clear_tells a k (n ∷ rest) reply b gives = told gives.0 (look_tells a k n)

one_tells : (k : ℕ) (ps : List Pending) → tells_want (one_handed k ps) ≡ false
one_tells k [] = refl
one_tells k (p ∷ ps) = refl

all_tell : (k : ℕ) (ps : List Pending) → tells_want (all_handed k ps) ≡ false
all_tell k [] = refl
all_tell k (p ∷ ps) = refl

sweep_tells : (a : State) (d : List ℕ) (reply : Reply) (b : State) → Sweeps a d reply b → tells_want reply ≡ false
sweep_tells a [] reply b gives = told gives.0 refl
sweep_tells a (n ∷ ns) reply b gives = told gives.0 refl

scan_tells : (a : State) (k : ℕ) (reply : Reply) (b : State) → Scans a k reply b → tells_want reply ≡ false
scan_tells a k (replies.Refused fault) b scans = told scans.1.0 refl
scan_tells a k reply b scans = refl

select_tells : (a : State) (reply : Reply) (b : State) → Selects a reply b → tells_want reply ≡ false
select_tells a reply b selects = grind arith

move_tells : (a : State) (reply : Reply) (b : State) → Moves a reply b → tells_want reply ≡ false
move_tells a (replies.Refused fault) b moves = told moves.0 refl
move_tells a reply b moves = refl

end_tells : (a : State) (reply : Reply) (b : State) → EndsMove a reply b → tells_want reply ≡ false
end_tells a reply b ends = grind arith

gives_tells : (answer : Reply) (c : State) (reply : Reply) (b : State) → Gives answer c reply b
    → tells_want answer ≡ false → tells_want reply ≡ false
gives_tells answer c reply b gives other = told gives.0 other

accepted_tells : (a : State) (step : NamedStep) (reply : Reply) (b : State) → HeapAccepts a step reply b
    → tells_want reply ≡ false
accepted_tells a (heap.Plain plain.EndMark) reply b ends = told ends.answer refl
accepted_tells a (heap.Hand k) reply b gives = told gives.0 (one_tells k (take 1 (pending_of a.world k)))
accepted_tells a (heap.Hands k max batch) reply b gives =
    told gives.0 (all_tell k (batch_of max (pending_of a.world k)))
accepted_tells a step reply b gives =
    search (
      gives_tells,
      anew_tells,
      value_tells,
      load_tells,
      get_tells,
      unhook_tells,
      hold_tells,
      scan_tells,
      clear_tells,
      sweep_tells,
      select_tells,
      move_tells,
      end_tells,
      gives,
      refl,
    )

-- ---- rows

poll_tells : (a : State) (m q : ℕ) (tell : List ℕ → Reply) (stands : List Notice) (reply : Reply) (b : State)
    → ((n : ℕ) (ns : List ℕ) → tells_want (tell (n ∷ ns)) ≡ false) → Polls a m q tell stands reply b
    → tells_want reply ≡ false
poll_tells a m q tell [] reply b none gives = grind arith
poll_tells a m q tell (notice ∷ rest) reply b none gives =
    told gives.0 (none notice.object (map object_of rest))

puts_tell : (a : State) (who : Actor) (hand : List Notice) (reply : Reply) (b : State) → PutsAll a who hand reply b
    → tells_want reply ≡ false
puts_tell a who [] reply b row = absurd row
puts_tell a who (notice ∷ rest) reply b row = told row.3.0 refl

close_tells : (a : State) (q : ℕ) (closed : Bool) (reply : Reply) (b : State) → Closes a q closed reply b
    → tells_want reply ≡ false
close_tells a q true reply b gives = told gives.0 refl
close_tells a q false reply b gives = told gives.0 refl

asking_tells : (a : State) (asked : Option NamedStep) (step : Step) (reply : Reply) (b : State)
    → heap_step a.world step ≡ asked → AcceptsAsking a asked step reply b → tells_want reply ≡ true
    → (who : Actor) × (step ≡ steps.Put who)
asking_tells a (Some asked) step reply b asks row wants_some =
    absurd (false≢true (sym (accepted_tells a asked reply row.0 row.1) ∙ wants_some))
asking_tells a None (steps.Put who) reply b asks row wants_some = (who, refl)
asking_tells a None (steps.Puts who) reply b asks row wants_some =
    absurd (false≢true (sym (puts_tell a who (hand_of a.world who) reply b row) ∙ wants_some))
asking_tells a None (steps.Poll m q) reply b asks row wants_some =
    absurd (false≢true (sym (poll_tells a m q one_taken _ reply b (λ _ _. refl) row) ∙ wants_some))
asking_tells a None (steps.Polls m q max) reply b asks row wants_some =
    absurd (false≢true (sym (poll_tells a m q replies.TookSome _ reply b (λ _ _. refl) row) ∙ wants_some))
asking_tells a None (steps.Close m q) reply b asks row wants_some =
    absurd (false≢true (sym (close_tells a q (queue_at a.world q).closed reply b row) ∙ wants_some))
asking_tells a None step reply b asks row wants_some = absurd row

answer_tells : (a : State) (refused : Option Fault) (step : Step) (b : State) → refusal a step ≡ refused
    → IsAnswer a refused step (replies.Refused NoMemory) b → (who : Actor) × (step ≡ steps.Put who)
answer_tells a (Some fault) step b is row =
    absurd (false≢true (sym (step_wants a step) ∙ ap wants is ∙ sym (ap tells_want row.0)))
answer_tells a None step b is row =
    asking_tells a (heap_step a.world step) step (replies.Refused NoMemory) b refl row refl

pub wanted_at_puts : (a : State) (step : Step) (b : State)
    → IsRow a (record { step = step; reply = replies.Refused NoMemory }) b → (who : Actor) × (step ≡ steps.Put who)
wanted_at_puts a step b row = answer_tells a (refusal a step) step b refl row

-- ---- what is refused within a batch

wanting_last : (lists : Lists Notice) (hand : List Notice) (ds : List Done)
    → Become object_of (λ (x : Notice). x.queue) lists hand ds → EndsBatch hand ds → IsWantedLast ds
wanting_last lists hand [] become ends = tt
wanting_last lists [] (d ∷ ds) become ends = absurd become
wanting_last lists (x ∷ hand) (Added ∷ ds) become ends =
    wanting_last (with_parcel lists x) hand ds become.1 ends
wanting_last lists (x ∷ hand) (Already ∷ ds) become ends = wanting_last lists hand ds become.1 ends
wanting_last lists (x ∷ hand) (Closed ∷ ds) become ends = wanting_last lists hand ds become.1 ends
wanting_last lists (x ∷ hand) (Refused fault ∷ ds) become ends = (become.0.0, ends)

of_puts : (a : State) (who : Actor) (hand : List Notice) (outs : Outs) (b : State)
    → PutsAll a who hand (replies.Outs outs) b → IsWantedLast outs.done
of_puts a who [] outs b row = absurd row
of_puts a who (notice ∷ rest) outs b row =
    let same : row.0 ≡ outs = let is : replies.Outs outs ≡ replies.Outs row.0 = row.3.0 in cc in
    subst (λ (o : Outs). IsWantedLast o.done) same
    (wanting_last (queue_at a.world notice.queue) (notice ∷ rest) row.0.done row.2.2 row.2.3)

-- a refused item of a row of puts is its last
pub wanted_at_last : (a : State) (who : Actor) (outs : Outs) (fault : Option Fault) (b : State)
    → IsAnswer a fault (steps.Puts who) (replies.Outs outs) b → IsWantedLast outs.done
wanted_at_last a who outs (Some fault) b row = absurd (let no : replies.Outs outs ≡ replies.Refused fault = row.0 in cc)
wanted_at_last a who outs None b row = of_puts a who (hand_of a.world who) outs b row
