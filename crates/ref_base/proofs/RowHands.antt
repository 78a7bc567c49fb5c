-- What a row does to hands and queues, and what the notices that an unhook and a hand give tell of the state before.
use Rattle.ref_base.proofs.Common.{arith, ◌≡◌, ℕ, true, List, [], ◌∷◌, Option, Some, None, refl, sym, subst, eq-eqb}
use Rattle.ref_base.proofs.Common.{World, Notice, Pending, SameOthers, pending_of, told_notices, NamedStep, heap_step}
use Rattle.ref_base.proofs.Common.{handed, after_queues, State, QueuesAccept, AcceptsAsking, Accepts, IsAnswer, Unhooks}
use Rattle.ref_base.proofs.Common.{HandsOn, is_by, Own, Fault, Step, Reply}
use Rattle.ref_base.proofs.Common.{map, take, AllByRecursion, notice_from, one_handed, all_handed, batch_of}
use Rattle.ref_base.proofs.BatchParts.{tells_one, tells_all}
use Rattle.ref_base.proofs.RowKinds.{queues_become}
use Rattle.ref_base.proofs.OutcomeParts.{heap_others}
use Rattle.ref_base.specs.declared.step.Step.TheVariants as steps
use Rattle.ref_base.specs.declared.reply.Reply.TheVariants as replies

-- the world with the hands and queues that the row leaves
abbrev pub others_after : World → Step → Reply → World
others_after w step reply = after_queues (handed w step reply) step reply

asked_hands : (a b : State) (asked : Option NamedStep) (step : Step) (reply : Reply)
    → AcceptsAsking a asked step reply b → (QueuesAccept a step reply b → ⊥)
    → SameOthers (handed a.world step reply) b.world
asked_hands a b None step reply row never = absurd (never row)
asked_hands a b (Some asked) step reply row never = grind (arith, heap_others)

queues_hands : (a b : State) (step : Step) (reply : Reply) → QueuesAccept a step reply b
    → SameOthers (after_queues a.world step reply) b.world
queues_hands a b step reply row = grind (arith, queues_become)

accepted_hands : (a b : State) (step : Step) (reply : Reply) → Accepts a step reply b
    → SameOthers (others_after a.world step reply) b.world
accepted_hands a b (steps.Put who) reply row = queues_hands a b (steps.Put who) reply row
accepted_hands a b (steps.Puts who) reply row = queues_hands a b (steps.Puts who) reply row
accepted_hands a b (steps.Poll m q) reply row = queues_hands a b (steps.Poll m q) reply row
accepted_hands a b (steps.Polls m q max) reply row = queues_hands a b (steps.Polls m q max) reply row
accepted_hands a b (steps.Close m q) reply row = queues_hands a b (steps.Close m q) reply row
accepted_hands a b step reply row = asked_hands a b (heap_step a.world step) step reply row (λ no. no)

pub row_hands : (a b : State) (step : Step) (reply : Reply) (fault : Option Fault) → IsAnswer a fault step reply b
    → SameOthers (others_after a.world step reply) b.world
row_hands a b step reply (Some fault) row = grind arith
row_hands a b step reply None row = accepted_hands a b step reply row

-- ---- what a row gives

-- what holds of what an answer tells holds of what the reply tells
told_by : (P : Notice → Type 0) (answer reply : Reply) → reply ≡ answer → AllByRecursion P (told_notices answer)
    → AllByRecursion P (told_notices reply)
told_by P answer reply is holds = subst (λ (r : Reply). AllByRecursion P (told_notices r)) (sym is) holds

abbrev pub IsOwn : Notice → Type 0
IsOwn notice = notice.cause ≡ Own

unhooked : (a c : State) (m s : ℕ) (held queue : Option ℕ) (reply : Reply) → Unhooks a m s held queue reply c
    → AllByRecursion IsOwn (told_notices reply)
unhooked a c m s None queue reply row = told_by IsOwn replies.Nothing reply row.0 tt
unhooked a c m s (Some n) None reply row = told_by IsOwn replies.Nothing reply row.0 tt
unhooked a c m s (Some n) (Some q) reply row = told_by IsOwn (replies.Notice n q Own) reply row.0 (refl, tt)

-- what an unhook gives is of the reference's own call
pub unhook_tells : (a b : State) (m s : ℕ) (reply : Reply) (fault : Option Fault)
    → IsAnswer a fault (steps.Unhook m s) reply b → AllByRecursion IsOwn (told_notices reply)
unhook_tells a b m s reply (Some fault) row = told_by IsOwn (replies.Refused fault) reply row.0 tt
unhook_tells a b m s reply None row = unhooked a row.0 m s _ _ reply row.1

abbrev pub IsBy : ℕ → Notice → Type 0
IsBy k notice = is_by k notice.cause ≡ true

all_by : (k : ℕ) (ps : List Pending) → AllByRecursion (IsBy k) (map (notice_from k) ps)
all_by k [] = tt
all_by k (p ∷ ps) = (eq-eqb k k refl, all_by k ps)

handed_on : (a c : State) (k : ℕ) (answer : Reply) (ps : List Pending) (reply : Reply)
    → told_notices answer ≡ map (notice_from k) ps → HandsOn a k answer ps reply c
    → AllByRecursion (IsBy k) (told_notices reply)
handed_on a c k answer ps reply tells row =
    told_by (IsBy k) answer reply row.0 (subst (AllByRecursion (IsBy k)) (sym tells) (all_by k ps))

-- what a worker hands on is of its own clearing
pub hand_tells : (a b : State) (k : ℕ) (reply : Reply) (fault : Option Fault)
    → IsAnswer a fault (steps.Hand k) reply b → AllByRecursion (IsBy k) (told_notices reply)
hand_tells a b k reply (Some fault) row = told_by (IsBy k) (replies.Refused fault) reply row.0 tt
hand_tells a b k reply None row =
    let ps : List Pending = pending_of a.world k in
    handed_on a row.0 k (one_handed k (take 1 ps)) (take 1 ps) reply (tells_one k ps) row.1

pub hands_tell : (a b : State) (k max : ℕ) (reply : Reply) (fault : Option Fault)
    → IsAnswer a fault (steps.Hands k max) reply b → AllByRecursion (IsBy k) (told_notices reply)
hands_tell a b k max reply (Some fault) row = told_by (IsBy k) (replies.Refused fault) reply row.0 tt
hands_tell a b k max reply None row =
    let ps : List Pending = pending_of a.world k in
    handed_on a row.0 k (all_handed k (batch_of max ps)) (batch_of max ps) reply (tells_all k max ps) row.1
