-- What the heap's machine answers, told as the rows of a trace tell it (this project's profile).
use Rattle.std.specs.Prelude.{◌≡◌, ℕ, List, [], ◌++◌, Option, Some, None, Result, Ok, Err}
use Rattle.ref_base.specs.HeapSteps.{NamedStep, HeldNotice}
use Rattle.ref_base.specs.Told.{told_notices, told_object}
use Rattle.ref_base.specs.declared.fault.Fault.{Fault}
use Rattle.ref_base.specs.declared.heap_step.HeapStep.TheVariants as heap
use Rattle.ref_base.specs.declared.heap_step.HoldName.{HoldName}
use Rattle.ref_base.specs.declared.reply.Reply.{Reply}
use Rattle.ref_base.specs.declared.reply.Reply.TheVariants as replies
use Rattle.ref_clear.specs.ClearCalls.{held_notices}
use Rattle.ref_clear.specs.declared.handed.Handed.{Handed as Batched}
use Rattle.ref_world.specs.declared.heap_machine.HeapReply.{HeapReply}
use Rattle.ref_world.specs.declared.heap_machine.HeapReply.TheVariants.{Told, Notice, Held, Back, Handed}

-- a reply, with the batch that was to be filled
abbrev pub HeapAnswer : Type 0
HeapAnswer = HeapReply (List HeldNotice)

-- the reply as plain data
abbrev pub told_reply : HeapAnswer → Reply
told_reply (Told reply) = reply
told_reply (Notice notice) = replies.Notice notice.hold.object notice.queue notice.cause
told_reply (Held hold) = replies.Object hold.object
told_reply (Back fault hold) = replies.Refused fault
told_reply (Handed reply batch) = reply

-- What a step gives out: only an unhook and a hand give notices, only a hold gives a hold, and each is of its own
-- heap; none of them tells of one that it doesn't give. An adopt and a release give the hold back that they were
-- given, unless they spend it. A hand of several gives the batch back, whatever it answers, and behind what was in
-- it stand the notices that it tells, and no other.
abbrev pub GivesOut : (heap_no : ℕ) → NamedStep → HeapAnswer → Type 0
GivesOut heap_no (heap.Unhook m s) (Told reply) = told_notices reply ≡ []
GivesOut heap_no (heap.Hand k) (Told reply) = told_notices reply ≡ []
GivesOut heap_no (heap.Hold m s) (Told reply) = told_object reply ≡ None
GivesOut heap_no (heap.Adopt m d hold) (Told reply) = (n : ℕ) × (reply ≡ replies.Object n)
GivesOut heap_no (heap.Release hold) (Told reply) = reply ≡ replies.Done
GivesOut heap_no (heap.Plain step) (Told reply) = Unit {0}
GivesOut heap_no (heap.Unhook m s) (Notice notice) = notice.hold.heap_no ≡ heap_no
GivesOut heap_no (heap.Hand k) (Notice notice) = notice.hold.heap_no ≡ heap_no
GivesOut heap_no (heap.Hold m s) (Held hold) = hold.heap_no ≡ heap_no
GivesOut heap_no (heap.Adopt m d hold) (Back fault back) = back ≡ hold
GivesOut heap_no (heap.Release hold) (Back fault back) = back ≡ hold
GivesOut heap_no (heap.Hands k max batch) (Handed reply back) =
    back ≡ batch ++ held_notices heap_no (told_notices reply)
GivesOut heap_no step reply = ⊥

-- nothing is given out
abbrev pub IsTold : HeapAnswer → Type 0
IsTold (Told reply) = Unit {0}
IsTold reply = ⊥

-- ---- what calls of a heap give, as replies of its machine

-- the notice that a call gave, if it gave one
abbrev pub IsGiven : Result (Option HeldNotice) Fault → HeapAnswer → Type 0
IsGiven (Ok (Some notice)) reply = reply ≡ Notice notice
IsGiven (Ok None) reply = reply ≡ Told replies.Nothing
IsGiven (Err fault) reply = reply ≡ Told (replies.Refused fault)

-- the hold that a call gave
abbrev pub IsHeld : Result HoldName Fault → HeapAnswer → Type 0
IsHeld (Ok hold) reply = reply ≡ Held hold
IsHeld (Err fault) reply = reply ≡ Told (replies.Refused fault)

-- the hold that a call gave back, if it did
abbrev pub IsBack : {T : Type 0} → Result T (Fault × HoldName) → HeapAnswer → Type 0
IsBack (Ok answer) reply = IsTold reply
IsBack (Err back) reply = reply ≡ Back back.0 back.1

-- how the heap answered a hand of several, by its reply
abbrev pub TellsOfBatch : Reply → Result (Option Batched) Fault → Type 0
TellsOfBatch (replies.Notices ns q cycle k) result =
    result ≡ Ok (Some (record { numbers = ns; queue = q; cycle = cycle }))
TellsOfBatch (replies.Refused fault) result = result ≡ Err fault
TellsOfBatch reply result = result ≡ Ok None
