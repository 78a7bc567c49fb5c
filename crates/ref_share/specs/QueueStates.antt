-- A queue of notices, as plain data, and its steps with their replies.
use Rattle.std.specs.Prelude.{List}
use Rattle.ref_base.specs.HeapSteps.{HeldNotice}
use Rattle.ref_base.specs.QueueLists.{Lists}
use Rattle.ref_share.specs.declared.queue_machine.QueueStep.{QueueStep}
use Rattle.ref_share.specs.declared.queue_machine.QueueReply.{QueueReply}

abbrev pub NoticeLists : Type 0
NoticeLists = Lists HeldNotice

-- a step, with the batch that it takes along, and a reply, with the batch as it comes back
abbrev pub QueueCall : Type 0
QueueCall = QueueStep (List HeldNotice)

abbrev pub QueueAnswer : Type 0
QueueAnswer = QueueReply (List HeldNotice)
