-- The replies to steps by which nothing changes hands.
use Rattle.ref_base.specs.declared.reply.Reply.{Reply}
use Rattle.ref_base.specs.declared.reply.Reply.TheVariants as replies
use Rattle.ref_world.specs.declared.plain_reply.PlainAnswer.{PlainAnswer}
use Rattle.ref_world.specs.declared.plain_reply.PlainAnswer.TheVariants as plain

-- the reply that such an answer is
abbrev pub reply_of_plain : PlainAnswer → Reply
reply_of_plain (plain.Object n) = replies.Object n
reply_of_plain plain.Null = replies.Null
reply_of_plain plain.Done = replies.Done
reply_of_plain (plain.Refers b) = replies.Refers b
reply_of_plain plain.Nothing = replies.Nothing
reply_of_plain (plain.Cycle n) = replies.Cycle n
reply_of_plain (plain.Scanned n) = replies.Scanned n
reply_of_plain (plain.Doomed count) = replies.Doomed count
reply_of_plain (plain.Cleared n) = replies.Cleared n
reply_of_plain (plain.Kept n) = replies.Kept n
reply_of_plain (plain.Skipped n) = replies.Skipped n
reply_of_plain (plain.Swept count) = replies.Swept count
reply_of_plain (plain.Selected count) = replies.Selected count
reply_of_plain (plain.Moved n) = replies.Moved n
reply_of_plain (plain.Refused fault) = replies.Refused fault
