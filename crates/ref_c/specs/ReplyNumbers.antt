-- The numbers of an answer, and those that it lists. No number stands for none: what is optional has kinds of its own.
use Rattle.std.specs.Prelude.{ℕ, List, [], ◌∷◌, ◌++◌, length, true, false}
use Rattle.ref_base.specs.Faults.{number_of}
use Rattle.ref_base.specs.Outs.{outs_of}
use Rattle.ref_base.specs.declared.cause.Cause.TheVariants.{Own, Cycle as OfCycle}
use Rattle.ref_base.specs.declared.out.Out.{Out}
use Rattle.ref_base.specs.declared.out.Out.TheVariants as out
use Rattle.ref_base.specs.declared.reply.Reply.{Reply}
use Rattle.ref_base.specs.declared.reply.Reply.TheVariants as replies
use Rattle.ref_c.specs.declared.answer.Answer.{Answer}
use Rattle.ref_c.specs.declared.answer.Answer.TheVariants as answers
use Rattle.ref_c.specs.declared.answer.RefReply.{RefReply}

-- ---- the plain struct

-- one that tells its kind alone
abbrev pub of_kind : ℕ → RefReply
of_kind kind = record { kind = kind; fault = 0; object = 0; queue = 0; worker = 0; count = 0; number = 0 }

-- one that tells an object too, or how many, or a number that may be large
abbrev pub of_object : ℕ → ℕ → RefReply
of_object kind object = record (of_kind kind) { object = object }

abbrev pub of_count : ℕ → ℕ → RefReply
of_count kind count = record (of_kind kind) { count = count }

abbrev pub of_number : ℕ → ℕ → RefReply
of_number kind number = record (of_kind kind) { number = number }

-- ---- the reply to a step

-- the numbers of a reply
abbrev pub reply_numbers : Reply → RefReply
reply_numbers (replies.Object object) = of_object 64 object
reply_numbers replies.Null = of_kind 65
reply_numbers replies.Done = of_kind 66
reply_numbers (replies.Refers true) = of_kind 67
reply_numbers (replies.Refers false) = of_kind 68
reply_numbers (replies.Notice object queue (OfCycle cycle worker)) =
    record (of_object 69 object) { queue = queue; worker = worker; number = cycle }
reply_numbers (replies.Notice object queue Own) = record (of_object 70 object) { queue = queue }
reply_numbers (replies.Notices objects queue cycle worker) =
    record (of_count 71 (length objects)) { queue = queue; worker = worker; number = cycle }
reply_numbers replies.Nothing = of_kind 72
reply_numbers (replies.Added position) = of_number 73 position
reply_numbers replies.Already = of_kind 74
reply_numbers replies.Closed = of_kind 75
reply_numbers (replies.Outs outs) = of_count 76 (length outs.done)
reply_numbers (replies.Took object) = of_object 77 object
reply_numbers (replies.TookSome objects) = of_count 78 (length objects)
reply_numbers replies.Empty = of_kind 79
reply_numbers (replies.Cycle cycle) = of_number 80 cycle
reply_numbers (replies.Scanned object) = of_object 81 object
reply_numbers (replies.Doomed count) = of_count 82 count
reply_numbers (replies.Cleared object) = of_object 83 object
reply_numbers (replies.Kept object) = of_object 84 object
reply_numbers (replies.Skipped object) = of_object 85 object
reply_numbers (replies.Swept count) = of_count 86 count
reply_numbers (replies.Selected count) = of_count 87 count
reply_numbers (replies.Moved object) = of_object 88 object
reply_numbers (replies.Refused fault) = record (of_kind 89) { fault = number_of fault }

-- what became of one item of a batch, in two numbers: the kind of what a put of it alone would be answered, and the
-- place or the fault that this tells, or 0
abbrev pub out_numbers : Out → List ℕ
out_numbers (out.Added position) = 73 ∷ position ∷ []
out_numbers out.Already = 74 ∷ 0 ∷ []
out_numbers out.Closed = 75 ∷ 0 ∷ []
out_numbers (out.Refused fault) = 89 ∷ number_of fault ∷ []

abbrev pub outs_numbers : List Out → List ℕ
outs_numbers [] = []
outs_numbers (one ∷ others) = out_numbers one ++ outs_numbers others

-- the numbers that a reply lists: those of a batch
abbrev pub reply_listed : Reply → List ℕ
reply_listed (replies.Notices objects queue cycle worker) = objects
reply_listed (replies.TookSome objects) = objects
reply_listed (replies.Outs outs) = outs_numbers (outs_of outs.before outs.done)
reply_listed reply = []

-- ---- the answer to numbers

-- a reply, or that the numbers are no step, or that there is no world
abbrev pub numbers_of : Answer → RefReply
numbers_of (answers.Replied reply) = reply_numbers reply
numbers_of answers.NoStep = of_kind 90
numbers_of answers.NoWorld = of_kind 91

abbrev pub listed_by : Answer → List ℕ
listed_by (answers.Replied reply) = reply_listed reply
listed_by answers.NoStep = []
listed_by answers.NoWorld = []

-- the numbers of answers, one behind the other
abbrev pub all_numbers : List Answer → List RefReply
all_numbers [] = []
all_numbers (first ∷ rest) = numbers_of first ∷ all_numbers rest

abbrev pub all_listed : List Answer → List ℕ
all_listed [] = []
all_listed (first ∷ rest) = listed_by first ++ all_listed rest
