-- Which replies are of a step's kind, where the text of a reply doesn't tell it: `took 2` is told of a `poll` and of a
-- `polls`, and `closed` of a `put`, and of a `puts` of one notice (this project's profile).
use Rattle.std.specs.Prelude.{◌≡◌, ℕ, ◌^◌, ◌<◌, ◌≤◌, Bool, true, false, nat_lt, List, [], ◌∷◌, length}
use Rattle.std.specs.List.{list_all}
use Rattle.ref_base.specs.Replies.{reply_text}
use Rattle.ref_base.specs.declared.cause.Cause.{Cause}
use Rattle.ref_base.specs.declared.cause.Cause.TheVariants.{Own, Cycle}
use Rattle.ref_base.specs.declared.fault.Fault.TheVariants.{NoMemory}
use Rattle.ref_base.specs.declared.out.Done.{Done}
use Rattle.ref_base.specs.declared.out.Done.TheVariants as done
use Rattle.ref_base.specs.declared.reply.Reply.{Reply}
use Rattle.ref_base.specs.declared.reply.Reply.TheVariants as replies
use Rattle.ref_base.specs.declared.step.Step.{Step}
use Rattle.ref_base.specs.declared.step.Step.TheVariants.{Polls, Puts}
use Rattle.ref_script.specs.Lines.{words_of}
use Rattle.ref_script.specs.ScriptSteps.{script_reply_text}
use Rattle.ref_script.specs.declared.reply_kind.ReplyKind.{ReplyKind}
use Rattle.ref_script.specs.declared.reply_kind.ReplyKind.TheVariants as kinds
use Rattle.ref_script.specs.declared.script_step.ScriptReply.{ScriptReply}
use Rattle.ref_script.specs.declared.script_step.ScriptReply.TheVariants as said
use Rattle.ref_script.specs.declared.script_step.ScriptStep.{ScriptStep}
use Rattle.ref_script.specs.declared.script_step.ScriptStep.TheVariants as steps

-- ---- kinds

abbrev pub kind_of_step : Step → ReplyKind
kind_of_step (Polls m q max) = kinds.Polls
kind_of_step (Puts a) = kinds.Puts
kind_of_step step = kinds.One

abbrev pub reply_kind_of : ScriptStep → ReplyKind
reply_kind_of (steps.World step) = kind_of_step step
reply_kind_of (steps.Job m s n) = kinds.Jobs
reply_kind_of (steps.Run m s) = kinds.Jobs

-- a reply that tells of one notice at most
abbrev pub is_of_one : Reply → Bool
is_of_one (replies.TookSome ns) = false
is_of_one (replies.Outs outs) = false
is_of_one reply = true

-- a reply that lists what was taken, or tells of no notice that was
abbrev pub is_of_polls : Reply → Bool
is_of_polls (replies.Took n) = false
is_of_polls (replies.Outs outs) = false
is_of_polls reply = true

-- an item that was added, or not, or that was refused for want of memory
abbrev pub is_item_told : Done → Bool
is_item_told (done.Refused NoMemory) = true
is_item_told (done.Refused fault) = false
is_item_told d = true

-- what became of one item at least, where only want of memory refused one
abbrev pub is_batch_told : List Done → Bool
is_batch_told [] = false
is_batch_told (d ∷ ds) = list_all is_item_told (d ∷ ds)

-- a reply that tells what became of each notice, or isn't told of a put
abbrev pub is_of_puts : Reply → Bool
is_of_puts (replies.TookSome ns) = false
is_of_puts (replies.Outs outs) = is_batch_told outs.done
is_of_puts (replies.Added position) = false
is_of_puts replies.Already = false
is_of_puts replies.Closed = false
is_of_puts (replies.Refused NoMemory) = false
is_of_puts reply = true

-- a refusal
abbrev pub is_refused_reply : Reply → Bool
is_refused_reply (replies.Refused fault) = true
is_refused_reply reply = false

-- whether a reply is one to a step of this kind
abbrev pub is_of_kind : ReplyKind → ScriptReply → Bool
is_of_kind kinds.One (said.World reply) = is_of_one reply
is_of_kind kinds.Polls (said.World reply) = is_of_polls reply
is_of_kind kinds.Puts (said.World reply) = is_of_puts reply
is_of_kind kinds.Jobs (said.World reply) = is_refused_reply reply
is_of_kind kinds.Jobs reply = true
is_of_kind kind reply = false

-- ---- ranges

-- at most 32 numbers, each below 2^32
abbrev pub AreNumbers : List ℕ → Type 0
AreNumbers ns = (length ns ≤ 32) × (list_all (λ n. nat_lt n (2 ^ 32)) ns ≡ true)

abbrev pub HasCauseIn : Cause → Type 0
HasCauseIn Own = Unit {0}
HasCauseIn (Cycle cycle worker) = (cycle < 2 ^ 64) × (worker < 2 ^ 32)

-- the numbers of a reply are in their ranges
abbrev pub IsInRanges : Reply → Type 0
IsInRanges (replies.Object n) = n < 2 ^ 32
IsInRanges (replies.Notice n q cause) = (n < 2 ^ 32) × (q < 2 ^ 32) × HasCauseIn cause
IsInRanges (replies.Notices ns q cycle worker) = AreNumbers ns × (q < 2 ^ 32) × HasCauseIn (Cycle cycle worker)
IsInRanges (replies.Added position) = position < 2 ^ 64
IsInRanges (replies.Outs outs) = (outs.before < 2 ^ 63) × (length outs.done ≤ 32)
IsInRanges (replies.Took n) = n < 2 ^ 32
IsInRanges (replies.TookSome ns) = AreNumbers ns
IsInRanges (replies.Cycle n) = n < 2 ^ 64
IsInRanges (replies.Scanned n) = n < 2 ^ 32
IsInRanges (replies.Doomed count) = count < 2 ^ 32
IsInRanges (replies.Cleared n) = n < 2 ^ 32
IsInRanges (replies.Kept n) = n < 2 ^ 32
IsInRanges (replies.Skipped n) = n < 2 ^ 32
IsInRanges (replies.Swept count) = count < 2 ^ 32
IsInRanges (replies.Selected count) = count < 2 ^ 32
IsInRanges (replies.Moved n) = n < 2 ^ 32
IsInRanges reply = Unit {0}

abbrev pub HasRanges : ScriptReply → Type 0
HasRanges (said.World reply) = IsInRanges reply
HasRanges (said.Ran ran) = (ran.number < 2 ^ 64) × (ran.answer < 2 ^ 64)
HasRanges reply = Unit {0}

-- ---- a reply's words

-- the reply passes this test, and the words are those of its text
pub record IsToldReply (test : Reply → Bool) (words : List (List ℕ)) (reply : Reply) : Type 0 where
  pub of_kind : test reply ≡ true
  pub ranges : IsInRanges reply
  pub words_are : words_of (reply_text reply) ≡ words

-- no reply that passes it has a text of these words
abbrev pub NoneIsTold : (Reply → Bool) → List (List ℕ) → Type 0
NoneIsTold test words = (reply : Reply) → IsToldReply test words reply → ⊥

-- the reply is one to a step of this kind, and the words are those of its text
pub record IsToldSo (kind : ReplyKind) (words : List (List ℕ)) (reply : ScriptReply) : Type 0 where
  pub of_kind : is_of_kind kind reply ≡ true
  pub ranges : HasRanges reply
  pub words_are : words_of (script_reply_text reply) ≡ words

-- no reply to a step of this kind has a text of these words
abbrev pub NoneIsToldSo : ReplyKind → List (List ℕ) → Type 0
NoneIsToldSo kind words = (reply : ScriptReply) → IsToldSo kind words reply → ⊥
