-- What the text of a reply tells: all of the reply, but for how many notices were put in before a batch of which none
-- was added (this project's profile).
use Rattle.std.specs.Prelude.{◌≡◌, ◌⊎◌, ℕ, false, List}
use Rattle.std.specs.List.{list_any}
use Rattle.ref_base.specs.Outs.{is_added}
use Rattle.ref_base.specs.declared.out.Done.{Done}
use Rattle.ref_base.specs.declared.reply.Reply.TheVariants as replies
use Rattle.ref_script.specs.declared.script_step.ScriptReply.{ScriptReply}
use Rattle.ref_script.specs.declared.script_step.ScriptReply.TheVariants.{World}

-- what became of each notice is the same in both batches, and none was added
pub record AddNone (one other : ScriptReply) : Type 0 where
  pub before : ℕ
  pub other_before : ℕ
  pub done : List Done
  pub none_added : list_any is_added done ≡ false
  pub one_is : one ≡ World (replies.Outs (record { before = before; done = done }))
  pub other_is : other ≡ World (replies.Outs (record { before = other_before; done = done }))

-- the replies are the same, but for what such batches don't tell
abbrev pub IsSameReply : ScriptReply → ScriptReply → Type 0
IsSameReply one other = (one ≡ other) ⊎ AddNone one other
