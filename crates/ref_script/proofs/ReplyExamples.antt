-- Replies read back from words that one can read off by hand, and words that tell none.
use Rattle.ref_script.proofs.Common.{◌≡◌, [], ◌∷◌, Some, None, codes, refl, words_of}
use Rattle.ref_script.proofs.Common.{arith}
use Rattle.ref_base.specs.Outs.{Outs}
use Rattle.ref_base.specs.declared.fault.Fault.TheVariants.{HandEmpty, NoMemory}
use Rattle.ref_base.specs.declared.out.Done.TheVariants.{Added, Already, Refused}
use Rattle.ref_base.specs.declared.reply.Reply.TheVariants as replies
use Rattle.ref_script.specs.ReplyKinds.{IsToldReply, IsToldSo, NoneIsTold, NoneIsToldSo, is_of_one, is_of_polls}
use Rattle.ref_script.specs.ReplyKinds.{is_of_puts}
use Rattle.ref_script.specs.ReplyReading.{batch_in}
use Rattle.ref_script.specs.declared.reply_kind.ReplyKind.TheVariants.{Jobs}
use Rattle.ref_script.specs.declared.script_step.ScriptReply.TheVariants.{Registered}
use Rattle.ref_script.proofs.ReplyAnswers.{jobs_answer, no_puts, one_answer, polls_answer, puts_batch}

-- promise: reply_of: took of a poll is one number
took_of_a_poll : IsToldReply is_of_one (words_of (codes "took 2")) (replies.Took 2)
took_of_a_poll = one_answer (words_of (codes "took 2")) (Some (replies.Took 2)) refl

-- promise: reply_of: took of a poll of several is a list
took_of_a_poll_of_several : IsToldReply is_of_polls (words_of (codes "took  2")) (replies.TookSome (2 ∷ []))
took_of_a_poll_of_several = polls_answer (words_of (codes "took  2")) (Some (replies.TookSome (2 ∷ []))) refl

-- promise: reply_of: a number has no leading zeros
no_leading_zeros : NoneIsTold is_of_one (words_of (codes "took 02"))
no_leading_zeros = one_answer (words_of (codes "took 02")) None refl

-- promise: reply_of: a number is below 2^32
no_number_too_large : NoneIsTold is_of_one (words_of (codes "object 4294967296"))
no_number_too_large = one_answer (words_of (codes "object 4294967296")) None refl

-- promise: reply_of: a fault's name is that of its number
a_refusal_has_its_name : NoneIsTold is_of_one (words_of (codes "refused 9 HandEmpty"))
a_refusal_has_its_name = one_answer (words_of (codes "refused 9 HandEmpty")) None refl

the_name_of_its_number : IsToldReply is_of_one (words_of (codes "refused 24 HandEmpty")) (replies.Refused HandEmpty)
the_name_of_its_number = one_answer (words_of (codes "refused 24 HandEmpty")) (Some (replies.Refused HandEmpty)) refl

-- promise: reply_of: ok of a job is that it was registered
a_job_was_registered : IsToldSo Jobs (words_of (codes "ok")) Registered
a_job_was_registered = jobs_answer (words_of (codes "ok")) (Some Registered) refl

no_reply_to_a_job : NoneIsToldSo Jobs (words_of (codes "null"))
no_reply_to_a_job = jobs_answer (words_of (codes "null")) None refl

positions_of_a_batch : batch_in 3 (words_of (codes "added 3, already, added 4")) ≡ Some (Added ∷ Already ∷ Added ∷ [])
positions_of_a_batch = refl

-- promise: reply_of: positions of a batch follow one another
positions_that_jump : batch_in 3 (words_of (codes "added 3, already, added 5")) ≡ None
positions_that_jump = refl

-- `refused 3 NoMemory, added 0`
refused_then_added : Outs
refused_then_added = record { before = 0; done = Refused NoMemory ∷ Added ∷ [] }

-- promise: reply_of: a batch goes on behind a refusal
a_batch_goes_on_behind_a_refusal :
    IsToldReply is_of_puts (words_of (codes "refused 3 NoMemory, added 0")) (replies.Outs refused_then_added)
unfolding refused_then_added
a_batch_goes_on_behind_a_refusal =
    puts_batch (words_of (codes "refused 3 NoMemory, added 0")) refused_then_added (omega arith)
    (refl, refl, omega arith)

-- promise: reply_of: in a batch only want of memory refuses a notice
another_fault_in_a_batch : NoneIsTold is_of_puts (words_of (codes "refused 24 HandEmpty, added 0"))
another_fault_in_a_batch =
    no_puts (words_of (codes "refused 24 HandEmpty, added 0")) (λ ds some. none some) (λ r some. none some)
  where
    none : {X Y : Type 0} {x : X} → None ≡ Some x → Y
    none some = absurd cc
