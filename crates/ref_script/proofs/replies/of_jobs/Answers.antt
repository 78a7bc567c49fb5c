use Rattle.ref_script.proofs.Common.{words_of}
use Rattle.ref_script.proofs.ReplyAnswers.{jobs_answer}
use Rattle.ref_script.proofs.replies.of_jobs.Goals as goal

pub returns : goal.returns
returns c = jobs_answer (words_of c.args.line.now) c.jobs.result c.jobs.ensures
