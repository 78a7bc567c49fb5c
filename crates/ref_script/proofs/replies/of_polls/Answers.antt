use Rattle.ref_script.proofs.Common.{words_of}
use Rattle.ref_script.proofs.ReplyAnswers.{polls_answer}
use Rattle.ref_script.proofs.replies.of_polls.Goals as goal

pub returns : goal.returns
returns c = polls_answer (words_of c.args.line.now) c.polls.result c.polls.ensures
