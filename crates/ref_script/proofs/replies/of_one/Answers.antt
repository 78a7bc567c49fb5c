use Rattle.ref_script.proofs.Common.{words_of}
use Rattle.ref_script.proofs.ReplyAnswers.{one_answer}
use Rattle.ref_script.proofs.replies.of_one.Goals as goal

pub returns : goal.returns
returns c = one_answer (words_of c.args.line.now) c.single.result c.single.ensures
