use Rattle.ref_script.proofs.Common.{sym, words_of}
use Rattle.ref_script.proofs.ReplyAnswers.{puts_batch_at, puts_none, puts_one, puts_put}
use Rattle.ref_script.proofs.replies.of_puts.Goals as goal

pub returns-in-Some : goal.returns-in-Some
returns-in-Some c =
    puts_batch_at (words_of c.args.line.now) c.first_position.result c.in-Some.outs c.first_position.ensures.position
    c.first_position.ensures.half c.in-Some.ensures

pub returns-in_err-reply : goal.returns-in_err-reply
returns-in_err-reply c =
    puts_none (words_of c.args.line.now) c.first_position.result c.from_residual.result
    c.first_position.ensures.position c.in_default.ensures (sym c.in_err-reply.ensures) c.from_residual.ensures

pub returns-then-is_of_put : goal.returns-then-is_of_put
returns-then-is_of_put c =
    puts_put (words_of c.args.line.now) c.first_position.result c.in_ok-reply.reply c.first_position.ensures.position
    c.in_default.ensures (sym c.in_ok-reply.ensures) (sym c.if-is_of_put.ensures)

pub returns : goal.returns
returns c =
    puts_one (words_of c.args.line.now) c.in_ok-reply.reply (sym c.in_ok-reply.ensures) (sym c.if-is_of_put.ensures)
