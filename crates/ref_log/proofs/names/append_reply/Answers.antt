use Rattle.std.proofs.Common.{arith, append_assoc}
use Rattle.ref_log.proofs.LineWords.{first_word_alone}
use Rattle.ref_log.proofs.names.append_reply.Goals as goal

pub returns-in_ok-append-in-Some : goal.returns-in_ok-append-in-Some
returns-in_ok-append-in-Some g c = grind (arith, append_assoc, first_word_alone)
