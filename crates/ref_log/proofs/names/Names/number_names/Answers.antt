use Rattle.std.proofs.Common.{arith}
use Rattle.std.proofs.lemmas.Result.{on_ok_weaker}
use Rattle.ref_script.specs.Lines.{words_of}
use Rattle.ref_log.proofs.NameLemmas.{numbered_unparted, row_written}
use Rattle.ref_log.proofs.names.Names.number_names.Goals as goal

pub returns-in_default-clause-words : goal.returns-in_default-clause-words
returns-in_default-clause-words g c = rw (← c.self.view_is) (grind (arith, numbered_unparted))

pub returns-clause-words : goal.returns-clause-words
returns-clause-words g c =
    rw (← c.self.view_is)
    (on_ok_weaker c.append_reply.result
    (row_written c.self.inside.table (words_of c.args.line.now) _ _ _ _ _ _ _ c.in-Some.ensures c.clear.ensures.items
    c.in_ok-append.ensures c.as_slice.ensures c.in_ok-append-2.ensures) c.append_reply.ensures)
