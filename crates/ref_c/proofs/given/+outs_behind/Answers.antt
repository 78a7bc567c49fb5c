use Rattle.std.proofs.Common.{arith}
use Rattle.ref_c.proofs.GivenLemmas.{none-at-front, none-by-one, outs-at-front}
use Rattle.ref_c.proofs.given.+outs_behind.Goals as goal

pub returns-in_err-done-in-len2-up : goal.returns-in_err-done-in-len2-up
returns-in_err-done-in-len2-up g c =
    let a = c.args in
    rw c.from_residual.ensures
    (none-at-front a.outs a.next a.list.now c.in-len2-up.len_at_least c.in_err-done-in-len2-up.ensures)

pub returns-in-len1 : goal.returns-in-len1
returns-in-len1 g c more room lists =
    none-by-one c.args.next c.args.list.now more c.in-len1.len_at_least c.in-len1.len_below lists

pub returns-else-len-eq-MOST_IN_BATCH : goal.returns-else-len-eq-MOST_IN_BATCH
returns-else-len-eq-MOST_IN_BATCH g c =
    let a = c.args in
    outs-at-front a.outs c.push.new.self a.next c.from.result a.list.now c.in_ok-done-in-len2-up.done
    c.outs_behind.result c.in-len2-up.len_at_least c.in_ok-done-in-len2-up.ensures c.push.ensures
    (grind (arith, c.from.ensures, c.is_added.ensures)) c.outs_behind.ensures
