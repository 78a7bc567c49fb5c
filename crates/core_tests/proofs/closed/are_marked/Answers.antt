use Rattle.std.proofs.Common.{arith}
use Rattle.core_tests.proofs.ClosedLemmas.{more_in}
use Rattle.core_tests.proofs.closed.are_marked.Goals as goal

pub loop-field-preserved : goal.loop-field-preserved
loop-field-preserved g c =
    more_in c.args.fields.now c.args.heap.now.marked c.loop-field.field c.get.result
    (omega (arith, c.loop-field-test.true, c.len-field-end.ensures.count)) c.get.ensures
    c.if-not-is_marked_if_any.ensures c.loop-field.invariant
