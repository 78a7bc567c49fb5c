use Rattle.std.proofs.Common.{arith}
use Rattle.ref_c.proofs.WrittenLemmas.{number-left-out, number-written}
use Rattle.ref_c.proofs.list.list_number.Goals as goal

pub returns-then-used-table : goal.returns-then-used-table
returns-then-used-table c first new is =
    let a = c.args in number-written first new a.table.now a.used a.number is (grind (arith, c.if-used-table.true))

pub returns : goal.returns
returns c first new is =
    let a = c.args in number-left-out first new a.table.now a.used a.number is (grind (arith, c.if-used-table.false))
