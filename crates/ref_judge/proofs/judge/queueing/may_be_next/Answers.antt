use Rattle.ref_judge.proofs.TakenNumbers.{any-next, none-next}
use Rattle.ref_judge.proofs.judge.queueing.may_be_next.Goals as goal

pub returns-then-contains : goal.returns-then-contains
returns-then-contains g c =
    rw (c.in-Any.is, ← c.line.view_is)
    (any-next _ c.args.numbers.now c.args.place c.index-numbers-place.result c.contains.result
    c.contains-then-contains.result c.requires.place c.index-numbers-place.is c.contains.ensures.value
    c.contains-then-contains.ensures.value c.if-contains.true)

pub returns-else-contains : goal.returns-else-contains
returns-else-contains g c =
    rw (c.in-Any.is, ← c.line.view_is)
    (none-next _ c.args.numbers.now c.args.place c.index-numbers-place.result c.contains.result c.requires.place
    c.index-numbers-place.is c.contains.ensures.value c.if-contains.false)
