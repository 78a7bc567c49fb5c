use Rattle.std.proofs.Common.{refl}
use Rattle.ref_c.proofs.kept.Kept.tell.Goals as goal
use Rattle.ref_c.specs.declared.answer.Answer.TheVariants.{Replied}

pub returns-in-Some : goal.returns-in-Some
returns-in-Some c =
    let told = c.step-told.result in
    rw (← c.in-Some.ensures)
    (Replied told, (told, refl, c.step-told.ensures.row), (c.numbers_of.ensures, c.list_reply.ensures))
