use Rattle.ref_world.proofs.Common.{ap, sym, ◌∙◌, told_notices}
use Rattle.ref_world.proofs.HandedNotices.{given_own, given_notices}
use Rattle.ref_world.proofs.passage.Passage.hand_on.Goals as goal

pub fill_from-requires-clause-own : goal.fill_from-requires-clause-own
fill_from-requires-clause-own g c =
    given_own _ _ _ _ c.self.invariant c.requires.own c.hand_batch-answer.ensures.given

pub returns-clause-hand : goal.returns-clause-hand
returns-clause-hand g c =
    c.fill_from.ensures.filled
    ∙ given_notices _ _ _ _ c.self.invariant c.requires.own c.hand_batch-answer.ensures.given
    ∙ ap told_notices (sym c.handed_on.ensures)
