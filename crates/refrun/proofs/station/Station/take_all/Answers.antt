use Rattle.refrun.proofs.Common.{◌<◌, List, sym, ◌∙◌, subst, length}
use Rattle.ref_base.specs.HeapSteps.{HeldNotice}
use Rattle.ref_share.proofs.ReleasedRest.{shorter}
use Rattle.refrun.proofs.station.Station.take_all.Goals as goal

pub loop-notice-smaller : goal.loop-notice-smaller
loop-notice-smaller g c =
    subst (λ (left : List HeldNotice). length left < length c.loop-notice.batch) (sym c.take_first.ensures.after)
    (shorter c.loop-notice.batch c.in-Some.notice (sym c.take_first.ensures.answer ∙ c.in-Some.is))
