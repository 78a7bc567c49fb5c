use Rattle.std.proofs.lemmas.List.Elements.{All-push}
use Rattle.refrun.proofs.Common.{All, sym, subst}
use Rattle.refrun.specs.CleaningSeats.{IsCleanSeated}
use Rattle.refrun.proofs.cleaning.Cleaning.stations.Goals as goal

pub loop-jobs-preserved : goal.loop-jobs-preserved
loop-jobs-preserved g c = (
  c.station.ensures.seats,
  subst (All (λ station. IsCleanSeated station)) (sym c.in_ok-push.ensures.items)
      (All-push (λ station. IsCleanSeated station) _ _ c.loop-jobs.invariant.1 c.station.ensures.seated),
)
