use Rattle.ref_script.proofs.Common.{arith, ap}
use Rattle.std.specs.Result.{is_ok}
use Rattle.ref_script.proofs.ListingLemmas.{listed_more}
use Rattle.ref_script.proofs.Printing.{stands_behind}
use Rattle.ref_script.proofs.listing.lines_of_objects.Goals as goal

pub loop-object-preserved : goal.loop-object-preserved
loop-object-preserved g c =
    let line =
    stands_behind (λ printed. printed) (λ w bs v e. e)
    (c.say_object.ensures c.loop-object.invariant.1 (ap is_ok c.in-Ok.is)) in (
      listed_more c.args.listed.now c.loop-object.object-index c.object-item.result _ _ c.loop-object.invariant.0
          (omega arith) c.object-item.is line.0,
      line.1,
    )
