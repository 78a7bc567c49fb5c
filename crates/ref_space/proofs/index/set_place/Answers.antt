use Rattle.ref_space.proofs.Common.{◌∙◌, sym, arith}
use Rattle.ref_space.proofs.MovedLemmas.{found-at, other-at, past-with_place}
use Rattle.ref_space.proofs.index.set_place.Goals.{else-at-index-via-then-at-index+else-eq}
use Rattle.ref_space.proofs.index.set_place.Goals.{else-at-index-via-else-at-index}
use Rattle.ref_space.proofs.index.set_place.Goals as goal

pub returns-then-eq : goal.returns-then-eq
returns-then-eq c =
    found-at c.args.index.now c.args.no c.args.place c.count_below-at.result c.index-index-at.result c.requires
    c.count_below-at.ensures.count c.if-at-index.true c.index-index-at.is (sym c.eq.ensures ∙ c.if-eq.true)

pub returns-else-at-index : goal.returns-else-at-index
returns-else-at-index c =
    elim c.else-at-index.branch [
      | else-at-index-via-then-at-index+else-eq w ↦
          other-at c.args.index.now c.args.no c.args.place c.count_below-at.result w.index-index-at.result c.requires
          c.count_below-at.ensures.count w.if-at-index.true w.index-index-at.is (sym w.eq.ensures ∙ w.if-eq.false)
      | else-at-index-via-else-at-index w ↦
          past-with_place c.args.index.now c.args.no c.args.place
          (let past = w.if-at-index.false in let count = c.count_below-at.ensures.count in omega (arith, past, count))
    ]
