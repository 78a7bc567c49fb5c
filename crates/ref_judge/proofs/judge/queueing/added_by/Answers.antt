use Rattle.std.proofs.Common.{arith, ◌<◌, refl, sym, ◌∙◌, [], length}
use Rattle.ref_judge.proofs.PutNumbers.{each_long, further_added, further_other}
use Rattle.ref_judge.proofs.PutNumbers.{some_untried, few_more}
use Rattle.ref_judge.proofs.judge.queueing.added_by.Goals.{then-is_added, else-is_added}
use Rattle.ref_judge.proofs.judge.queueing.added_by.Goals as goal

pub returns-then-told-numbers : goal.returns-then-told-numbers
returns-then-told-numbers g c = (
  refl,
  each_long c.args.objects.now.tags [] c.args.is_closed c.args.numbers.now c.args.told.now
      c.if-told-numbers.true,
)

pub returns-then-told-numbers-2 : goal.returns-then-told-numbers-2
returns-then-told-numbers-2 g c = (
  refl,
  some_untried c.args.objects.now.tags c.loop-place.added c.args.is_closed c.args.numbers.now c.args.told.now
      c.loop-place.place _ _ c.loop-place.invariant.may c.loop-place.invariant.added 0
      (omega (arith, c.loop-place-test.false))
      (omega (arith, c.loop-place.auto, c.if-told-numbers-2.true)),
)

pub loop-place-preserved : goal.loop-place-preserved
loop-place-preserved g c =
    let ts = c.args.objects.now.tags in
    let closed = c.args.is_closed in
    let ns = c.args.numbers.now in
    let ds = c.args.told.now in
    let at = c.loop-place.place in
    let no = c.index-numbers-place.result in
    let so_far = c.loop-place.invariant in
    let within : at < length ns = omega (arith, c.loop-place-test.true, c.if-told-numbers.false) in
    let may = sym c.becomes.ensures ∙ c.if-not-becomes.false in
    let other = sym c.is_refused.ensures ∙ c.if-is_refused.false in
    let right = rw (c.was_put.ensures, c.as_slice.ensures.numbers) at may in
    elim c.if-is_added.branch [
      | then-is_added w ↦
          let further =
          further_added ts c.loop-place.added closed ns ds at _ _ so_far.may so_far.added no _ within
          c.loop-place-test.true c.index-numbers-place.is right other (sym c.is_added.ensures ∙ w.if-is_added.true) in
          rw (w.added-is, w.push.ensures)
          (record { may = further.0; added = further.1; few = few_more c.loop-place.added no at so_far.few })
      | else-is_added w ↦
          let further =
          further_other ts c.loop-place.added closed ns ds at _ _ so_far.may so_far.added no _ within
          c.loop-place-test.true c.index-numbers-place.is right other (sym c.is_added.ensures ∙ w.if-is_added.false) in
          rw w.added-is (record { may = further.0; added = further.1; few = omega (arith, so_far.few) })
    ]
