use Rattle.std.proofs.Common.{arith, ◌∙◌, sym, slice_index_or}
use Rattle.ref_judge.proofs.PutNumbers.{left_untried, left_here, none_left, few_more, get_or_again}
use Rattle.ref_judge.proofs.judge.queueing.not_added.Goals.{then-place-told, then-place-told-via-then-place-told}
use Rattle.ref_judge.proofs.judge.queueing.not_added.Goals.{then-place-told-via-else-place-told+then-not-is_added}
use Rattle.ref_judge.proofs.judge.queueing.not_added.Goals.{else-place-told+else-not-is_added}
use Rattle.ref_judge.proofs.judge.queueing.not_added.Goals as goal

pub loop-place-preserved : goal.loop-place-preserved
loop-place-preserved c =
    let ns = c.args.numbers.now in
    let ds = c.args.told.now in
    let at = c.loop-place.place in
    let so_far = c.loop-place.invariant in
    elim c.if-place-told.branch [
      | then-place-told w ↦
          rw (w.left-is, w.push.ensures) (record {
            left = elim w.then-place-told.branch [
              | then-place-told-via-then-place-told v ↦
                  left_untried ns ds at w.index-numbers-place.result c.loop-place.left _ c.loop-place-test.true
                  w.index-numbers-place.is so_far.left v.if-place-told.true
              | then-place-told-via-else-place-told+then-not-is_added v ↦
                  left_here ns ds at w.index-numbers-place.result c.loop-place.left _ c.loop-place-test.true
                  w.index-numbers-place.is so_far.left _ (omega (arith, v.if-place-told.false))
                  (sym v.is_added.ensures ∙ v.if-not-is_added.true)
            ];
            few = few_more c.loop-place.left w.index-numbers-place.result at so_far.few;
          })
      | else-place-told+else-not-is_added w ↦
          rw w.left-is (record {
            left = none_left ns ds at (slice_index_or ns at 0) c.loop-place.left _ c.loop-place-test.true
                (get_or_again ns at c.loop-place-test.true) so_far.left _
                (omega (arith, w.if-place-told.false)) (sym w.is_added.ensures ∙ w.if-not-is_added.false);
            few = omega (arith, so_far.few);
          })
    ]
