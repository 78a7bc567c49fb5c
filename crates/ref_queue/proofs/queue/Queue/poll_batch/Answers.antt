use Rattle.std.proofs.Common.{◌≡◌, ◌∙◌, ◌++◌, ◌∷◌, [], List, ℕ, ap, ap₂, sym, drop, map, append_assoc, add-one}
use Rattle.std.proofs.lemmas.List.{map-append}
use Rattle.ref_base.specs.QueueLists.{Lists}
use Rattle.ref_queue.proofs.BatchLemmas.{one_more_taken, after_one_more, none_more_taken, after_none_more}
use Rattle.ref_queue.proofs.BatchLemmas.{nothing_stands}
use Rattle.ref_queue.proofs.queue.Queue.poll_batch.Goals.{in-Took, in_default}
use Rattle.ref_queue.proofs.queue.Queue.poll_batch.Goals as goal

pub loop-item-preserved : goal.loop-item-preserved
loop-item-preserved g c =
    let object_of = g.T.Parcel.object_of in
    let queue = c.args.self.now in
    let so_far = c.loop-item.invariant in
    elim c.match-poll.branch [
      | in-Took w ↦
          let took = rw so_far.left at w.in-Took.ensures.answer in
          let longer = one_more_taken object_of queue c.loop-item._item took in
          rw add-one (record {
            left = after_one_more object_of queue c.loop-item._item took;
            batch =
                w.batch-is ∙ w.push-in-Took.ensures ∙ ap (λ xs. xs ++ w.in-Took.parcel ∷ []) so_far.batch
                ∙ append_assoc c.args.batch.now _ (w.in-Took.parcel ∷ [])
                ∙ ap (λ xs. c.args.batch.now ++ xs) (sym longer);
            numbers =
                w.numbers-is ∙ w.push.ensures
                ∙ ap₂ (λ (ns : List ℕ) (n : ℕ). ns ++ n ∷ []) so_far.numbers w.obj.ensures
                ∙ sym (map-append object_of _ (w.in-Took.parcel ∷ []))
                ∙ sym (ap (map object_of) longer);
          })
      | in_default w ↦
          let nothing =
          nothing_stands object_of c.loop-item.self c.poll.new.self c.poll.result c.poll.ensures.answer
          w.in_default.not-Took in
          let none : drop c.loop-item._item queue.stands ≡ [] =
          sym (ap (λ (q : Lists _). q.stands) so_far.left) ∙ nothing.0 in
          let same = none_more_taken object_of queue c.loop-item._item none in
          rw add-one (record {
            left = nothing.1 ∙ so_far.left ∙ after_none_more object_of queue c.loop-item._item none;
            batch = w.batch-is ∙ so_far.batch ∙ ap (λ xs. c.args.batch.now ++ xs) (sym same);
            numbers = w.numbers-is ∙ so_far.numbers ∙ sym (ap (map object_of) same);
          })
    ]
