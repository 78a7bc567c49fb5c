use Rattle.ref_objects.proofs.Common.{◌∙◌, sym, arith, length-map, objects_of}
use Rattle.ref_space.proofs.TabledLemmas.{is_there-objects_of}
use Rattle.ref_objects.proofs.NumberLemmas.{numbers_in_order}
use Rattle.ref_space.proofs.MarkCounts.{length-unmarked_of}
use Rattle.ref_objects.proofs.MarkLemmas.{marked_there}
use Rattle.ref_objects.proofs.HealedLemmas.{unhealed_there}
use Rattle.ref_objects.proofs.MarkedLemmas.{there_below}
use Rattle.ref_objects.proofs.TagLemmas.{numbers-tags_of}
use Rattle.ref_objects.proofs.objects.Objects.object_count.Goals as goal

pub returns-clause-count : goal.returns-clause-count
returns-clause-count g c =
    rw (← c.self.view_is) (c.len.ensures.count ∙ sym (length-map c.self.inside.table.tabled (λ k. k.object)))

pub returns-clause-well_formed : goal.returns-clause-well_formed
returns-clause-well_formed g c =
    let ks = c.self.inside.table.tabled in
    let orderly = c.len.ensures.orderly in
    let same = length-map ks (λ k. k.object) in
    let laid = c.len.ensures.laid in
    let marks = length-unmarked_of c.self.inside.table.round.number ks in
    rw (← c.self.view_is) (record {
      orderly = record {
        rising = orderly.rising;
        below = λ n there. there_below (objects_of ks) _ _ c.self.invariant.ground.given orderly.given n there;
        slots = c.self.invariant.ground.slot_count;
      };
      held = numbers_in_order (λ k. k.holds) ks orderly.rising;
      few = omega (arith, same, orderly.few, c.self.invariant.ground.room);
      marks = omega (arith, same, marks);
      marked = marked_there c.self.inside.table.round.number ks orderly.rising;
      unhealed = unhealed_there c.self.inside.table.round.number ks orderly.rising;
      tagged = numbers-tags_of ks;
      closed = c.self.invariant.closed;
      lies = record {
        lies = λ n is. laid.lies n (sym (is_there-objects_of ks n) ∙ is);
        there = λ place n at. is_there-objects_of ks n ∙ laid.there place n at;
        once = laid.once;
      };
      free = c.len.ensures.free;
    })
