use Rattle.ref_mark.proofs.Common.{None, sym, ap, ◌∙◌, slice_index_or}
use Rattle.ref_space.specs.Worklists.{entry_number}
use Rattle.ref_mark.proofs.MarkerLemmas.{sound_marked, may_grey_new}
use Rattle.ref_mark.proofs.SettledMoves.{settled_same, space_marked}
use Rattle.ref_mark.proofs.marker.Marker.shade_slot_at.Goals as goal

pub invariant_of-self : goal.invariant_of-self
invariant_of-self g c =
    let value = slice_index_or c.self.inside.objects.heap.slots c.args.place None in
    record {
      lists = sound_marked value c.mark_slot_at.ensures.after c.self.invariant.lists c.known.ensures;
      moves = settled_same c.self.inside.objects.space _ _ _
          (space_marked c.self.inside.objects _ value c.mark_slot_at.ensures.after) c.self.invariant.moves;
    }

pub push_grey-requires : goal.push_grey-requires
push_grey-requires g c =
    may_grey_new (slice_index_or c.self.inside.objects.heap.slots c.args.place None) c.mark_slot_at.ensures.after
    c.self.invariant.lists c.self.inside.policy c.self.inside.cycle c.in-Some.anew.no
    (sym c.mark_slot_at.ensures.answer ∙ ap entry_number c.in-Some.is)
