use Rattle.ref_mark.proofs.Common.{sym, ap, ◌∙◌, slot_at}
use Rattle.ref_space.specs.Worklists.{entry_number}
use Rattle.ref_mark.proofs.MarkerLemmas.{sound_marked, may_grey_new}
use Rattle.ref_mark.proofs.SettledMoves.{settled_same, space_marked}
use Rattle.ref_mark.proofs.marker.Marker.bar.Goals as goal

pub invariant_of-self : goal.invariant_of-self
invariant_of-self g c =
    let value = slot_at c.self.inside.objects.heap c.args.mutator c.args.slot in
    record {
      lists = sound_marked value c.in-Ok-Some.ensures.after c.self.invariant.lists c.known.ensures;
      moves = settled_same c.self.inside.objects.space _ _ _
          (space_marked c.self.inside.objects _ value c.in-Ok-Some.ensures.after) c.self.invariant.moves;
    }

pub push_grey-requires : goal.push_grey-requires
push_grey-requires g c =
    may_grey_new (slot_at c.self.inside.objects.heap c.args.mutator c.args.slot) c.in-Ok-Some.ensures.after
    c.self.invariant.lists c.self.inside.policy c.self.inside.cycle c.in-Ok-Some.anew.no
    (sym c.in-Ok-Some.ensures.answer ∙ ap entry_number c.in-Ok-Some.field-0-is)
