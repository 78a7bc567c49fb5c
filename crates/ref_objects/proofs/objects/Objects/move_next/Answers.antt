use Rattle.ref_objects.proofs.Common.{◌≡◌, ◌∙◌, ℕ, ap, sym, true, Ground, Option, Some, None, is_some, tabled_at}
use Rattle.std.specs.Option.{IfSome}
use Rattle.ref_base.specs.Graphs.{is_there}
use Rattle.ref_space.specs.Worklists.{first_in}
use Rattle.ref_space.proofs.TabledLemmas.{is_there-objects_of}
use Rattle.ref_objects.specs.Grounds.{ground_brought}
use Rattle.ref_objects.specs.GroundViews.{stored_fields}
use Rattle.ref_objects.proofs.MoveLemmas.{seen_brought}
use Rattle.ref_objects.proofs.SoundLemmas.{brought_sound}
use Rattle.ref_objects.proofs.objects.Objects.move_next.Goals as goal

pub invariant_of-self : goal.invariant_of-self
invariant_of-self g c =
    brought_sound c.self.invariant c.move_next.result c.move_next.ensures.after c.move_next.ensures.left

pub returns-clause-answer : goal.returns-clause-answer
returns-clause-answer g c =
    c.move_next.ensures.answer ∙ ap (λ (g : Ground). first_in g.space.still_to_move) c.self.view_is

pub returns-clause-there : goal.returns-clause-there
returns-clause-there g c = by c.move_next.result c.move_next.ensures.there
  where
    by : (n : Option ℕ) → IfSome n (λ no. is_some (tabled_at c.self.inside.table.tabled no) ≡ true)
        → IfSome n (λ no. is_there c.args.self.now.heap.objects no ≡ true)
    by None there = tt
    by (Some n) there =
        ap (λ (g : Ground). is_there g.heap.objects n) (sym c.self.view_is)
        ∙ is_there-objects_of c.self.inside.table.tabled n ∙ there

pub returns-clause-after : goal.returns-clause-after
returns-clause-after g c =
    seen_brought
    (stored_fields c.self.inside.config c.self.inside.heap_no c.self.inside.table c.self.inside.holds
    c.self.inside.clock c.self.inside.next c.self.inside.condemning c.self.inside.last c.self.inside.stage
    c.self.inside.has_choice)
    c.move_next.result c.move_next.new.self c.move_next.ensures.after c.move_next.ensures.left
    ∙ ap (λ (g : Ground). ground_brought g c.move_next.result) c.self.view_is
