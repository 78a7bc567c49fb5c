use Rattle.ref_objects.proofs.Common.{◌∙◌, ap, arith, ◌≤◌, sym, subst, length, length-map, Ground}
use Rattle.ref_objects.proofs.SoundLemmas.{condemned_sound}
use Rattle.ref_objects.proofs.MarkLemmas.{unmarked-tabled}
use Rattle.ref_objects.proofs.MarkedLemmas.{seen_condemned}
use Rattle.ref_objects.proofs.objects.Objects.condemn.Goals as goal

pub condemn-requires : goal.condemn-requires
condemn-requires g c =
    omega (
      arith,
      length-map c.self.inside.table.tabled (λ k. k.object),
      subst (λ (g : Ground). length g.heap.objects ≤ c.args.condemned.now.room) (sym c.self.view_is) c.requires.room,
    )

pub invariant_of-self : goal.invariant_of-self
invariant_of-self g c =
    grind (
      arith,
      condemned_sound c.self.invariant c.known.ensures.orderly.rising
          (ap (λ (g : Ground). g.space.stage) c.self.view_is ∙ c.requires.tuned) c.self.view_is c.requires.closed,
    )

pub returns-clause-after : goal.returns-clause-after
returns-clause-after g c = grind (arith, seen_condemned c.self.invariant.ground c.known.ensures.orderly.rising)

pub returns-clause-list : goal.returns-clause-list
returns-clause-list g c = grind (arith, unmarked-tabled)
