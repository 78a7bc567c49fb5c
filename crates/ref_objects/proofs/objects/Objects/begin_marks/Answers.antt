use Rattle.ref_objects.proofs.Common.{◌∙◌, ap, sym, Ground}
use Rattle.ref_objects.proofs.MarkedLemmas.{seen_begun}
use Rattle.ref_objects.proofs.MoveLemmas.{begins_apart}
use Rattle.ref_objects.proofs.SoundLemmas.{begun_sound}
use Rattle.ref_objects.proofs.objects.Objects.begin_marks.Goals as goal

pub begin-requires-clause-settled : goal.begin-requires-clause-settled
begin-requires-clause-settled g c = ap (λ (g : Ground). g.space.still_to_move) c.self.view_is ∙ c.requires.moved

pub begin-requires-clause-apart : goal.begin-requires-clause-apart
begin-requires-clause-apart g c =
    begins_apart c.self.invariant c.args.good
    (λ same. c.requires.other (ap (λ (g : Ground). g.space.last) (sym c.self.view_is) ∙ same))
    (λ is.
    ap (λ (g : Ground). g.space.has_choice) c.self.view_is
    ∙ c.requires.ended (ap (λ (g : Ground). g.space.stage) (sym c.self.view_is) ∙ is))

pub invariant_of-self : goal.invariant_of-self
invariant_of-self g c =
    rw c.begin.ensures
    (begun_sound c.self.invariant c.args.good c.requires.cycle c.known.ensures.orderly.dated)

pub returns : goal.returns
returns g c =
    rw (c.begin.ensures, ← c.self.view_is)
    (seen_begun c.self.invariant.ground c.args.good c.known.ensures.orderly.dated)
