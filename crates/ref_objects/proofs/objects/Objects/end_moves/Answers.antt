use Rattle.ref_objects.proofs.Common.{◌∙◌, ap, Ground}
use Rattle.ref_objects.specs.Grounds.{with_choice_ended}
use Rattle.ref_objects.proofs.ChoiceLemmas.{ended_choice_sound, ended_seen}
use Rattle.ref_objects.proofs.MoveLemmas.{settled_tuned}
use Rattle.ref_objects.proofs.objects.Objects.end_moves.Goals as goal

pub renumber-requires-clause-tuned : goal.renumber-requires-clause-tuned
renumber-requires-clause-tuned g c =
    settled_tuned c.self.invariant
    (ap (λ (g : Ground). g.space.stage) c.self.view_is ∙ c.requires.tuned)

pub renumber-requires-clause-healed : goal.renumber-requires-clause-healed
renumber-requires-clause-healed g c =
    ap (λ (g : Ground). g.space.unhealed) c.self.view_is ∙ c.requires.healed

pub invariant_of-self : goal.invariant_of-self
invariant_of-self g c =
    let tuned_now = ap (λ (g : Ground). g.space.stage) c.self.view_is ∙ c.requires.tuned in
    rw c.renumber.ensures
    (ended_choice_sound c.self.invariant tuned_now
    (c.known.ensures.settled (settled_tuned c.self.invariant tuned_now)))

pub returns : goal.returns
returns g c =
    let tuned_now = ap (λ (g : Ground). g.space.stage) c.self.view_is ∙ c.requires.tuned in
    rw c.renumber.ensures
    (ended_seen c.self.invariant tuned_now
    (c.known.ensures.settled (settled_tuned c.self.invariant tuned_now))
    ∙ ap (λ (g : Ground). record g { space = with_choice_ended g.space }) c.self.view_is)
