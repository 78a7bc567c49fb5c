use Rattle.ref_objects.proofs.Common.{◌∙◌, ap, arith, sym}
use Rattle.ref_space.specs.Tables.{left_of}
use Rattle.ref_objects.specs.Grounds.{is_tuned}
use Rattle.ref_objects.proofs.SoundLemmas.{freed_sound, freed_seen}
use Rattle.ref_objects.proofs.SlotLemmas.{condemned_unnamed}
use Rattle.ref_objects.proofs.MarkLemmas.{is_unmarked-tabled}
use Rattle.ref_objects.proofs.objects.Objects.free.Goals as goal

pub free-requires-clause-tuned : goal.free-requires-clause-tuned
free-requires-clause-tuned g c =
    c.self.invariant.moves.settled
    ∙ ap is_tuned (c.self.invariant.moves.condemns c.if-self.true)

pub free-requires-clause-unnamed : goal.free-requires-clause-unnamed
free-requires-clause-unnamed g c = condemned_unnamed c.self.invariant c.known.ensures.orderly.rising c.if-self.true
    c.args.entry.no

pub invariant_of-self : goal.invariant_of-self
invariant_of-self g c =
    rw c.free.ensures.after
    (freed_sound c.self.invariant c.known.ensures.orderly.rising c.args.entry.no c.if-self.true
    (ap left_of (sym c.free.ensures.after) ∙ c.free.ensures.left))

pub returns-then-self-clause-answer : goal.returns-then-self-clause-answer
returns-then-self-clause-answer g c = grind (arith, is_unmarked-tabled)

pub returns-then-self-clause-after : goal.returns-then-self-clause-after
returns-then-self-clause-after g c =
    rw (c.free.ensures.after, ← c.self.view_is)
    (freed_seen c.self.invariant c.known.ensures.orderly.rising c.args.entry.no c.if-self.true
    (ap left_of (sym c.free.ensures.after) ∙ c.free.ensures.left))
