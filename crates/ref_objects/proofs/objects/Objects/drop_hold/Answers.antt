use Rattle.ref_objects.proofs.Common.{arith}
use Rattle.ref_space.proofs.TableReads.{holds_in-le}
use Rattle.ref_objects.proofs.GroundLemmas.{has-holds_of, seen_dropped}
use Rattle.ref_space.proofs.ChangeLemmas.{changed-unheld}
use Rattle.ref_objects.proofs.SoundLemmas.{unheld_sound, unheld_spared}
use Rattle.ref_objects.proofs.objects.Objects.drop_hold.Goals as goal

pub overflow_sub-self : goal.overflow_sub-self
overflow_sub-self g c = grind (arith, holds_in-le)

pub invariant_of-self : goal.invariant_of-self
invariant_of-self g c =
    grind (arith, unheld_sound c.self.invariant c.known.ensures.orderly.rising c.args.no)

pub invariant_of-self-else-was_held : goal.invariant_of-self-else-was_held
invariant_of-self-else-was_held g c = grind (arith, changed-unheld)

pub returns-then-was_held-clause-held : goal.returns-then-was_held-clause-held
returns-then-was_held-clause-held g c = grind (arith, has-holds_of)

pub returns-then-was_held-clause-after : goal.returns-then-was_held-clause-after
returns-then-was_held-clause-after g c =
    grind (arith, has-holds_of, seen_dropped c.self.invariant.ground c.args.no c.known.ensures.orderly.rising)

pub returns-else-was_held-clause-held : goal.returns-else-was_held-clause-held
returns-else-was_held-clause-held g c = grind (arith, has-holds_of)

pub returns-else-was_held-clause-after : goal.returns-else-was_held-clause-after
returns-else-was_held-clause-after g c = grind (arith, has-holds_of, changed-unheld)

pub returns-then-was_held-clause-spared : goal.returns-then-was_held-clause-spared
returns-then-was_held-clause-spared g c =
    grind (arith, unheld_spared c.self.invariant c.known.ensures.orderly.rising c.args.no)
