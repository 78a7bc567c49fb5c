use Rattle.ref_objects.proofs.Common.{arith, ap, referent_of, reference_at, Some, ◌≡◌, held_at}
use Rattle.ref_objects.proofs.SparedLemmas.{spared_referent}
use Rattle.ref_objects.proofs.SoundLemmas.{slot_spared}
use Rattle.ref_objects.proofs.SlotLemmas.{reference-held}
use Rattle.ref_objects.proofs.objects.Objects.reference_in.Goals as goal

pub returns-in_err-reference-clause-refused : goal.returns-in_err-reference-clause-refused
returns-in_err-reference-clause-refused g c = grind (arith, reference-held c.self.invariant)

pub returns-clause-refused : goal.returns-clause-refused
returns-clause-refused g c = grind (arith, reference-held c.self.invariant)

pub returns-clause-answer : goal.returns-clause-answer
returns-clause-answer g c = grind (arith, reference-held c.self.invariant)

pub returns-clause-spared : goal.returns-clause-spared
returns-clause-spared g c =
    let held : Some c.in_ok-no.no ≡ held_at c.self.inside.table c.in_ok-place.place = grind arith in
    let reads : reference_at c.args.self.now.heap c.in_ok-no.no ≡ Some c.in_ok-reference.reference =
    grind (arith, reference-held c.self.invariant) in (
      slot_spared c.self.invariant c.self.view_is c.in_ok-place.place held,
      spared_referent c.args.self.now (rw (← c.self.view_is) c.self.invariant.closed) c.in_ok-no.no
          c.in_ok-reference.reference.referent (ap referent_of reads),
    )
