use Rattle.ref_objects.proofs.Common.{Some, sym, ◌∙◌, ap}
use Rattle.ref_objects.specs.Grounds.{stamp_in}
use Rattle.ref_objects.proofs.objects.Objects.stamp_of.Goals as goal

pub returns-in-Some : goal.returns-in-Some
returns-in-Some g c =
    ap stamp_in (ap Some c.reference.view_is ∙ sym c.in-Some.is ∙ c.reference_of.ensures)

pub returns-in-None : goal.returns-in-None
returns-in-None g c = ap stamp_in (sym c.in-None.is ∙ c.reference_of.ensures)
