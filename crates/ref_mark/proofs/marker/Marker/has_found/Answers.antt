use Rattle.ref_mark.proofs.Common.{not, ◌∙◌, ◌==◌, Chain}
use Rattle.std.proofs.Common.{rules, tests}
use Rattle.std.proofs.lemmas.Iterator.{YieldsList-from_slice}
use Rattle.std.proofs.lemmas.Iterator.Search.{any_from_yields_List}
use Rattle.ref_mark.proofs.MarkerLemmas.{any_found}
use Rattle.ref_mark.proofs.marker.Marker.has_found.Goals as goal

pub returns : goal.returns
returns g c =
    rw (← c.self.view_is)
    (any_from_yields_List (λ (l : Chain). not (l.first == 0)) _ _ c.any.result c.any.ensures.ran
    (YieldsList-from_slice c.self.inside.found.items cc) (λ x b q k. search (rules, tests))
    ∙ any_found c.self.inside.objects.tags c.self.inside.objects.heap.config.cells c.self.inside.found.items
    c.self.invariant.lists.chains)
