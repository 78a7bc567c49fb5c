use Rattle.ref_space.proofs.Common.{◌∙◌, ap, sym}
use Rattle.ref_space.specs.Pages.{has_chosen}
use Rattle.ref_space.specs.Tables.{Table}
use Rattle.ref_space.proofs.table.Table.heal.Goals as goal

pub recolour-requires-clause-settled : goal.recolour-requires-clause-settled
recolour-requires-clause-settled g c =
    ap (λ (t : Table). has_chosen t.ways.pages.uses) (sym c.self.view_is) ∙ sym c.has_chosen.ensures
    ∙ c.if-has_chosen.false
