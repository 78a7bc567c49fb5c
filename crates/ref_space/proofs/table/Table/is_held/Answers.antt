use Rattle.ref_space.proofs.Common.{◌∙◌, ap}
use Rattle.ref_space.proofs.Common.{nat_lt, holds_in}
use Rattle.ref_space.proofs.CellChanges.{blind_told, holds-named}
use Rattle.ref_space.proofs.table.Table.is_held.Goals as goal

pub returns-in-Some : goal.returns-in-Some
returns-in-Some g c =
    c.is_held.ensures
    ∙ blind_told c.self.invariant c.args.no c.self.view_is c.deref.ensures.value c.deref-2.ensures.value
    c.in-Some.ensures (λ k. nat_lt 0 (holds_in k)) (λ name k. ap (nat_lt 0) (holds-named name k))

pub returns-in-None : goal.returns-in-None
returns-in-None g c =
    blind_told c.self.invariant c.args.no c.self.view_is c.deref.ensures.value c.deref-2.ensures.value
    c.in-None.ensures (λ k. nat_lt 0 (holds_in k)) (λ name k. ap (nat_lt 0) (holds-named name k))
