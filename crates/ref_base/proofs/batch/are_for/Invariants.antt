use Rattle.ref_base.proofs.Common.{◌≡◌, ◌==◌, drop}
use Rattle.std.specs.List.{list_all}
use Rattle.ref_base.proofs.batch.are_for.Given as goal

-- whether what is left is for it says whether all of them are
abbrev pub invariant-loop-item : goal.invariant-loop-item
invariant-loop-item g l =
    list_all (λ x. g.T.Parcel.queue_of x == l.queue) (drop l.item-index l.items)
    ≡ list_all (λ x. g.T.Parcel.queue_of x == l.queue) l.items
