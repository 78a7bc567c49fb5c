use Rattle.ref_space.specs.Moves.{ways_of}
use Rattle.ref_space.proofs.Common.{sym, ◌∙◌, ap}
use Rattle.ref_space.proofs.Common.{subst, IsOrderlyTable, Table, length, length-map, by_number, target_by}
use Rattle.ref_space.proofs.Common.{occupants_of}
use Rattle.ref_space.proofs.Common.{tabled_by}
use Rattle.ref_space.proofs.CellChanges.{free_seen, lie_once}
use Rattle.ref_space.proofs.TableLemmas.{orderly}
use Rattle.ref_space.proofs.BroughtLemmas.{settled_left}
use Rattle.ref_space.proofs.table.Table.len.Goals as goal

pub returns-clause-count : goal.returns-clause-count
returns-clause-count g c =
    c.self.invariant.0.counted
    ∙ sym (length-map (tabled_by c.self.inside.cells.items c.self.inside.index.items)
    (by_number (target_by (ways_of c.self.inside.pages c.self.inside.forwards.items c.self.inside.last_good
    c.self.inside.is_tuned) (occupants_of c.self.inside.cells.items))))
    ∙ ap (λ (t : Table). length t.tabled) c.self.view_is

pub returns-clause-orderly : goal.returns-clause-orderly
returns-clause-orderly g c = subst IsOrderlyTable c.self.view_is
    (orderly c.self.inside.slots.items c.self.invariant.0 c.self.invariant.1)

pub returns-clause-settled : goal.returns-clause-settled
returns-clause-settled g c is_tuned = settled_left c.self.invariant c.self.view_is is_tuned

pub returns-clause-laid : goal.returns-clause-laid
returns-clause-laid g c = lie_once c.self.invariant c.self.view_is

pub returns-clause-free : goal.returns-clause-free
returns-clause-free g c = free_seen c.self.invariant c.self.view_is
