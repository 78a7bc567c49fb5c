use Rattle.ref_space.proofs.CellChanges.{round_seen}
use Rattle.ref_space.proofs.Common.{◌∙◌}
use Rattle.ref_space.proofs.Common.{is_unmarked_in}
use Rattle.ref_space.proofs.CellChanges.{blind_read, unmarked-named}
use Rattle.ref_space.proofs.table.Table.is_unmarked_by.Goals as goal

pub returns-in-Some : goal.returns-in-Some
returns-in-Some g c =
    rw (round_seen c.self.invariant c.self.view_is)
    (c.is_unmarked.ensures
    ∙ blind_read c.self.invariant c.args.value c.self.view_is c.deref.ensures.value c.deref-2.ensures.value
    c.in-Some.ensures
    (is_unmarked_in c.self.inside.round.number) (unmarked-named c.self.inside.round.number))

pub returns-in-None : goal.returns-in-None
returns-in-None g c =
    rw (round_seen c.self.invariant c.self.view_is)
    (blind_read c.self.invariant c.args.value c.self.view_is c.deref.ensures.value c.deref-2.ensures.value
    c.in-None.ensures
    (is_unmarked_in c.self.inside.round.number) (unmarked-named c.self.inside.round.number))
