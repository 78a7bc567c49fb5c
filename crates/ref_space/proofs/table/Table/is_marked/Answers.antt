use Rattle.ref_space.proofs.CellChanges.{round_seen}
use Rattle.ref_space.proofs.Common.{◌∙◌}
use Rattle.ref_space.proofs.Common.{is_marked_in}
use Rattle.ref_space.proofs.CellChanges.{blind_told, marked-named}
use Rattle.ref_space.proofs.table.Table.is_marked.Goals as goal

pub returns-in-Some : goal.returns-in-Some
returns-in-Some g c =
    rw (round_seen c.self.invariant c.self.view_is)
    (c.is_marked.ensures
    ∙ blind_told c.self.invariant c.args.no c.self.view_is c.deref.ensures.value c.deref-2.ensures.value
    c.in-Some.ensures (is_marked_in c.self.inside.round.number) (marked-named c.self.inside.round.number))

pub returns-in-None : goal.returns-in-None
returns-in-None g c =
    rw (round_seen c.self.invariant c.self.view_is)
    (blind_told c.self.invariant c.args.no c.self.view_is c.deref.ensures.value c.deref-2.ensures.value
    c.in-None.ensures (is_marked_in c.self.inside.round.number) (marked-named c.self.inside.round.number))
