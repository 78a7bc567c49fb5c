use Rattle.ref_space.proofs.Common.{subst, length, ◌<◌}
use Rattle.std.specs.Option.{IfSome}
use Rattle.ref_space.proofs.TableSlots.{slot_leads}
use Rattle.ref_space.proofs.table.Table.kept_of_new.Goals as goal

pub returns-in-Some-clause-healed : goal.returns-in-Some-clause-healed
returns-in-Some-clause-healed g c =
    slot_leads c.self.invariant c.self.view_is c.in-Some.reference.from
    (subst (λ r. IfSome r (λ r. r.from < length c.args.self.now.slots)) c.in-Some.is c.requires) c.index.ensures
