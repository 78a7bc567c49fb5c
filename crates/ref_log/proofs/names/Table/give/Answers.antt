use Rattle.std.proofs.Common.{ap, ◌∙◌}
use Rattle.ref_log.specs.Names.{number_named}
use Rattle.ref_log.specs.NameViews.{names_in}
use Rattle.ref_log.proofs.NameLemmas.{entry_given}
use Rattle.ref_log.proofs.names.Table.give.Goals as goal

pub returns-clause-given : goal.returns-clause-given
returns-clause-given g c =
    rw (← c.self.view_is)
    (λ name. ap (λ es. number_named (names_in es) name) c.in_ok-insert.ensures.entries
    ∙ entry_given c.self.inside.numbers.entries c.args.name c.args.number name)
