use Rattle.std.proofs.Common.{ap, sym, ◌∙◌, unwrap_or}
use Rattle.ref_log.proofs.NameLemmas.{number_looked_up}
use Rattle.ref_log.proofs.names.Table.number_of.Goals as goal

pub returns : goal.returns
returns g c =
    rw (← c.self.view_is)
    (c.unwrap_or.ensures ∙ ap (λ o. unwrap_or o 0) (c.copied.ensures ∙ c.get.ensures.value)
    ∙ sym (number_looked_up c.self.inside.numbers.entries c.args.name.now))
