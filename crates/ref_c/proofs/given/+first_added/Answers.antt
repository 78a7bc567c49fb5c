use Rattle.ref_c.proofs.GivenLemmas.{first-behind}
use Rattle.ref_c.proofs.given.+first_added.Goals as goal

pub returns-else-kind-eq73 : goal.returns-else-kind-eq73
returns-else-kind-eq73 t c =
    let a = c.args in
    first-behind a.list.now a.before c.first_added.result c.in-len2-up.len_at_least c.if-kind-eq73.false
    c.first_added.ensures
