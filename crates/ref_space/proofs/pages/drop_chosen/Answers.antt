use Rattle.std.proofs.Common.{rules}
use Rattle.std.proofs.lemmas.Fn.{filter_same}
use Rattle.ref_space.specs.Pages.{is_open}
use Rattle.ref_space.proofs.pages.drop_chosen.Goals as goal

pub returns-clause-pages : goal.returns-clause-pages
returns-clause-pages g c =
    filter_same _ is_open _ (λ x b f' k. search rules) c.args.pages.now.items c.retain.new.self.items
    c.retain.ensures.filtered
