use Rattle.ref_space.proofs.Common.{rules, is_live}
use Rattle.std.proofs.lemmas.Fn.{filter_same}
use Rattle.ref_space.proofs.index.close_gaps.Goals as goal

pub returns-clause-entries : goal.returns-clause-entries
returns-clause-entries g c =
    filter_same _ (is_live c.args.cells.now) _ (λ x b f' k. search rules) c.args.index.now.items
    c.retain.new.self.items c.retain.ensures.filtered
