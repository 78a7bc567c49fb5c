use Rattle.std.proofs.Common.{ap, ◌∙◌, nat_lt}
use Rattle.ref_space.specs.Pages.{chosen_frames}
use Rattle.ref_space.proofs.LeftLemmas.{some_left}
use Rattle.ref_space.proofs.pages.Pages.has_left.Goals as goal

pub returns : goal.returns
returns g c =
    ap (nat_lt c.first_with_left.result) c.chosen_count.ensures
    ∙ some_left c.args.self.now.uses (chosen_frames c.args.self.now.uses) c.first_with_left.result
    c.first_with_left.ensures.within c.first_with_left.ensures.none c.first_with_left.ensures.there
