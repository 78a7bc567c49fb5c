use Rattle.ref_script.proofs.Common.{arith, sym, ◌∙◌}
use Rattle.ref_script.proofs.Cuts.{word_cut}
use Rattle.ref_script.proofs.lines.next_word.Goals as goal

pub returns : goal.returns
returns c =
    sym c.behind_spaces-behind.ensures.same
    ∙ word_cut c.behind_spaces-behind.result.now _ _ _ (grind arith) c.length_before.ensures.length
    c.split_at.ensures.front c.split_at.ensures.back
