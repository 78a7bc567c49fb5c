use Rattle.ref_script.proofs.Cuts.{same_words, word_begins}
use Rattle.ref_script.proofs.lines.behind_spaces.Goals as goal

pub returns-clause-same : goal.returns-clause-same
returns-clause-same c = same_words c.args.line.now _ _ c.length_of_run.ensures.length c.split_at.ensures.back

pub returns-clause-begins : goal.returns-clause-begins
returns-clause-begins c = word_begins c.args.line.now _ _ c.length_of_run.ensures.length c.split_at.ensures.back
