use Rattle.ref_judge.proofs.LegalFacts.{legal_facts}
use Rattle.ref_judge.proofs.laws.each_state_has_these_facts.Goals as goal

pub returns : goal.returns
returns c = λ p config rows last run. legal_facts p config last (rows, run)
