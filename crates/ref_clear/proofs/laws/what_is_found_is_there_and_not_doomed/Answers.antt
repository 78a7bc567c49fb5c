use Rattle.ref_clear.proofs.FoundFacts.{found_is_there, found_is_not_doomed}
use Rattle.ref_clear.proofs.laws.what_is_found_is_there_and_not_doomed.Goals as goal

pub returns-clause-there : goal.returns-clause-there
returns-clause-there c = found_is_there

pub returns-clause-lives : goal.returns-clause-lives
returns-clause-lives c = found_is_not_doomed
