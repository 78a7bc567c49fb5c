use Rattle.ref_process.proofs.RenamedRows.{refers_moved, owners_moved, roots_moved}
use Rattle.ref_process.proofs.laws.what_is_asked_is_the_same_by_other_handles.Goals as goal

pub returns-clause-refers : goal.returns-clause-refers
returns-clause-refers c = refers_moved

pub returns-clause-owner : goal.returns-clause-owner
returns-clause-owner c = owners_moved

pub returns-clause-roots : goal.returns-clause-roots
returns-clause-roots c = λ to d. roots_moved to d.desk.places
