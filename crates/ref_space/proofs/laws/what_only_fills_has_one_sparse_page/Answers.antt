use Rattle.ref_space.proofs.RoomLemmas.{filled_fresh, filled_placing}
use Rattle.ref_space.proofs.RelocationLemmas.{one_sparse}
use Rattle.ref_space.proofs.laws.what_only_fills_has_one_sparse_page.Goals as goal

pub returns : goal.returns
returns c = record { none = filled_fresh; placed = filled_placing; sparse = one_sparse }
