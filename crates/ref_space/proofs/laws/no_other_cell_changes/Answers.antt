use Rattle.ref_space.proofs.NextPlaces.{address-with, frame-with, is_free-with_other, is_free-with_same, length-with}
use Rattle.ref_space.proofs.PageLemmas.{whole_with}
use Rattle.ref_space.proofs.laws.no_other_cell_changes.Goals as goal

pub returns : goal.returns
returns c = search (is_free-with_same, is_free-with_other, length-with, whole_with, address-with, frame-with)
