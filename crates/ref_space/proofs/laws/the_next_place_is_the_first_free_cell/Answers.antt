use Rattle.ref_space.proofs.NextPlaces.{is_next_place}
use Rattle.ref_space.proofs.laws.the_next_place_is_the_first_free_cell.Goals as goal

pub returns : goal.returns
returns c = is_next_place
