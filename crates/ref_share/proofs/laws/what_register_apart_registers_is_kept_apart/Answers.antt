use Rattle.ref_share.proofs.RegisteredSeats.{registered_apart}
use Rattle.ref_share.proofs.laws.what_register_apart_registers_is_kept_apart.Goals as goal

pub returns : goal.returns
returns g c = registered_apart
