-- What a thread takes with it may cross.
use denote.Ref.{NamedLft}
use denote.Param.Send.{IsSend}
use Rattle.ref_share.proofs.Crossing.{crossing}
use Rattle.temporary_files.specs.contracts.Hand.{the_row as hand_row}

pub hand_send : (κ : NamedLft) → IsSend (hand_row κ)
hand_send κ = search crossing depth 60 fits 20000
