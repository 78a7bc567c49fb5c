-- What a thread takes with it may cross.
use denote.Ref.{NamedLft}
use denote.Param.Send.{IsSend}
use Rattle.ref_share.proofs.Crossing.{crossing}
use Rattle.thread_examples.specs.contracts.weak_table.Keeper.{the_row as keeper_row}

pub keeper_send : (κ : NamedLft) → IsSend (keeper_row κ)
keeper_send κ = search crossing depth 60 fits 20000
