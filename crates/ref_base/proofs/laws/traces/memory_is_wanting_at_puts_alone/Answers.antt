use Rattle.ref_base.proofs.WantedMemory.{wanted_at_puts, wanted_at_last}
use Rattle.ref_base.proofs.laws.traces.memory_is_wanting_at_puts_alone.Goals as goal

pub returns-clause-one : goal.returns-clause-one
returns-clause-one c = wanted_at_puts

pub returns-clause-all : goal.returns-clause-all
returns-clause-all c = λ a who outs b row. wanted_at_last a who outs _ b row
