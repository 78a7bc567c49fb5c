-- What callers do about the faults of shared heaps and queues, and what is left in what ends (this project's profile).
use Rattle.std.specs.Prelude.{ℕ, length, Option, Some, None, Result, Ok, Err}
use Rattle.ref_queue.specs.CleanTables.{Registry, job_of}
use Rattle.ref_base.specs.declared.fault.Fault.{Fault}
use Rattle.ref_base.specs.declared.fault.Fault.TheVariants.{TurnsSpent}
use Rattle.ref_share.specs.QueueStates.{NoticeLists}
use Rattle.ref_share.specs.declared.answers.ShareFault.{ShareFault}
use Rattle.ref_share.specs.declared.answers.ShareFault.TheVariants.{Refused, Busy, Notice, Held}

-- the fault, once what came back was given up
abbrev pub fault_of : ShareFault → Fault
fault_of Busy = TurnsSpent
fault_of (Refused fault) = fault
fault_of (Notice notice fault) = fault
fault_of (Held hold fault) = fault

-- nothing where another turn was open, and else that
abbrev pub given_up : ShareFault → Result (Unit {0}) Fault
given_up Busy = Ok tt
given_up fault = Err (fault_of fault)

-- what a shared value was ended with: as it was, or as a turn had left it, if at all
abbrev pub found : {T : Type 0} → Result T (Option T) → Option T
found (Ok left) = Some left
found (Err left) = left

-- how many notices stand in what a queue was ended with
abbrev pub count_standing : Option NoticeLists → ℕ
count_standing None = 0
count_standing (Some q) = length q.stands

-- the job of this object in what a cleaner was ended with, with what goes with it
abbrev pub job_left_in : {K J : Type 0} → Option (Registry K J) → ℕ → Option (K × J)
job_left_in None n = None
job_left_in (Some t) n = job_of t n
