-- Which failures a failed read makes.
use Rattle.std.specs.Prelude.{Bool, true, false, Result, Ok, Err}
use Rattle.ref_log.specs.declared.failure.LogFailure.{LogFailure}
use Rattle.ref_log.specs.declared.failure.LogFailure.TheVariants.{Line, CutOff, CannotRead, NoMemory}

abbrev pub is_unread : {T : Type 0} → Result T LogFailure → Bool
is_unread (Ok _) = false
is_unread (Err (Line k fault)) = false
is_unread (Err (CutOff rows line)) = false
is_unread (Err CannotRead) = true
is_unread (Err NoMemory) = false
