-- What a read that gave nothing says.
use Rattle.std.specs.Prelude.{Bool, true, false, Result, Ok, Err}
use Rattle.ref_text.specs.declared.fault.TextFault.{TextFault}
use Rattle.ref_text.specs.declared.fault.TextFault.TheVariants as texts
use Rattle.ref_text.specs.declared.source.ReadError.{ReadError}
use Rattle.ref_text.specs.declared.source.ReadError.TheVariants.{Failed, NoMemory}

-- want of memory is no failure of the read
abbrev pub is_failed_read : {T : Type 0} → Result T ReadError → Bool
is_failed_read (Ok _) = false
is_failed_read (Err Failed) = true
is_failed_read (Err NoMemory) = false

-- the fault of a text of which a read gave nothing
abbrev pub fault_of_read : ReadError → TextFault
fault_of_read Failed = texts.CannotRead
fault_of_read NoMemory = texts.NoMemory
