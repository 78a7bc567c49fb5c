-- The exit statuses of the program (this project's profile).
use Rattle.std.specs.Prelude.{ℕ}
use Rattle.ref_text.specs.declared.fault.TextFault.{TextFault}
use Rattle.ref_text.specs.declared.fault.TextFault.TheVariants.{Line, TooLong, CannotRead, CannotWrite, NoMemory}

abbrev pub exit_status_of : TextFault → ℕ
exit_status_of (Line k fault) = 3
exit_status_of TooLong = 3
exit_status_of CannotRead = 3
exit_status_of CannotWrite = 3
exit_status_of NoMemory = 5
