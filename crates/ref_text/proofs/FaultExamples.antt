-- The faults of texts that couldn't be read.
use Rattle.std.proofs.Common.{◌≡◌, refl}
use Rattle.ref_text.specs.Reads.{fault_of_read}
use Rattle.ref_text.specs.declared.fault.TextFault.TheVariants.{CannotRead}
use Rattle.ref_text.specs.declared.source.ReadError.TheVariants.{Failed}

-- promise: TextFault::from: a failed read is told as CannotRead, and not as a failed write
a_failed_read_is_no_failed_write : fault_of_read Failed ≡ CannotRead
a_failed_read_is_no_failed_write = refl
