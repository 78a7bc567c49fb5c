-- What holds while a text is read.
use Rattle.ref_script.proofs.Common.{◌≡◌, ℕ, ◌<◌, Bool, List, Option}
use Rattle.std.specs.Io.KnownBytes.{Consumes}

-- what was read so far was in front, no read has failed since, and there is room for more
pub record IsReading (old new : Option (List ℕ)) (failed_before failed_now : Bool) (text : List ℕ)
    (size : ℕ) : Type 0 where
  pub bytes : Consumes old new text
  pub failed : failed_now ≡ failed_before
  pub room : 0 < size
