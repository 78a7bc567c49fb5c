-- What a step leaves in the caller's tables: the numbers of its answer, and what that lists.
use Rattle.std.specs.Prelude.{ℕ, ◌≡◌, List, ◌++◌}
use Rattle.ref_c.specs.ReplyNumbers.{listed_by, numbers_of}
use Rattle.ref_c.specs.Written.{IsWritten}
use Rattle.ref_c.specs.declared.answer.Answer.{Answer}
use Rattle.ref_c.specs.declared.answer.RefReply.{RefReply}

-- these numbers tell the answer, and what it lists stands behind the places of the list that were used, as far as there
-- is room
abbrev pub TellsAnswer : Answer → RefReply → List ℕ → ℕ → List ℕ → ℕ → Type 0
TellsAnswer answer reply list used list' used' =
    (reply ≡ numbers_of answer) × ((first new : List ℕ) → IsWritten first new list used
    → IsWritten first (new ++ listed_by answer) list' used')
