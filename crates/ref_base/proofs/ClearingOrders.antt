-- What was added, and then what waits, comes in the order in which a worker cleared it; and so it does after a step
-- that moves it on.
use Rattle.ref_base.proofs.Common.{arith, ◌≡◌, ℕ, List, [], ◌∷◌, ◌++◌, Option, Some, None, refl, append_assoc, World}
use Rattle.ref_base.proofs.Common.{first_world, if_registered, clearing_order, Worker, Config, Row, cleared_in}
use Rattle.ref_base.proofs.ClearingShifts.{waiting_in, Shifts}
use Rattle.ref_base.proofs.ProvenTraces.{registered_more}
use Rattle.ref_base.proofs.SoundWorlds.{first_hand, first_pending}
use Rattle.ref_base.proofs.Subsequences.{Sub, sub_through, sub_longer, sub_behind, sub_before}

-- where more is registered, no less is in the order
more_registered : (rows more : List Row) (q : ℕ) (n : Option ℕ)
    → Sub (if_registered rows q n) (if_registered (rows ++ more) q n)
more_registered rows more q None = refl
more_registered rows more q (Some n) = grind (arith, registered_more)

more_cleared : (rows more : List Row) (k q : ℕ) (some : List Row)
    → Sub (cleared_in rows k q some) (cleared_in (rows ++ more) k q some)
more_cleared rows more k q [] = refl
more_cleared rows more k q (row ∷ some) = grind (arith, more_cleared rows more k q some, more_registered rows more q)

cleared-append : (whole : List Row) (k q : ℕ) (rows more : List Row)
    → cleared_in whole k q (rows ++ more) ≡ cleared_in whole k q rows ++ cleared_in whole k q more
cleared-append whole k q [] more = refl
cleared-append whole k q (row ∷ rows) more = search (append_assoc, cleared-append whole k q rows more)

-- what was added, and then what waits, comes in the order of clearing that the rows tell
abbrev pub IsOrdered : ℕ → ℕ → List ℕ → List Row → World → Type 0
IsOrdered k q added rows w = Sub (added ++ waiting_in k q w) (clearing_order rows k q)

moved_on : (added adds waits left cleared grown clears : List ℕ) → Sub (added ++ waits) cleared → Sub cleared grown
    → Sub (adds ++ left) (waits ++ clears) → Sub ((added ++ adds) ++ left) (grown ++ clears)
moved_on added adds waits left cleared grown clears before grows shifts =
    rw append_assoc
    (sub_through (added ++ (adds ++ left)) (added ++ (waits ++ clears)) (grown ++ clears)
    (sub_behind added (adds ++ left) (waits ++ clears) shifts)
    (rw (← append_assoc)
    (sub_before (added ++ waits) grown clears (sub_through (added ++ waits) cleared grown before grows))))

-- after a step that adds these, and of which so many rows tell
pub more_ordered : (k q : ℕ) (added adds : List ℕ) (rows more : List Row) (v w : World) → IsOrdered k q added rows v
    → Shifts k q v w adds (cleared_in (rows ++ more) k q more) → IsOrdered k q (added ++ adds) (rows ++ more) w
more_ordered k q added adds rows more v w ordered shifts =
    rw (cleared-append (rows ++ more) k q rows more)
    (moved_on added adds (waiting_in k q v) (waiting_in k q w) (clearing_order rows k q)
    (cleared_in (rows ++ more) k q rows) (cleared_in (rows ++ more) k q more) ordered
    (more_cleared rows more k q rows) shifts)

-- and so does what was added alone
pub in_order : (k q : ℕ) (added : List ℕ) (rows : List Row) (w : World) → IsOrdered k q added rows w
    → Sub added (clearing_order rows k q)
in_order k q added rows w ordered =
    sub_through added (added ++ waiting_in k q w) (clearing_order rows k q) (sub_longer added (waiting_in k q w))
    ordered

-- at first nothing waits
pub nothing_waits : (config : Config) (k q : ℕ) → IsOrdered k q [] [] (first_world config)
nothing_waits config k q = rw (first_hand config (Worker k), first_pending config k) refl
