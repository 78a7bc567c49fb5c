-- The numbers and the names of the faults (this project's profile).
use Rattle.std.specs.Prelude.{ℕ, List, codes}
use Rattle.ref_base.specs.declared.fault.Fault.{Fault}
use Rattle.ref_base.specs.declared.fault.Fault.TheVariants.{BadConfig, NoSuchObject, NoMemory, NoCell, NumbersSpent}
use Rattle.ref_base.specs.declared.fault.Fault.TheVariants.{EmptySlot, BadField, NotAReference, NoSuchActor, BadQueue}
use Rattle.ref_base.specs.declared.fault.Fault.TheVariants.{ForeignHold, WrongPhase, ClockBack, GreyLeft, ClearingLeft}
use Rattle.ref_base.specs.declared.fault.Fault.TheVariants.{SweepLeft, MovesLeft, NoRoom, AddressesSpent, WrongQueue}
use Rattle.ref_base.specs.declared.fault.Fault.TheVariants.{RegisteredTwice, TableClosed, HandFull, HandEmpty}
use Rattle.ref_base.specs.declared.fault.Fault.TheVariants.{TurnsSpent}

-- the number of a fault, by which a trace tells it
abbrev pub number_of : Fault → ℕ
number_of BadConfig = 1
number_of NoSuchObject = 2
number_of NoMemory = 3
number_of NoCell = 4
number_of NumbersSpent = 5
number_of EmptySlot = 6
number_of BadField = 7
number_of NotAReference = 8
number_of NoSuchActor = 9
number_of BadQueue = 10
number_of ForeignHold = 11
number_of WrongPhase = 12
number_of ClockBack = 13
number_of GreyLeft = 14
number_of ClearingLeft = 15
number_of SweepLeft = 16
number_of MovesLeft = 17
number_of NoRoom = 18
number_of AddressesSpent = 19
number_of WrongQueue = 20
number_of RegisteredTwice = 21
number_of TableClosed = 22
number_of HandFull = 23
number_of HandEmpty = 24
number_of TurnsSpent = 25

-- the name of a fault, as its variant is spelled
abbrev pub name_of : Fault → List ℕ
name_of BadConfig = codes "BadConfig"
name_of NoSuchObject = codes "NoSuchObject"
name_of NoMemory = codes "NoMemory"
name_of NoCell = codes "NoCell"
name_of NumbersSpent = codes "NumbersSpent"
name_of EmptySlot = codes "EmptySlot"
name_of BadField = codes "BadField"
name_of NotAReference = codes "NotAReference"
name_of NoSuchActor = codes "NoSuchActor"
name_of BadQueue = codes "BadQueue"
name_of ForeignHold = codes "ForeignHold"
name_of WrongPhase = codes "WrongPhase"
name_of ClockBack = codes "ClockBack"
name_of GreyLeft = codes "GreyLeft"
name_of ClearingLeft = codes "ClearingLeft"
name_of SweepLeft = codes "SweepLeft"
name_of MovesLeft = codes "MovesLeft"
name_of NoRoom = codes "NoRoom"
name_of AddressesSpent = codes "AddressesSpent"
name_of WrongQueue = codes "WrongQueue"
name_of RegisteredTwice = codes "RegisteredTwice"
name_of TableClosed = codes "TableClosed"
name_of HandFull = codes "HandFull"
name_of HandEmpty = codes "HandEmpty"
name_of TurnsSpent = codes "TurnsSpent"
