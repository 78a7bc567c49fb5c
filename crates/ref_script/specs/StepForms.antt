-- Which steps a script may ask for, and which operands stand behind the name of each (this project's profile).
use Rattle.std.specs.Prelude.{ℕ, if◌then◌else◌, ◌==◌, List, [], ◌∷◌, Option, Some, None, codes}
use Rattle.std.specs.Str.{bytes_eq}

-- what an operand is
pub data Operand : Type 0 where
  Slot : Operand
  Queue : Operand
  QueueOrNone : Operand
  Number : Operand
  Clock : Operand
  UrgencyName : Operand

-- a step's name, and the operands behind it
pub record Form : Type 0 where
  pub name : List ℕ
  pub operands : List Operand

abbrev pub form : List ℕ → List Operand → Form
form name operands = record { name = name; operands = operands }

-- the steps of a mutator: those of jobs, those that make objects, those of slots and fields, those of references, those
-- of queues and notices, and those of several notices at once
abbrev pub mutator_forms : List Form
mutator_forms =
    form (codes "job") (Slot ∷ Number ∷ [])
    ∷ form (codes "run") (Slot ∷ [])
    ∷ form (codes "new") (Slot ∷ Number ∷ [])
    ∷ form (codes "soft") (Slot ∷ Slot ∷ QueueOrNone ∷ Number ∷ [])
    ∷ form (codes "weak") (Slot ∷ Slot ∷ QueueOrNone ∷ Number ∷ [])
    ∷ form (codes "phantom") (Slot ∷ Slot ∷ QueueOrNone ∷ Number ∷ [])
    ∷ form (codes "store") (Slot ∷ Number ∷ Slot ∷ [])
    ∷ form (codes "load") (Slot ∷ Slot ∷ Number ∷ [])
    ∷ form (codes "copy") (Slot ∷ Slot ∷ [])
    ∷ form (codes "drop") (Slot ∷ [])
    ∷ form (codes "get") (Slot ∷ Slot ∷ [])
    ∷ form (codes "clear") (Slot ∷ [])
    ∷ form (codes "refers") (Slot ∷ Slot ∷ [])
    ∷ form (codes "unhook") (Slot ∷ [])
    ∷ form (codes "put") []
    ∷ form (codes "poll") (Queue ∷ [])
    ∷ form (codes "adopt") (Slot ∷ [])
    ∷ form (codes "release") []
    ∷ form (codes "close") (Queue ∷ [])
    ∷ form (codes "puts") []
    ∷ form (codes "polls") (Queue ∷ Number ∷ [])
    ∷ []

-- the steps of a worker
abbrev pub worker_forms : List Form
worker_forms =
    form (codes "scan") []
    ∷ form (codes "clearnext") []
    ∷ form (codes "hand") []
    ∷ form (codes "sweep") []
    ∷ form (codes "move") []
    ∷ form (codes "put") []
    ∷ form (codes "puts") []
    ∷ form (codes "release") []
    ∷ form (codes "hands") (Number ∷ [])
    ∷ []

-- the steps that have no actor: the turns of a cycle, and those of moves
abbrev pub turn_forms : List Form
turn_forms =
    form (codes "begin") (Clock ∷ UrgencyName ∷ [])
    ∷ form (codes "endmark") []
    ∷ form (codes "endclear") []
    ∷ form (codes "endsweep") []
    ∷ form (codes "select") []
    ∷ form (codes "endmove") []
    ∷ []

-- the operands behind a name, if it is the name of one of these steps
abbrev pub operands_in : List Form → List ℕ → Option (List Operand)
operands_in [] name = None
operands_in (f ∷ forms) name = if bytes_eq name f.name then Some f.operands else operands_in forms name

-- the steps of the actors that this letter stands for, `m` or `w`
abbrev pub forms_of_letter : ℕ → List Form
forms_of_letter letter =
    if letter == 109 then mutator_forms else (if letter == 119 then worker_forms else [])
