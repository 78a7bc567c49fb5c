-- What the calls of a graph answer.
use Rattle.std.specs.Prelude.{◌≡◌, ℕ, Bool, true, false, not, ◌<◌, ◌≤◌, length, Result, Ok, Err}
use Rattle.ref_base.specs.Members.{has}
use Rattle.ref_base.specs.Graphs.{Graph, Object, is_there, with_object, with_root}
use Rattle.ref_base.specs.Strengths.{HasStrength}
use Rattle.ref_base.specs.declared.reach.Reach.{Reach}
use Rattle.ref_base.specs.declared.fault.Fault.{Fault}
use Rattle.ref_base.specs.declared.fault.Fault.TheVariants.{BadField, NoSuchObject, NoMemory}

-- when adding an object is refused with this fault: it has more than 8 fields, or else memory is wanted for it
abbrev pub RefusesObject : Graph → Object → Fault → Type 0
RefusesObject g o BadField = 8 < length o.fields
RefusesObject g o NoMemory = (length o.fields ≤ 8) × (is_there g.objects o.no ≡ false)
RefusesObject g o _ = ⊥

-- when adding an object answers so: it was added, or one of its number was there
abbrev pub AnswersObject : Graph → Object → Result Bool Fault → Type 0
AnswersObject g o (Ok added) = (length o.fields ≤ 8) × (added ≡ not (is_there g.objects o.no))
AnswersObject g o (Err fault) = RefusesObject g o fault

-- the graph after that answer
abbrev pub after_object : Graph → Object → Result Bool Fault → Graph
after_object g o (Ok added) = record g { objects = with_object g.objects o }
after_object g o (Err fault) = g

-- when adding a root answers so: it was added, or it was one already, or else memory is wanted for it
abbrev pub AnswersRoot : Graph → ℕ → Result Bool Fault → Type 0
AnswersRoot g n (Ok added) = added ≡ not (has g.roots n)
AnswersRoot g n (Err fault) = (fault ≡ NoMemory) × (has g.roots n ≡ false)

-- the graph after that answer
abbrev pub after_root : Graph → ℕ → Result Bool Fault → Graph
after_root g n (Ok added) = record g { roots = with_root g.roots n }
after_root g n (Err fault) = g

-- when asking for a strength is refused with this fault
abbrev pub RefusesStrength : Graph → ℕ → Fault → Type 0
RefusesStrength g n NoSuchObject = is_there g.objects n ≡ false
RefusesStrength g n NoMemory = is_there g.objects n ≡ true
RefusesStrength g n _ = ⊥

-- when asking how strongly n is reachable answers so
abbrev pub AnswersStrength : Graph → ℕ → Result Reach Fault → Type 0
AnswersStrength g n (Ok reach) = (is_there g.objects n ≡ true) × HasStrength g n reach
AnswersStrength g n (Err fault) = RefusesStrength g n fault
