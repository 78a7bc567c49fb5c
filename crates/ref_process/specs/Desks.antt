-- What contracts see of a processor and of a worker's finder, and what making and finding references does.
use Rattle.std.specs.Prelude.{◌≡◌, ℕ, ◌+◌, Bool, true, false, not, ◌&&◌, ◌||◌, if◌then◌else◌, nat_lt, nat_le, nat_eq}
use Rattle.std.specs.Prelude.{is_some, List, [], ◌∷◌, ◌++◌, length, Option, Some, None, ◌^◌}
use Rattle.ref_base.specs.Graphs.{Reference as Seen}
use Rattle.ref_base.specs.KeptPaths.{is_kept}
use Rattle.ref_base.specs.Paths.{is_soft, if_any}
use Rattle.ref_base.specs.declared.policy.Policy.{Policy}
use Rattle.ref_base.specs.declared.strength.Strength.{Strength}
use Rattle.ref_base.specs.declared.urgency.Urgency.{Urgency}
use Rattle.ref_base.specs.declared.urgency.Urgency.TheVariants.{Normal}
use Rattle.ref_process.specs.Places.{reference_under, with_new, any_vacancy, buried}
use Rattle.ref_process.specs.declared.fault.ProcessFault.{ProcessFault}
use Rattle.ref_process.specs.declared.fault.ProcessFault.TheVariants.{NoSuchReference, WrongPhase, ClockBack}
use Rattle.ref_process.specs.declared.fault.ProcessFault.TheVariants.{ClearingLeft, NumbersSpent, NoMemory, StillOut}
use Rattle.ref_process.specs.declared.finder.Pending.{Pending}
use Rattle.ref_process.specs.declared.found.Found.{Found}
use Rattle.ref_process.specs.declared.found.Found.TheVariants.{Keep, Listed, Nothing}
use Rattle.ref_process.specs.declared.key.Key.{Key}
use Rattle.ref_process.specs.declared.phase.Phase.{Phase}
use Rattle.ref_process.specs.declared.phase.Phase.TheVariants.{Idle, Marking, Clearing}
use Rattle.ref_process.specs.declared.place.Place.{Place}
use Rattle.ref_process.specs.declared.place.Reference.{Reference}

-- A processor: the places of its references, the keys made in this mark that no finder has yet, how many keys finders
-- have that were not looked at, and where it stands.
pub record Desk : Type 0 where
  pub places : List Place
  pub made : List Key
  pub listed : ℕ
  pub phase : Phase
  pub policy : Policy
  pub cycle : ℕ

-- a finder: its worker, the keys that it found and has not looked at, and what it cleared and has not handed on
pub record FinderLists : Type 0 where
  pub worker : ℕ
  pub found : List Key
  pub pending : List Pending

abbrev pub new_desk : ℕ → Desk
new_desk span = record {
  places = [];
  made = [];
  listed = 0;
  phase = Idle;
  policy = record { clock = 0; urgency = Normal; span = span };
  cycle = 0;
}

abbrev pub new_lists : ℕ → FinderLists
new_lists worker = record { worker = worker; found = []; pending = [] }

abbrev pub is_resting : Phase → Bool
is_resting Idle = true
is_resting Marking = false
is_resting Clearing = false

abbrev pub is_marking : Phase → Bool
is_marking Idle = false
is_marking Marking = true
is_marking Clearing = false

abbrev pub is_clearing : Phase → Bool
is_clearing Idle = false
is_clearing Marking = false
is_clearing Clearing = true

-- ---- refusals

-- that fault where the test fails, and else what comes later
abbrev pub unless_met : Bool → ProcessFault → Option ProcessFault → Option ProcessFault
unless_met true fault later = later
unless_met false fault later = Some fault

-- a call was refused so: for its reason, and for want of memory only where there is no other
abbrev pub RefusedFor : Option ProcessFault → ProcessFault → Type 0
RefusedFor None fault = fault ≡ NoMemory
RefusedFor (Some reason) fault = fault ≡ reason

abbrev pub add_refusal : Desk → Option ProcessFault
add_refusal d = unless_met (any_vacancy d.places || nat_lt (length d.places) 4294967295) NumbersSpent None

abbrev pub cycle_refusal : Desk → ℕ → Option ProcessFault
cycle_refusal d now =
    unless_met (is_resting d.phase) WrongPhase
    (unless_met (nat_le d.policy.clock now) ClockBack
    (unless_met (nat_lt d.cycle 18446744073709551615) NumbersSpent None))

abbrev pub found_refusal : Desk → Key → Option ProcessFault
found_refusal d k =
    unless_met (is_marking d.phase) WrongPhase
    (unless_met (is_some (reference_under d.places k)) NoSuchReference
    (unless_met (nat_lt d.listed 18446744073709551615) NumbersSpent None))

abbrev pub mark_end_refusal : Desk → Option ProcessFault
mark_end_refusal d = unless_met (is_marking d.phase) WrongPhase None

abbrev pub taking_refusal : Desk → Option ProcessFault
taking_refusal d = unless_met (nat_lt (d.listed + length d.made) (2 ^ 64)) NumbersSpent None

abbrev pub look_refusal : Desk → Option ProcessFault
look_refusal d = unless_met (is_clearing d.phase) WrongPhase None

abbrev pub clear_end_refusal : Desk → Option ProcessFault
clear_end_refusal d =
    unless_met (is_clearing d.phase) WrongPhase
    (unless_met (nat_eq d.listed 0 && nat_eq (length d.made) 0) ClearingLeft None)

abbrev pub key_refusal : Desk → Key → Option ProcessFault
key_refusal d k = unless_met (is_some (reference_under d.places k)) NoSuchReference None

-- whether it is pending, or its notice is out
abbrev pub is_owed : Option Reference → Bool
is_owed None = false
is_owed (Some r) = r.is_pending || r.is_out

abbrev pub death_refusal : Desk → Key → Option ProcessFault
death_refusal d k =
    unless_met (is_some (reference_under d.places k)) NoSuchReference
    (unless_met (not (is_owed (reference_under d.places k))) StillOut None)

-- ---- making and finding

-- what an object graph has of a reference
abbrev pub seen_reference : Reference → Seen
seen_reference r = record { strength = r.strength; referent = r.referent; stamp = r.stamp; queue = r.queue }

-- what finding a reference answers, by its referent
abbrev pub finding : Policy → Reference → Option ℕ → Found
finding p r None = Nothing
finding p r (Some h) = if is_kept p (seen_reference r) then Keep h else Listed

-- what coming upon a reference answers
abbrev pub finding_of : Policy → Option Reference → Found
finding_of p None = Nothing
finding_of p (Some r) = finding p r r.referent

-- the desk that counts a key which a finder lists, and the finder with it
abbrev pub after_finding : Desk → Found → Desk
after_finding d (Keep h) = d
after_finding d Listed = record d { listed = d.listed + 1 }
after_finding d Nothing = d

abbrev pub lists_finding : FinderLists → Key → Found → FinderLists
lists_finding f k (Keep h) = f
lists_finding f k Listed = record f { found = f.found ++ k ∷ [] }
lists_finding f k Nothing = f

-- the clock, of a soft reference, and else 0
abbrev pub stamp_by : Strength → ℕ → ℕ
stamp_by strength clock = if is_soft strength then clock else 0

abbrev pub made_reference : Desk → Option ℕ → Strength → ℕ → Option ℕ → Reference
made_reference d owner strength referent queue = record {
  owner = owner;
  strength = strength;
  referent = Some referent;
  queue = queue;
  stamp = stamp_by strength d.policy.clock;
  is_told = false;
  is_pending = false;
  is_out = false;
}

-- what is made in a mark counts as found
abbrev pub making : Desk → Reference → Found
making d r = if is_marking d.phase then finding_of d.policy (Some r) else Nothing

abbrev pub with_made_key : Desk → Key → Found → Desk
with_made_key d k (Keep h) = d
with_made_key d k Listed = record d { made = d.made ++ k ∷ [] }
with_made_key d k Nothing = d

abbrev pub after_add : Desk → Key → Reference → Found → Desk
after_add d k r x = with_made_key (record d { places = with_new d.places k r }) k x

-- ---- a cycle's steps

abbrev pub after_begin : Desk → ℕ → Urgency → Desk
after_begin d now urgency = record d {
  phase = Marking;
  policy = record { clock = now; urgency = urgency; span = d.policy.span };
  cycle = d.cycle + 1;
}

abbrev pub after_mark : Desk → Desk
after_mark d = record d { phase = Clearing }

abbrev pub after_taking : Desk → Desk
after_taking d = record d { made = []; listed = d.listed + length d.made }

abbrev pub lists_taking : FinderLists → Desk → FinderLists
lists_taking f d = record f { found = f.found ++ d.made }

abbrev pub after_clearing : Desk → Desk
after_clearing d = record d { phase = Idle }

abbrev pub after_death : Desk → Key → Desk
after_death d k = record d { places = buried d.places k }

-- ---- what is asked of a reference

abbrev pub owner_of : Option Reference → Option ℕ
owner_of None = None
owner_of (Some r) = r.owner

-- the owner, where the reference is pending or its notice is out
abbrev pub owed_owner : Option Reference → List ℕ
owed_owner None = []
owed_owner (Some r) = if r.is_pending || r.is_out then if_any r.owner else []

-- the owners of references that are pending or out, in the order of their places
abbrev pub owed_owners : List Place → List ℕ
owed_owners [] = []
owed_owners (p ∷ ps) = owed_owner p.held ++ owed_owners ps
