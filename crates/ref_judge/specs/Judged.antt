-- The value of a judge, as plain data, and the states of a collector that it stands for (this project's).
use Rattle.std.specs.Prelude.{◌≡◌, ℕ, Bool, true, false, not, ◌==◌, ◌||◌, ◌&&◌, List, [], ◌∷◌, length, map, drop}
use Rattle.std.specs.Prelude.{slice_index_or, slice_set, replicate, nat_lt, Option, Some, None}
use Rattle.std.specs.List.{list_all, AllByRecursion}
use Rattle.ref_base.specs.Members.{has, rest_of}
use Rattle.ref_base.specs.Graphs.{is_there}
use Rattle.ref_base.specs.Heaps.{Heap}
use Rattle.ref_base.specs.QueueLists.{Lists, enqueued}
use Rattle.ref_base.specs.Worlds.{Notice, Pending, object_of}
use Rattle.ref_base.specs.Refusals.{is_in, unless, fits}
use Rattle.ref_base.specs.declared.config.Config.{Config}
use Rattle.ref_base.specs.declared.actor.Actor.{Actor}
use Rattle.ref_base.specs.declared.actor.Actor.TheVariants.{Mutator, Worker}
use Rattle.ref_base.specs.declared.fault.Fault.{Fault}
use Rattle.ref_base.specs.declared.fault.Fault.TheVariants.{NoSuchActor, HandFull, HandEmpty, BadConfig, BadQueue}
use Rattle.ref_base.specs.declared.phase.Phase.{Phase}
use Rattle.ref_base.specs.declared.phase.Phase.TheVariants.{Idle, Marking, Clearing, Sweeping}
use Rattle.ref_base.specs.declared.plain_step.PlainStep.{PlainStep}
use Rattle.ref_base.specs.declared.plain_step.PlainStep.TheVariants as plain
use Rattle.ref_base.specs.declared.step.Step.{Step}
use Rattle.ref_base.specs.declared.step.Step.TheVariants as steps
use Rattle.ref_base.specs.declared.policy.Policy.{Policy}
use Rattle.ref_base.specs.KeptPaths.{first_policy}
use Rattle.ref_space.specs.Worklists.{Worklist, empty_worklist}
use Rattle.ref_space.specs.Tables.{Tag}
use Rattle.ref_objects.specs.Grounds.{Ground, cleared_in_at, link_at}
use Rattle.ref_judge.specs.declared.hand.Hand.{Hand}
use Rattle.ref_judge.specs.declared.profile.Profile.{Profile}
use Rattle.ref_judge.specs.declared.worker.Found.{Found}

-- what stands in a queue, first first, by number; how many were ever put in; and whether it is closed
pub record Line : Type 0 where
  pub stands : List ℕ
  pub put : ℕ
  pub closed : Bool

-- what is known of a worker: the references that it scanned in this cycle, how many of these it has looked at or passed
-- since the mark's end, and its pending references
pub record Finder : Type 0 where
  pub found : List Found
  pub at : ℕ
  pub pending : List Pending

-- what mutators and workers carry, each in the order of their numbers
pub record AllHands : Type 0 where
  pub mutators : List Hand
  pub workers : List Hand

-- A judge: the objects, where those are marked in a mark that may be kept; how many holds are out; what actors carry;
-- queues and workers; the cycle; and what is said of what is free.
pub record Judged : Type 0 where
  pub config : Config
  pub profile : Profile
  pub ground : Ground
  pub holds : ℕ
  pub hands : AllHands
  pub lines : List Line
  pub workers : List Finder
  pub phase : Phase
  pub cycle : ℕ
  pub policy : Policy
  pub born : ℕ
  pub scanned : ℕ
  pub may_be_left : Bool
  pub may_be_none : Bool
  pub some_left : Bool
  pub was_chosen : Bool
  pub grey : Worklist
  pub doomed : Worklist

-- ---- hands

-- all are empty at first
abbrev pub no_hand : Hand
no_hand = record { queue = 0; objects = [] }

abbrev pub no_hands : Config → AllHands
no_hands config = record { mutators = replicate config.mutators no_hand; workers = replicate config.workers no_hand }

abbrev pub has_carrier : AllHands → Actor → Bool
has_carrier hands (Mutator m) = nat_lt m (length hands.mutators)
has_carrier hands (Worker k) = nat_lt k (length hands.workers)

abbrev pub hand_at : AllHands → Actor → Hand
hand_at hands (Mutator m) = slice_index_or hands.mutators m no_hand
hand_at hands (Worker k) = slice_index_or hands.workers k no_hand

abbrev pub with_hand_at : AllHands → Actor → Hand → AllHands
with_hand_at hands (Mutator m) hand = record hands { mutators = slice_set hands.mutators m hand }
with_hand_at hands (Worker k) hand = record hands { workers = slice_set hands.workers k hand }

-- the hand without its first notice
abbrev pub with_rest_at : AllHands → Actor → AllHands
with_rest_at hands who =
    with_hand_at hands who (record (hand_at hands who) { objects = rest_of (hand_at hands who).objects })

-- HandFull where it carries something, and HandEmpty where it carries nothing
abbrev pub unless_carried : List ℕ → Option Fault → Option Fault
unless_carried [] later = later
unless_carried (n ∷ ns) later = Some HandFull

abbrev pub unless_nothing : List ℕ → Option Fault
unless_nothing [] = Some HandEmpty
unless_nothing (n ∷ ns) = None

-- of a step that fills a hand: NoSuchActor, then HandFull
abbrev pub free_hand_refusal : AllHands → Actor → Option Fault
free_hand_refusal hands who =
    unless (has_carrier hands who) NoSuchActor (unless_carried (hand_at hands who).objects None)

-- of one that asks for so many: NoSuchActor, then BadConfig
abbrev pub fitting_refusal : AllHands → Actor → ℕ → Option Fault
fitting_refusal hands who max =
    unless (has_carrier hands who) NoSuchActor
    (unless (fits max (length (hand_at hands who).objects)) BadConfig None)

-- of one that takes the first: NoSuchActor, then HandEmpty
abbrev pub first_notice_refusal : AllHands → Actor → Option Fault
first_notice_refusal hands who = unless (has_carrier hands who) NoSuchActor (unless_nothing (hand_at hands who).objects)

-- a new queue
abbrev pub no_line : Line
no_line = record { stands = []; put = 0; closed = false }

-- how many notices were put into the queue that those in the actor's hand are for
abbrev pub put_for : Judged → Actor → ℕ
put_for j who = (slice_index_or j.lines (hand_at j.hands who).queue no_line).put

-- of a mutator that names a queue: NoSuchActor, then BadQueue
abbrev pub naming_refusal : Config → ℕ → ℕ → Option Fault
naming_refusal config m q =
    unless (nat_lt m config.mutators) NoSuchActor (unless (nat_lt q config.queues) BadQueue None)

-- of a poll of so many: then BadConfig, then HandFull
abbrev pub polling_refusal : Judged → ℕ → ℕ → ℕ → Option Fault
polling_refusal j m q max =
    unless (nat_lt m j.config.mutators) NoSuchActor
    (unless (nat_lt q j.config.queues) BadQueue
    (unless (fits max (length (hand_at j.hands (Mutator m)).objects)) BadConfig
    (unless_carried (hand_at j.hands (Mutator m)).objects None)))

-- ---- what is read

abbrev pub no_finder : Finder
no_finder = record { found = []; at = 0; pending = [] }

abbrev pub finder_at : Judged → ℕ → Finder
finder_at j k = slice_index_or j.workers k no_finder

-- the references that the worker scanned
abbrev pub found_by : Judged → ℕ → List ℕ
found_by j k = map (λ f. f.object) (finder_at j k).found

-- and those that it may look at still
abbrev pub still_left : Judged → ℕ → List ℕ
still_left j k = drop (finder_at j k).at (found_by j k)

-- whether object n is left to scan: it is there, may be kept, was made before the cycle began, and wasn't scanned in it
abbrev pub is_left_in : Judged → ℕ → Bool
is_left_in j n =
    (is_there j.ground.heap.objects n && (j.profile.keeps_more || has j.ground.marked n))
    && (nat_lt n j.born && not (cleared_in_at j.ground.tags n == j.cycle))

-- whether a mark has ended, and its sweep hasn't
abbrev pub is_behind_mark : Phase → Bool
is_behind_mark phase = is_in phase Clearing || is_in phase Sweeping

-- whether a mark has begun, and clearing hasn't ended
abbrev pub is_judging : Phase → Bool
is_judging phase = is_in phase Marking || is_in phase Clearing

-- whether a cycle has begun, and hasn't ended
abbrev pub is_going : Phase → Bool
is_going phase = is_in phase Marking || is_behind_mark phase

-- whether the object was ever put in, by its tag
abbrev pub is_put : List Tag → ℕ → Bool
is_put ts n = not (link_at ts n == 0)

-- ---- the parts of a state

-- the heap without its holds
abbrev pub unheld : Heap → Heap
unheld h = record h { holds = [] }

-- the hand is this, but for why there are its notices
abbrev pub IsHand : Hand → List Notice → Type 0
IsHand hand notices =
    (map object_of notices ≡ hand.objects) × (list_all (λ (x : Notice). x.queue == hand.queue) notices ≡ true)

abbrev pub AreHands : List Hand → List (List Notice) → Type 0
AreHands [] [] = Unit {0}
AreHands [] (notices ∷ rest) = ⊥
AreHands (hand ∷ hands) [] = ⊥
AreHands (hand ∷ hands) (notices ∷ rest) = IsHand hand notices × AreHands hands rest

-- the queue is this, but for why there are its notices, and for what was taken
pub record IsLine (line : Line) (q : Lists Notice) : Type 0 where
  pub stands : map object_of q.stands ≡ line.stands
  pub put : length (enqueued object_of q) ≡ line.put
  pub closed : q.closed ≡ line.closed

abbrev pub AreLines : List Line → List (Lists Notice) → Type 0
AreLines [] [] = Unit {0}
AreLines [] (q ∷ qs) = ⊥
AreLines (line ∷ lines) [] = ⊥
AreLines (line ∷ lines) (q ∷ qs) = IsLine line q × AreLines lines qs

-- each says rightly whether the mark's end cleared it
abbrev pub AreToldCleared : List ℕ → List Found → Type 0
AreToldCleared clears found = AllByRecursion (λ (f : Found). f.is_cleared ≡ has clears f.object) found

-- ---- steps

-- whether a step that hands nothing over has one answer in each state, and else a collector chooses it
abbrev pub has_one_answer : PlainStep → Bool
has_one_answer (plain.Scan k) = false
has_one_answer plain.EndMark = false
has_one_answer (plain.ClearNext k) = false
has_one_answer plain.EndClear = false
has_one_answer plain.Select = false
has_one_answer (plain.MoveNext k) = false
has_one_answer plain.EndMove = false
has_one_answer step = true

-- and any step
abbrev pub has_one : Step → Bool
has_one (steps.Plain step) = has_one_answer step
has_one (steps.Put who) = false
has_one (steps.Puts who) = false
has_one (steps.Poll m q) = false
has_one (steps.Polls m q max) = false
has_one step = true

-- whether a judge may ask for memory as it takes a row of this step: for a reference that a worker found, for one that
-- it cleared, for a notice that is put in
abbrev pub wants_memory : Step → Bool
wants_memory (steps.Plain (plain.Scan k)) = true
wants_memory (steps.Plain (plain.ClearNext k)) = true
wants_memory (steps.Put who) = true
wants_memory (steps.Puts who) = true
wants_memory step = false

-- ---- at first

-- a judge that was told no row, over objects that were just made
abbrev pub first_judged : Profile → Config → Ground → Judged
first_judged profile config ground = record {
  config = config;
  profile = profile;
  ground = ground;
  holds = 0;
  hands = no_hands config;
  lines = replicate config.queues no_line;
  workers = replicate config.workers no_finder;
  phase = Idle;
  cycle = 0;
  policy = first_policy config;
  born = 1;
  scanned = 0;
  may_be_left = false;
  may_be_none = true;
  some_left = false;
  was_chosen = false;
  grey = empty_worklist config.cells;
  doomed = empty_worklist config.cells;
}
