-- The rows of a processor with its finders: each is a call that was not refused, with its answer.
use Rattle.std.specs.Prelude.{◌≡◌, ℕ, ◌+◌, ◌<◌, Bool, true, is_some, List, length, slice_index_or, slice_set}
use Rattle.std.specs.Prelude.{Option, Some, None}
use Rattle.ref_base.specs.Runs.{LeadsThrough}
use Rattle.ref_base.specs.declared.strength.Strength.{Strength}
use Rattle.ref_base.specs.declared.urgency.Urgency.{Urgency}
use Rattle.ref_process.specs.Desks.{Desk, FinderLists, new_lists, add_refusal, cycle_refusal, found_refusal}
use Rattle.ref_process.specs.Desks.{key_refusal}
use Rattle.ref_process.specs.Desks.{mark_end_refusal, taking_refusal, look_refusal, clear_end_refusal, death_refusal}
use Rattle.ref_process.specs.Desks.{finding_of, after_finding, lists_finding, made_reference, making, after_add}
use Rattle.ref_process.specs.Desks.{after_begin, after_mark, after_taking, lists_taking, after_clearing, after_death}
use Rattle.ref_process.specs.Looks.{got_of, after_get, after_clear, look_first, after_look, lists_look}
use Rattle.ref_process.specs.Notices.{enqueued_of, after_enqueue, handed_first, after_hand, lists_hand, after_spend}
use Rattle.ref_process.specs.Places.{reference_under, is_new_key}
use Rattle.ref_process.specs.Relocations.{relocation_refusal, after_relocation}
use Rattle.ref_process.specs.declared.found.Found.{Found}
use Rattle.ref_process.specs.declared.handed.Handed.{Handed}
use Rattle.ref_process.specs.declared.key.Key.{Key}
use Rattle.ref_process.specs.declared.looked.Looked.{Looked}
use Rattle.ref_process.specs.declared.looked.Looked.TheVariants.{Cleared, Kept, Skipped}
use Rattle.ref_process.specs.declared.notice.Notice.{Notice}
use Rattle.ref_process.specs.declared.place.Reference.{Reference}

-- a processor and the finders that are used with it
pub record Crew : Type 0 where
  pub desk : Desk
  pub finders : List FinderLists

abbrev pub lists_at : Crew → ℕ → FinderLists
lists_at c i = slice_index_or c.finders i (new_lists 0)

-- a call with its answer: of a finder by its place in the list, of a reference by its key
pub data DeskRow : Type 0 where
  -- the key, the owner, the strength, the referent, the queue, and what becomes of it in a mark
  Adds : Key → Option ℕ → Strength → ℕ → Option ℕ → Found → DeskRow
  -- the clock, the urgency, the cycle's number
  Begins : ℕ → Urgency → ℕ → DeskRow
  Finds : ℕ → Key → Found → DeskRow
  EndsMarking : DeskRow
  TakesMade : ℕ → DeskRow
  -- what was looked at, and the queue that it has
  Looks : ℕ → Looked → Option ℕ → DeskRow
  EndsClearing : DeskRow
  Gets : Key → Option ℕ → DeskRow
  Clears : Key → DeskRow
  Enqueues : Key → Option Notice → DeskRow
  Hands : ℕ → Handed → DeskRow
  Spends : Key → DeskRow
  Buries : Key → DeskRow
  -- where the object of each handle is now
  Relocates : (ℕ → ℕ) → DeskRow

abbrev pub queue_under : Option Reference → Option ℕ
queue_under None = None
queue_under (Some r) = r.queue

abbrev pub looked_key : Looked → Key
looked_key (Cleared k) = k
looked_key (Kept k) = k
looked_key (Skipped k) = k

abbrev pub at_desk : Crew → Key → Option Reference
at_desk c k = reference_under c.desk.places k

-- the processor is now so, and so is this finder
abbrev pub with_desk : Crew → Desk → Crew
with_desk c d = record c { desk = d }

abbrev pub with_finder : Crew → Desk → ℕ → FinderLists → Crew
with_finder c d i f = record { desk = d; finders = slice_set c.finders i f }

-- the test says what the marker answers
module _ (marked : ℕ → Bool) where
  -- the call is not refused, and this is its answer
  abbrev pub IsAnswered : Crew → DeskRow → Type 0
  IsAnswered c (Adds k owner strength referent queue x) =
      (add_refusal c.desk ≡ None) × (is_new_key c.desk.places k ≡ true)
      × (x ≡ making c.desk (made_reference c.desk owner strength referent queue))
  IsAnswered c (Begins now _ n) = (cycle_refusal c.desk now ≡ None) × (n ≡ c.desk.cycle + 1)
  IsAnswered c (Finds i k x) =
      (i < length c.finders) × (found_refusal c.desk k ≡ None) × (x ≡ finding_of c.desk.policy (at_desk c k))
  IsAnswered c EndsMarking = mark_end_refusal c.desk ≡ None
  IsAnswered c (TakesMade i) = (i < length c.finders) × (taking_refusal c.desk ≡ None)
  IsAnswered c (Looks i l q) =
      (i < length c.finders) × (look_refusal c.desk ≡ None)
      × (look_first marked c.desk.places (lists_at c i).found ≡ Some l) × (q ≡ queue_under (at_desk c (looked_key l)))
  IsAnswered c EndsClearing = clear_end_refusal c.desk ≡ None
  IsAnswered c (Gets k got) = (key_refusal c.desk k ≡ None) × (got ≡ got_of marked c.desk (at_desk c k))
  IsAnswered c (Clears k) = key_refusal c.desk k ≡ None
  IsAnswered c (Enqueues k x) = (key_refusal c.desk k ≡ None) × (x ≡ enqueued_of k (at_desk c k))
  IsAnswered c (Hands i x) =
      (i < length c.finders) × (x ≡ handed_first c.desk.places (lists_at c i).worker (lists_at c i).pending)
  IsAnswered c (Spends k) = is_some (at_desk c k) ≡ true
  IsAnswered c (Buries k) = death_refusal c.desk k ≡ None
  IsAnswered c (Relocates to) = relocation_refusal c.desk ≡ None

  -- what the call leaves
  abbrev pub after_row : Crew → DeskRow → Crew
  after_row c (Adds k owner strength referent queue x) =
      with_desk c (after_add c.desk k (made_reference c.desk owner strength referent queue) x)
  after_row c (Begins now urgency n) = with_desk c (after_begin c.desk now urgency)
  after_row c (Finds i k x) = with_finder c (after_finding c.desk x) i (lists_finding (lists_at c i) k x)
  after_row c EndsMarking = with_desk c (after_mark c.desk)
  after_row c (TakesMade i) = with_finder c (after_taking c.desk) i (lists_taking (lists_at c i) c.desk)
  after_row c (Looks i l q) =
      with_finder c (after_look marked c.desk (lists_at c i).found) i
      (lists_look marked c.desk (lists_at c i) (lists_at c i).found)
  after_row c EndsClearing = with_desk c (after_clearing c.desk)
  after_row c (Gets k got) = with_desk c (after_get marked c.desk k (at_desk c k))
  after_row c (Clears k) = with_desk c (after_clear marked c.desk k (at_desk c k))
  after_row c (Enqueues k x) = with_desk c (after_enqueue marked c.desk k (at_desk c k))
  after_row c (Hands i x) =
      with_finder c (after_hand c.desk (lists_at c i).pending) i (lists_hand (lists_at c i) (lists_at c i).pending)
  after_row c (Spends k) = with_desk c (after_spend c.desk k (at_desk c k))
  after_row c (Buries k) = with_desk c (after_death c.desk k)
  after_row c (Relocates to) = with_desk c (after_relocation to c.desk)

  -- the row leads from the one to the other
  abbrev pub IsRowBy : Crew → DeskRow → Crew → Type 0
  IsRowBy c row e = IsAnswered c row × (e ≡ after_row c row)

  -- the rows do, and the marker answers one thing all along
  abbrev pub IsRunBy : Crew → List DeskRow → Crew → Type 0
  IsRunBy = LeadsThrough IsRowBy

-- the row leads from the one to the other, whatever the marker answers
abbrev pub IsDeskRow : Crew → DeskRow → Crew → Type 0
IsDeskRow c row e = (marked : ℕ → Bool) × IsRowBy marked c row e

-- the rows do; at each the marker may answer what it likes
abbrev pub IsDeskRun : Crew → List DeskRow → Crew → Type 0
IsDeskRun = LeadsThrough IsDeskRow
