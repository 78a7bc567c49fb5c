-- Handing on several references that are pending at once, all for one queue.
use Rattle.std.specs.Prelude.{◌≡◌, ℕ, zero, suc, min, Bool, false, ◌==◌, if◌then◌else◌, List, [], ◌∷◌, ◌++◌, length}
use Rattle.std.specs.Prelude.{map, Option, Some, None}
use Rattle.ref_process.specs.DeskRows.{Crew, Hands, IsDeskRun, queue_under, with_finder}
use Rattle.ref_process.specs.Desks.{Desk, FinderLists}
use Rattle.ref_process.specs.NoticeQueues.{AreFor}
use Rattle.ref_process.specs.Notices.{handed_first, after_hand, lists_hand}
use Rattle.ref_process.specs.Places.{reference_under}
use Rattle.ref_process.specs.declared.finder.Pending.{Pending}
use Rattle.ref_process.specs.declared.handed.Handed.{Handed}
use Rattle.ref_process.specs.declared.handed.Handed.TheVariants as handed
use Rattle.ref_process.specs.declared.notice.Notice.{Notice}
use Rattle.ref_process.specs.declared.place.Place.{Place}

-- a processor, a worker's finder, and the notices in a batch
pub record Handing : Type 0 where
  pub desk : Desk
  pub finder : FinderLists
  pub notices : List Notice

abbrev pub handing : Desk → FinderLists → List Notice → Handing
handing d f xs = record { desk = d; finder = f; notices = xs }

-- the queue of the first reference that is pending
abbrev pub next_queue : List Place → List Pending → Option ℕ
next_queue ps [] = None
next_queue ps (x ∷ xs) = queue_under (reference_under ps x.key)

abbrev pub is_of_queue : ℕ → Option ℕ → Bool
is_of_queue q None = false
is_of_queue q (Some n) = n == q

-- the notice, where there is one
abbrev pub if_notice : Handed → List Notice
if_notice (handed.Notice x) = x ∷ []
if_notice (handed.Already k) = []
if_notice handed.Nothing = []

-- what handing on the first that is pending leaves, with its notice behind those in the batch
abbrev pub first_handed : Handing → Handing
first_handed s = record {
  desk = after_hand s.desk s.finder.pending;
  finder = lists_hand s.finder s.finder.pending;
  notices = s.notices ++ if_notice (handed_first s.desk.places s.finder.worker s.finder.pending);
}

-- the first that is pending is handed on, if it is for this queue
abbrev pub hand_next : ℕ → Handing → Handing
hand_next q s = if is_of_queue q (next_queue s.desk.places s.finder.pending) then first_handed s else s

-- as many times as the second number says
abbrev pub hand_each : ℕ → ℕ → Handing → Handing
hand_each q zero s = s
hand_each q (suc n) s = hand_next q (hand_each q n s)

-- what handing on a batch leaves: as many as are pending, at most so many, and as long as they are for this queue
abbrev pub handed_batch : ℕ → ℕ → Desk → FinderLists → List Notice → Handing
handed_batch q most d f xs =
    hand_each q (min most (length f.pending)) (handing d f xs)

-- ---- one by one

-- the notices among these answers, in order
abbrev pub all_notices : List Handed → List Notice
all_notices [] = []
all_notices (x ∷ xs) = if_notice x ++ all_notices xs

-- Some rows of finder i's handing on lead from the crew to what is left. Their notices, each for this queue, are in the
-- batch behind those that were.
abbrev pub AreHandedOn : Crew → ℕ → ℕ → List Notice → Handing → Type 0
AreHandedOn c i q xs s =
    (answers : List Handed) × IsDeskRun c (map (Hands i) answers) (with_finder c s.desk i s.finder)
    × (s.notices ≡ xs ++ all_notices answers) × AreFor q (all_notices answers)
