-- What a run told of a reference, and what each finder passed on and cleared.
use Rattle.std.specs.Prelude.{ℕ, ◌+◌, ◌<◌, Bool, ◌&&◌, ◌==◌, if◌then◌else◌, List, [], ◌∷◌, ◌++◌, map}
use Rattle.std.specs.Prelude.{Option, Some, None}
use Rattle.ref_process.specs.DeskRows.{DeskRow, Looks}
use Rattle.ref_process.specs.DeskRows.{Enqueues, Hands}
use Rattle.ref_process.specs.Places.{place_at}
use Rattle.ref_process.specs.declared.finder.Pending.{Pending}
use Rattle.ref_process.specs.declared.handed.Handed.{Handed}
use Rattle.ref_process.specs.declared.handed.Handed.TheVariants as handed
use Rattle.ref_process.specs.declared.key.Key.{Key}
use Rattle.ref_process.specs.declared.looked.Looked.{Looked}
use Rattle.ref_process.specs.declared.looked.Looked.TheVariants.{Cleared, Kept, Skipped}
use Rattle.ref_process.specs.declared.notice.Notice.{Notice}
use Rattle.ref_process.specs.declared.place.Place.{Place}

abbrev pub same_key : Key → Key → Bool
same_key j k = (j.place == k.place) && (j.round == k.round)

-- the key's place is in a later round: its reference is dead
abbrev pub IsBygone : List Place → Key → Type 0
IsBygone ps k = k.round < (place_at ps k.place).round

-- ---- notices

abbrev pub one_of : Key → Option Notice → ℕ
one_of k None = 0
one_of k (Some x) = if same_key k x.key then 1 else 0

abbrev pub one_if_handed : Key → Handed → ℕ
one_if_handed k (handed.Notice x) = one_of k (Some x)
one_if_handed k (handed.Already j) = 0
one_if_handed k handed.Nothing = 0

-- how many notices of the key the row gives
abbrev pub told_by : Key → DeskRow → ℕ
told_by k (Enqueues j x) = one_of k x
told_by k (Hands i x) = one_if_handed k x
told_by k row = 0

-- and how many the rows give
abbrev pub times_told : Key → List DeskRow → ℕ
times_told k [] = 0
times_told k (row ∷ rest) = told_by k row + times_told k rest

-- ---- order

abbrev pub handed_keys : Handed → List Key
handed_keys (handed.Notice x) = x.key ∷ []
handed_keys (handed.Already k) = k ∷ []
handed_keys handed.Nothing = []

abbrev pub passed_by : ℕ → DeskRow → List Key
passed_by i (Hands j x) = if j == i then handed_keys x else []
passed_by i row = []

-- the keys that finder i handed on, or whose notice turned out to have been given
abbrev pub passed_on : ℕ → List DeskRow → List Key
passed_on i [] = []
passed_on i (row ∷ rest) = passed_by i row ++ passed_on i rest

abbrev pub if_queued : Looked → Option ℕ → List Key
if_queued (Cleared k) (Some q) = k ∷ []
if_queued (Cleared k) None = []
if_queued (Kept k) q = []
if_queued (Skipped k) q = []

abbrev pub queued_by : ℕ → DeskRow → List Key
queued_by i (Looks j l q) = if j == i then if_queued l q else []
queued_by i row = []

-- the keys that finder i cleared and that have a queue
abbrev pub queued_clears : ℕ → List DeskRow → List Key
queued_clears i [] = []
queued_clears i (row ∷ rest) = queued_by i row ++ queued_clears i rest

-- the keys that are pending
abbrev pub pending_keys : List Pending → List Key
pending_keys xs = map (λ x. x.key) xs
