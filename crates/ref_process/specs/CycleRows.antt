-- What the rows of a cycle change of what references read as, and what they clear.
use Rattle.std.specs.Prelude.{◌≡◌, ℕ, Bool, true, false, ◌||◌, ◌&&◌, ◌==◌, List, [], ◌∷◌, map, Option, Some, None}
use Rattle.ref_base.specs.Graphs.{Graph}
use Rattle.ref_base.specs.KeptPaths.{IsKept}
use Rattle.ref_base.specs.declared.cause.Cause.{Cause}
use Rattle.ref_base.specs.declared.cause.Cause.TheVariants.{Own, Cycle}
use Rattle.ref_base.specs.declared.policy.Policy.{Policy}
use Rattle.ref_process.specs.DeskRows.{Crew, DeskRow, Adds, Begins, Finds, EndsMarking, TakesMade, Looks, EndsClearing}
use Rattle.ref_process.specs.DeskRows.{Gets, Clears, Enqueues, Hands, Spends, Buries, Relocates, at_desk}
use Rattle.ref_process.specs.Desks.{FinderLists, new_desk, new_lists}
use Rattle.ref_process.specs.RowTallies.{same_key}
use Rattle.ref_process.specs.declared.handed.Handed.{Handed}
use Rattle.ref_process.specs.declared.handed.Handed.TheVariants as handed
use Rattle.ref_process.specs.declared.key.Key.{Key}
use Rattle.ref_process.specs.declared.looked.Looked.{Looked}
use Rattle.ref_process.specs.declared.looked.Looked.TheVariants.{Cleared, Kept, Skipped}
use Rattle.ref_process.specs.declared.place.Reference.{Reference}

-- a processor with this span that nothing was asked of, and a finder for each of these workers
abbrev pub new_crew : ℕ → List ℕ → Crew
new_crew span workers = record { desk = new_desk span; finders = map new_lists workers }

-- the rows that may change what the key's reference reads as: ends of marks and of clearings, moves, and its own
abbrev pub may_change : Key → DeskRow → Bool
may_change k (Adds j owner strength referent queue x) = same_key k j
may_change k (Begins _ _ n) = false
may_change k (Finds i j x) = false
may_change k EndsMarking = true
may_change k (TakesMade i) = false
may_change k (Looks i l q) = false
may_change k EndsClearing = true
may_change k (Gets j got) = false
may_change k (Clears j) = same_key k j
may_change k (Enqueues j x) = same_key k j
may_change k (Hands i x) = false
may_change k (Spends j) = false
may_change k (Buries j) = same_key k j
may_change k (Relocates to) = true

abbrev pub is_clear_of : Key → Looked → Bool
is_clear_of k (Cleared j) = same_key k j
is_clear_of k (Kept j) = false
is_clear_of k (Skipped j) = false

abbrev pub clears_key : Key → DeskRow → Bool
clears_key k (Looks i l q) = is_clear_of k l
clears_key k row = false

-- whether a look cleared the key's reference
abbrev pub was_cleared_by : Key → List DeskRow → Bool
was_cleared_by k [] = false
was_cleared_by k (row ∷ rest) = clears_key k row || was_cleared_by k rest

-- whether the key is among these
abbrev pub has_key : List Key → Key → Bool
has_key [] k = false
has_key (j ∷ js) k = same_key k j || has_key js k

abbrev pub any_lists : List FinderLists → Key → Bool
any_lists [] k = false
any_lists (f ∷ fs) k = has_key f.found k || any_lists fs k

-- whether the key is to be looked at: a finder lists it, or it was made in the mark and none has it yet
abbrev pub is_listed : Crew → Key → Bool
is_listed c k = has_key c.desk.made k || any_lists c.finders k

-- each reference to what isn't marked is to be looked at
abbrev pub AreReported : (ℕ → Bool) → Crew → Type 0
AreReported marked c =
    (k : Key) (r : Reference) (h : ℕ) → at_desk c k ≡ Some r → r.referent ≡ Some h → marked h ≡ false
    → is_listed c k ≡ true

-- what a row makes refers to what is marked
abbrev pub makes_marked : (ℕ → Bool) → DeskRow → Bool
makes_marked marked (Adds k owner strength referent queue x) = marked referent
makes_marked marked row = true

abbrev pub make_marked : (ℕ → Bool) → List DeskRow → Bool
make_marked marked [] = true
make_marked marked (row ∷ rest) = makes_marked marked row && make_marked marked rest

-- the reference has a referent, which isn't marked
abbrev pub RefersUnmarked : (ℕ → Bool) → Option Reference → Type 0
RefersUnmarked marked None = ⊥
RefersUnmarked marked (Some r) = (h : ℕ) × (r.referent ≡ Some h) × (marked h ≡ false)

-- the reference has a referent, to which no kept path leads
abbrev pub IsOfTheDead : Policy → Graph → Option Reference → Type 0
IsOfTheDead p g None = ⊥
IsOfTheDead p g (Some r) = (h : ℕ) × (r.referent ≡ Some h) × ¬ (IsKept p g h)

-- ---- notices of a cycle

abbrev pub is_of_cycle : ℕ → Cause → Bool
is_of_cycle n Own = false
is_of_cycle n (Cycle m w) = m == n

abbrev pub is_notice_of : ℕ → Key → Handed → Bool
is_notice_of n k (handed.Notice x) = same_key k x.key && is_of_cycle n x.cause
is_notice_of n k (handed.Already j) = false
is_notice_of n k handed.Nothing = false

abbrev pub hands_notice : ℕ → Key → DeskRow → Bool
hands_notice n k (Hands i x) = is_notice_of n k x
hands_notice n k row = false

-- whether a notice of the key was handed on that names this cycle
abbrev pub was_noticed : ℕ → Key → List DeskRow → Bool
was_noticed n k [] = false
was_noticed n k (row ∷ rest) = hands_notice n k row || was_noticed n k rest
