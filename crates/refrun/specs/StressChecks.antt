-- What must be so once all threads of a stress run have ended: of what was put into the queue, what was taken, what
-- stands, what each poller took, what each mutator kept to the end, and what became of each job (this project's own).
use Rattle.std.specs.Prelude.{◌≡◌, ◌==◌, ◌&&◌, not, if◌then◌else◌, ℕ, Bool, true, nat_eq, List, [], codes, Option, None}
use Rattle.std.specs.Prelude.{Some}
use Rattle.std.specs.List.{All, IsDistinct, concat}
use Rattle.ref_base.specs.Members.{has}
use Rattle.ref_base.specs.CollectorRows.{is_subsequence}
use Rattle.refrun.specs.declared.lists.Check.{Check}
use Rattle.refrun.specs.declared.lists.Check.TheVariants.{Twice, Order, Total, Rest, Reports, Jobs}
use Rattle.refrun.specs.declared.outcomes.JobFate.{JobFate}

-- each poller took its numbers in the order in which they were put in
abbrev pub TookInOrder : List ℕ → List (List ℕ) → Type 0
TookInOrder enqueued lists = All (λ list. is_subsequence list enqueued ≡ true) lists

-- the pollers' lists together have each number that was taken once, and no other
abbrev pub GivesEachOnce : List ℕ → List (List ℕ) → Type 0
GivesEachOnce taken lists = IsDistinct nat_eq (concat lists) × ((n : ℕ) → has (concat lists) n ≡ has taken n)

-- each number that a mutator kept was put in
abbrev pub PutInAll : List ℕ → List (List ℕ) → Type 0
PutInAll enqueued kept = (n : ℕ) → has (concat kept) n ≡ true → has enqueued n ≡ true

-- a job ran as it was to: once if it was registered and not taken out, and else never; and not while its object lived
abbrev pub ran_well : JobFate → Bool
ran_well f = (f.runs == (if f.is_due then 1 else 0)) && not f.is_early

-- each job ran as it was to
abbrev pub RanWell : List JobFate → Type 0
RanWell fates = All (λ f. ran_well f ≡ true) fates

module _ (enqueued taken stands : List ℕ) (lists kept : List (List ℕ)) (fates : List JobFate) where
  -- what each check asks
  abbrev pub Passes : Check → Type 0
  Passes Twice = IsDistinct nat_eq enqueued
  Passes Order = TookInOrder enqueued lists
  Passes Total = GivesEachOnce taken lists
  Passes Rest = (stands ≡ []) × (taken ≡ enqueued)
  Passes Reports = PutInAll enqueued kept
  Passes Jobs = RanWell fates

  -- the first check that fails, in this order; none where all hold
  abbrev pub IsFirstFailure : Option Check → Type 0
  IsFirstFailure (Some Twice) = ¬ Passes Twice
  IsFirstFailure (Some Order) = Passes Twice × ¬ Passes Order
  IsFirstFailure (Some Total) = Passes Twice × Passes Order × ¬ Passes Total
  IsFirstFailure (Some Rest) = Passes Twice × Passes Order × Passes Total × ¬ Passes Rest
  IsFirstFailure (Some Reports) = Passes Twice × Passes Order × Passes Total × Passes Rest × ¬ Passes Reports
  IsFirstFailure (Some Jobs) =
      Passes Twice × Passes Order × Passes Total × Passes Rest × Passes Reports × ¬ Passes Jobs
  IsFirstFailure None = Passes Twice × Passes Order × Passes Total × Passes Rest × Passes Reports × Passes Jobs

-- the name of a check, as it is printed
abbrev pub name_of_check : Check → List ℕ
name_of_check Twice = codes "twice"
name_of_check Order = codes "order"
name_of_check Total = codes "total"
name_of_check Rest = codes "rest"
name_of_check Reports = codes "reports"
name_of_check Jobs = codes "jobs"
