-- What shows that a check of a stress run's lists fails (this project's own).
use Rattle.std.specs.Prelude.{◌≡◌, ◌≢◌, ℕ, zero, suc, ◌+◌, ◌<◌, true, false, List, Option, Some, None, slice_get}
use Rattle.std.specs.Prelude.{slice_range}
use Rattle.std.specs.List.{All, Contains}
use Rattle.ref_base.specs.CollectorRows.{is_subsequence}
use Rattle.refrun.specs.declared.evidence.Evidence.{Evidence}
use Rattle.refrun.specs.declared.evidence.Evidence.TheVariants as evidence
use Rattle.refrun.specs.declared.evidence.WrongRun.{WrongRun}
use Rattle.refrun.specs.declared.evidence.WrongRun.TheVariants as wrong
use Rattle.refrun.specs.declared.outcomes.JobFate.{JobFate}

-- the number was put in at both places
abbrev pub ShowsTwice : List ℕ → Evidence → Type 0
ShowsTwice enqueued (evidence.PutTwice n first again) =
    (first < again) × (slice_get enqueued first ≡ Some n) × (slice_get enqueued again ≡ Some n)
ShowsTwice enqueued e = ⊥

-- the number stands, or what was put in at the place is not what was taken at it
abbrev pub ShowsRest : (enqueued taken stands : List ℕ) → Evidence → Type 0
ShowsRest enqueued taken stands (evidence.Stands n) = slice_get stands 0 ≡ Some n
ShowsRest enqueued taken stands (evidence.TakenInPlaceOf place put got) =
    (put ≡ slice_get enqueued place) × (got ≡ slice_get taken place) × (put ≢ got)
ShowsRest enqueued taken stands e = ⊥

-- the job was to run and didn't run once, or it began while its object lived, or it was not to run and did
abbrev pub IsWrong : JobFate → WrongRun → Type 0
IsWrong f (wrong.Runs n) = (f.is_due ≡ true) × (n ≡ f.runs) × (n ≢ 1)
IsWrong f wrong.Early = f.is_early ≡ true
IsWrong f wrong.Unasked = (f.is_due ≡ false) × (f.runs ≢ 0)

-- what is wrong is so of the job of this number
abbrev pub ShowsJobs : List JobFate → Evidence → Type 0
ShowsJobs fates (evidence.Job job wrong) = (f : JobFate) × (slice_get fates job ≡ Some f) × IsWrong f wrong
ShowsJobs fates e = ⊥

-- what stands right in front of the place, if anything does
abbrev pub before_place : List ℕ → ℕ → Option ℕ
before_place ns zero = None
before_place ns (suc k) = slice_get ns k

module _ {V : Type 0} (items : V → List ℕ) where
  -- the poller's numbers up to this one are in no such order, and it came behind that other one
  abbrev pub ShowsOrder : List ℕ → List V → Evidence → Type 0
  ShowsOrder enqueued lists (evidence.OutOfOrder p before n) =
      (v : V) × (place : ℕ) × (slice_get lists p ≡ Some v) × (slice_get (items v) place ≡ Some n)
      × (before ≡ before_place (items v) place)
      × (is_subsequence (slice_range (items v) 0 (place + 1)) enqueued ≡ false)
  ShowsOrder enqueued lists e = ⊥

  -- both pollers took the number
  abbrev pub ShowsAgain : List V → Evidence → Type 0
  ShowsAgain lists (evidence.TakenTwice p other n) =
      (v w : V) × (slice_get lists p ≡ Some v) × (slice_get lists other ≡ Some w) × Contains (items v) n
      × Contains (items w) n
  ShowsAgain lists e = ⊥

  -- the poller took the number and the queue didn't give it, or two took it, or nobody did
  abbrev pub ShowsTotal : List ℕ → List V → Evidence → Type 0
  ShowsTotal taken lists (evidence.NotGiven p n) =
      (v : V) × (slice_get lists p ≡ Some v) × Contains (items v) n × ¬ (Contains taken n)
  ShowsTotal taken lists (evidence.TakenTwice p other n) = ShowsAgain lists (evidence.TakenTwice p other n)
  ShowsTotal taken lists (evidence.NotTaken n) = Contains taken n × All (λ v. ¬ (Contains (items v) n)) lists
  ShowsTotal taken lists e = ⊥

  -- a mutator kept the number, and it was not put in
  abbrev pub ShowsReports : List ℕ → List V → Evidence → Type 0
  ShowsReports enqueued kept (evidence.NoReport n) =
      (m : ℕ) × (v : V) × (slice_get kept m ≡ Some v) × Contains (items v) n × ¬ (Contains enqueued n)
  ShowsReports enqueued kept e = ⊥

  -- one of these
  abbrev pub IsEvidence : (enqueued taken stands : List ℕ) → (lists kept : List V) → (fates : List JobFate) → Evidence
      → Type 0
  IsEvidence enqueued taken stands lists kept fates (evidence.PutTwice n first again) =
      ShowsTwice enqueued (evidence.PutTwice n first again)
  IsEvidence enqueued taken stands lists kept fates (evidence.OutOfOrder p before n) =
      ShowsOrder enqueued lists (evidence.OutOfOrder p before n)
  IsEvidence enqueued taken stands lists kept fates (evidence.Stands n) =
      ShowsRest enqueued taken stands (evidence.Stands n)
  IsEvidence enqueued taken stands lists kept fates (evidence.TakenInPlaceOf place put got) =
      ShowsRest enqueued taken stands (evidence.TakenInPlaceOf place put got)
  IsEvidence enqueued taken stands lists kept fates (evidence.NoReport n) =
      ShowsReports enqueued kept (evidence.NoReport n)
  IsEvidence enqueued taken stands lists kept fates (evidence.Job job wrong) = ShowsJobs fates (evidence.Job job wrong)
  IsEvidence enqueued taken stands lists kept fates e = ShowsTotal taken lists e
