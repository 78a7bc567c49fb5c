-- What the rows of jobs and the checks of a stress run may say at worked states, and what they may not.
use Rattle.refrun.proofs.Common.{ℕ, zero, suc, ◌+◌, ◌<◌, List, [], ◌∷◌, None, Some, get_or, refl, sym, arith, nat_eq}
use Rattle.refrun.proofs.Common.{false, true≢false, State, StageJobs, first_jobs, RegistersStageJob, TookInOrder}
use Rattle.refrun.proofs.Common.{IsFirstFailure}
use Rattle.std.proofs.Common.{◌≡◌, ◌≢◌, length}
use Rattle.std.specs.List.{IsDistinct}
use Rattle.ref_base.specs.CollectorRows.{IsRow}
use Rattle.ref_base.specs.declared.reply.Reply.TheVariants.{Done}
use Rattle.ref_base.specs.declared.plain_step.PlainStep.TheVariants.{Clear}
use Rattle.refrun.specs.JobViews.{answering, answering_jobs}
use Rattle.refrun.specs.ScriptRuns.{RunsJob}
use Rattle.refrun.specs.declared.lists.Check.TheVariants.{Order, Rest, Reports}
use Rattle.refrun.specs.declared.evidence.Evidence.TheVariants.{NoReport}
use Rattle.refrun.specs.StressChecks.{PutInAll, RanWell}
use Rattle.refrun.specs.StressEvidence.{ShowsReports}
use Rattle.refrun.proofs.NoEvidence.{contained}
use Rattle.ref_queue.proofs.TableLemmas.{first_out}
use Rattle.ref_base.specs.declared.step.Step.TheVariants as world
use Rattle.ref_script.specs.declared.script_step.ScriptReply.TheVariants as replies

-- ---- jobs: 3 and 4, of which 3 is registered for object 2

abbrev number : ℕ → ℕ
number job = job

abbrev note : ℕ → ℕ
note job = job + 1000

abbrev unused : StageJobs ℕ
unused = first_jobs (3 ∷ 4 ∷ [])

abbrev one_registered : StageJobs ℕ
one_registered = record { table = record { jobs = (2, (tt, 3)) ∷ []; closed = false }; left = 4 ∷ [] }

abbrev one_left : StageJobs ℕ
one_left = first_jobs (4 ∷ [])

job_3_is_registered : RegistersStageJob number 2 3 unused replies.Registered one_registered
job_3_is_registered = grind arith

it_is_not_used_while_it_is_left : ¬ (RegistersStageJob number 2 3 unused replies.Used unused)
it_is_not_used_while_it_is_left is = is.0 0 0 (omega arith) refl

only_4 : (k d : ℕ) → k < 1 → get_or (4 ∷ []) k d ≢ 3
only_4 zero d below is = absurd (omega (arith, is))
only_4 (suc k) d below is = absurd (omega (arith, below))

it_is_used_once_it_is_registered : RegistersStageJob number 2 3 one_registered replies.Used one_registered
it_is_used_once_it_is_registered = (only_4, refl)

it_ran : (a b : State) → IsRow a (record { step = world.Plain (Clear 0 1); reply = Done }) b
    → RunsJob number note 2 0 1 a one_registered (replies.Ran (record { number = 3; answer = 1003 })) b one_left
it_ran a b row = (3, (refl, ((λ m. first_out 2 (tt, 3) [] refl m), refl)), refl, refl, row)

it_is_not_gone_while_it_is_registered : (a b : State) (new : StageJobs ℕ)
    → ¬ (RunsJob number note 2 0 1 a one_registered replies.Gone b new)
it_is_not_gone_while_it_is_registered a b new is = let answer = is.0.0 in absurd cc

-- those of `refrun run`
there_are_64_of_them : length answering_jobs ≡ 64
there_are_64_of_them = refl

the_last_of_them : get_or answering_jobs 63 (answering 0) ≡ record { number = 63; note = 1063 }
the_last_of_them = refl

-- ---- lists: 2 and 3 were put in, and two pollers took one each

abbrev lists : List (List ℕ)
lists = (2 ∷ []) ∷ (3 ∷ []) ∷ []

in_order : TookInOrder (2 ∷ 3 ∷ []) lists
in_order zero d below = refl
in_order (suc zero) d below = refl
in_order (suc (suc k)) d below = absurd (omega (arith, below))

two_are_distinct : IsDistinct nat_eq (2 ∷ 3 ∷ [])
unfolding IsDistinct
two_are_distinct = ((refl, tt), (tt, tt))

one_is_distinct : IsDistinct nat_eq (2 ∷ [])
unfolding IsDistinct
one_is_distinct = (tt, tt)

a_repeat_is_not_distinct : ¬ (IsDistinct nat_eq (2 ∷ 2 ∷ []))
unfolding IsDistinct
a_repeat_is_not_distinct distinct = let apart = distinct.0.0 in absurd cc

-- what the mutators kept was put in
lists_are_put_in : PutInAll (2 ∷ 3 ∷ []) lists
lists_are_put_in n there = there

no_jobs : RanWell []
no_jobs k d below = absurd (omega (arith, below))

all_checks_pass : IsFirstFailure (2 ∷ 3 ∷ []) (2 ∷ 3 ∷ []) [] lists lists [] None
all_checks_pass = (two_are_distinct, in_order, (two_are_distinct, λ n. refl), (refl, refl), lists_are_put_in, no_jobs)

-- one is left over
one_in_order : TookInOrder (2 ∷ 3 ∷ []) ((2 ∷ []) ∷ [])
one_in_order zero d below = refl
one_in_order (suc k) d below = absurd (omega (arith, below))

what_stands_fails : IsFirstFailure (2 ∷ 3 ∷ []) (2 ∷ []) (3 ∷ []) ((2 ∷ []) ∷ []) [] [] (Some Rest)
what_stands_fails = grind (arith, two_are_distinct, one_is_distinct)

-- 2 was put in twice, which is told before all else
an_order_is_not_told_before_a_repeat : ¬ (IsFirstFailure (2 ∷ 2 ∷ []) (2 ∷ 2 ∷ []) [] lists [] [] (Some Order))
an_order_is_not_told_before_a_repeat fails = a_repeat_is_not_distinct fails.0

-- the second mutator kept 5, which was not put in
abbrev kept : List (List ℕ)
kept = (2 ∷ []) ∷ (5 ∷ []) ∷ []

not_put_in : ¬ (PutInAll (2 ∷ 3 ∷ []) kept)
not_put_in all = true≢false (sym (all 5 refl))

a_missing_report_fails : IsFirstFailure (2 ∷ 3 ∷ []) (2 ∷ 3 ∷ []) [] lists kept [] (Some Reports)
a_missing_report_fails = (two_are_distinct, in_order, (two_are_distinct, λ n. refl), (refl, refl), not_put_in)

a_missing_report_is_shown : ShowsReports (λ ns. ns) (2 ∷ 3 ∷ []) kept (NoReport 5)
a_missing_report_is_shown = (
  1,
  5 ∷ [],
  refl,
  (0, omega arith, refl),
  λ among. true≢false (sym (contained (2 ∷ 3 ∷ []) 5 among)),
)

-- promise: evidence_of: what was put in is not shown as missing
what_was_put_in_is_not_missing : ¬ (ShowsReports (λ ns. ns) (2 ∷ 3 ∷ []) kept (NoReport 2))
what_was_put_in_is_not_missing shows = shows.4 (0, omega arith, refl)
