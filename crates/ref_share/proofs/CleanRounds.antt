-- What a cleaner's thread has called, one round after the other.
use Rattle.ref_share.proofs.Common.{Bool, ◌≡◌, ℕ, ◌+◌, ◌<◌, ◌≤◌, true, false, List, [], ◌∷◌, ◌++◌, length, replicate}
use Rattle.ref_share.proofs.Common.{Option, Some, None, Ok, refl, sym, ap, ◌∙◌, subst, arith, length-append}
use Rattle.ref_share.proofs.Common.{append_assoc, append-nil, HoldName, HeldNotice, entry, Longer, Round, all_of}
use Rattle.ref_share.proofs.Common.{takes_in, jobs_run, HasGone, CleanView, CleanEntry, TakesJob, CleansDead, HeapView}
use Rattle.ref_share.proofs.Common.{HeapEntry, PollsUntil, QueueView, QueueEntry, Releases, Made, Took}
use Rattle.ref_share.proofs.Common.{IsQuiet, PollsBy}
use Rattle.ref_share.specs.CleanLoops.{polls_in, releases_in, job_in, released, polls_in_vain, PollsFor}
use Rattle.ref_share.specs.declared.clean_loop.Polling.{Polling}
use Rattle.ref_share.specs.declared.clean_loop.Polling.TheVariants.{Waits, Once}
use Rattle.ref_share.proofs.Polls.{made_none, made_more, made_longer, made_after}
use Rattle.ref_base.specs.declared.heap_step.HeapStep.TheVariants as heap
use Rattle.ref_base.specs.declared.reply.Reply.TheVariants as tells
use Rattle.ref_queue.specs.declared.queue.Polled.TheVariants as answers
use Rattle.ref_world.specs.declared.heap_machine.HeapReply.TheVariants as replies
use Rattle.ref_share.specs.declared.clean_machine.CleanStep.TheVariants as steps
use Rattle.ref_share.specs.declared.clean_machine.CleanReply.TheVariants as gives
use Rattle.ref_share.specs.declared.queue_machine.QueueStep.TheVariants as asks
use Rattle.ref_share.specs.declared.queue_machine.QueueReply.TheVariants as gets

all_of_one_more : {R T : Type 0} (part : R → List T) (rs : List R) (r : R)
    → all_of part (rs ++ r ∷ []) ≡ all_of part rs ++ part r
all_of_one_more part [] r = append-nil (part r)
all_of_one_more {T = T} part (s ∷ rs) r = search (append_assoc, all_of_one_more part rs r)

-- the polls of a round, the last of which finds its notice
abbrev pub until_found : (polling : Polling) (notice : HeldNotice) (u w : QueueView)
    → PollsBy polling u (Some (Ok (Took notice))) w → PollsUntil u (Ok (Took notice)) w
until_found Waits notice u w polls = polls
until_found Once notice u w polls =
    (0, tt, made_more u u w [] asks.Poll (gets.Polled (answers.Took notice)) (made_none u) polls)

-- no poll was in vain before the first round
still_quiet : (J : Type 0) (polling : Polling) → IsQuiet {J = J} polling []
still_quiet J Waits = tt
still_quiet J Once = refl

module _ {J : Type 0} where
  job_at_most : (taken : Option (HoldName × J)) → length (job_in taken) ≤ 1
  job_at_most None = omega (arith)
  job_at_most (Some _) = omega (arith)

  -- no more jobs were run than there were takes
  jobs_at_most_takes : (c : CleanView J) (rs : List (Round J)) → jobs_run rs ≤ length (all_of (takes_in c) rs)
  jobs_at_most_takes c [] = omega (arith)
  jobs_at_most_takes c (r ∷ rs) =
      omega (
        arith,
        jobs_at_most_takes c rs,
        job_at_most r.taken,
        length-append (job_in r.taken) (all_of (λ (s : Round J). job_in s.taken) rs),
      )

  -- so no more than calls of the seat
  pub jobs_at_most_calls : (c d : CleanView J) (rs : List (Round J)) → Made c (all_of (takes_in c) rs) d
      → jobs_run rs ≤ length d.mine
  jobs_at_most_calls c d rs made =
      omega (arith, jobs_at_most_takes c rs, ap length made.2, length-append c.mine (all_of (takes_in c) rs))

  pub jobs_of_one_more : (rs : List (Round J)) (r : Round J)
      → jobs_run (rs ++ r ∷ []) ≡ jobs_run rs + length (job_in r.taken)
  jobs_of_one_more rs r = search (all_of_one_more, length-append)

  vain_of_one_more : (rs : List (Round J)) (r : Round J)
      → polls_in_vain (rs ++ r ∷ []) ≡ polls_in_vain rs + r.empties
  vain_of_one_more [] r = omega (arith)
  vain_of_one_more (s ∷ rs) r = omega (arith, vain_of_one_more rs r)

  -- a round adds no poll in vain to those of a thread that doesn't wait
  quiet_on : (polling : Polling) (notice : HeldNotice) (u w : QueueView)
      (by : PollsBy polling u (Some (Ok (Took notice))) w) (rs : List (Round J)) (taken : Option (HoldName × J))
      → IsQuiet polling rs
      → IsQuiet polling
      (rs ++ record { empties = (until_found polling notice u w by).0; notice = notice; taken = taken } ∷ [])
  quiet_on Waits notice u w by rs taken quiet = tt
  quiet_on Once notice u w by rs taken quiet =
      omega (arith, quiet, vain_of_one_more rs (record { empties = 0; notice = notice; taken = taken }))

  -- the seats have made just the calls of some rounds, in which so many jobs were run
  pub record GoneSoFar (q : QueueView) (v : HeapView) (c : CleanView J) (polling : Polling) (count : ℕ)
      (q1 : QueueView) (v1 : HeapView) (c1 : CleanView J) : Type 0 where
    pub rounds : List (Round J)
    pub gone : HasGone q v c rounds q1 v1 c1
    pub quiet : IsQuiet polling rounds
    pub counted : count ≡ jobs_run rounds

  pub gone_nowhere : {q : QueueView} {v : HeapView} {c : CleanView J} {polling : Polling}
      → GoneSoFar q v c polling 0 q v c
  gone_nowhere {q = q} {v = v} {c = c} {polling = polling} = record {
    rounds = [];
    gone = (made_none q, made_none v, made_none c);
    quiet = still_quiet J polling;
    counted = refl;
  }

  module _ {q : QueueView} {v : HeapView} {c : CleanView J} {polling : Polling} {count : ℕ} {q1 : QueueView}
      {v1 : HeapView} {c1 : CleanView J} (so_far : GoneSoFar q v c polling count q1 v1 c1) (q2 : QueueView)
      {asked : Option HeldNotice} {notice : HeldNotice} (is : asked ≡ Some notice)
      (told : PollsFor polling q1 (Ok asked) q2) where
    abbrev rs : List (Round J)
    rs = so_far.rounds

    -- its poll took the notice
    abbrev pub took : PollsBy polling q1 (Some (Ok (Took notice))) q2
    took = subst (λ n. PollsFor polling q1 (Ok n) q2) is told

    abbrev polls : PollsUntil q1 (Ok (Took notice)) q2
    polls = until_found polling notice q1 q2 took

    abbrev next : Option (HoldName × J) → Round J
    next taken = record { empties = polls.0; notice = notice; taken = taken }

    -- the round's calls follow those of the rounds before
    next_polls : (taken : Option (HoldName × J)) → Made q (all_of (polls_in q) (rs ++ next taken ∷ [])) q2
    next_polls taken =
        let own = subst
        (λ (n : ℕ). Made q1 (replicate polls.0 (entry n asks.Poll (gets.Polled answers.Empty))
        ++ entry n asks.Poll (gets.Polled (answers.Took notice)) ∷ []) q2) so_far.gone.0.0.0 polls.2 in
        subst (λ (calls : List QueueEntry). Made q calls q2) (sym (all_of_one_more (polls_in q) rs (next taken)))
        (made_after q q1 q2 (all_of (polls_in q) rs) (polls_in q (next taken)) so_far.gone.0 own)

    next_takes : (taken : Option (HoldName × J)) (c2 c3 : CleanView J) → TakesJob c1 notice.hold.object taken c2
        → Longer c2 c3 → Made c (all_of (takes_in c) (rs ++ next taken ∷ [])) c3
    next_takes taken c2 c3 takes longer =
        let made = made_more c c1 c2 (all_of (takes_in c) rs) (steps.Take notice.hold.object) (gives.Taken taken)
        so_far.gone.2 takes in
        subst (λ (calls : List (CleanEntry J)). Made c calls c3) (sym (all_of_one_more (takes_in c) rs (next taken)))
        (made_longer c c2 c3 (all_of (takes_in c) rs ++ takes_in c (next taken)) made longer)

    next_release : (u : HeapView) → Releases v1 notice.hold (Ok tt) u
        → Made v (all_of (releases_in v) rs ++ released v notice.hold ∷ []) u
    next_release u releases = search made_more

    module _ (v2 : HeapView) (c2 : CleanView J) {found : Bool} (cleans : CleansDead notice v1 c1 (Ok found) v2 c2) where
      -- a round without a job
      pub gone_in_vain : found ≡ false → GoneSoFar q v c polling count q2 v2 c2
      gone_in_vain jobless =
          let none = subst (λ b. CleansDead notice v1 c1 (Ok b) v2 c2) jobless cleans in record {
            rounds = rs ++ next None ∷ [];
            gone = (
              next_polls None,
              subst (λ (calls : List HeapEntry). Made v calls v2) (sym (all_of_one_more (releases_in v) rs (next None)))
                  (next_release v2 none.0),
              next_takes None c2 c2 none.1 ((refl, refl, refl), (made_none c2).1, refl),
            );
            quiet = quiet_on polling notice q1 q2 took rs None so_far.quiet;
            counted = omega (arith, so_far.counted, jobs_of_one_more rs (next None));
          }

      -- a round with a job
      pub gone_for_a_job : found ≡ true → (c3 : CleanView J) → Longer c2 c3 → {more : ℕ} → more ≡ count + 1
          → GoneSoFar q v c polling more q2 v2 c3
      gone_for_a_job jobful c3 longer more =
          let job = subst (λ b. CleansDead notice v1 c1 (Ok b) v2 c2) jobful cleans in
          let taken = Some (job.0, job.1) in
          let both = made_more v job.2 v2 (all_of (releases_in v) rs ++ released v notice.hold ∷ [])
          (heap.Release job.0) (replies.Told tells.Done) (next_release job.2 job.3.0) job.4 in
          let calls_are = append_assoc (all_of (releases_in v) rs) (released v notice.hold ∷ [])
          (released v job.0 ∷ []) ∙ sym (all_of_one_more (releases_in v) rs (next taken)) in record {
            rounds = rs ++ next taken ∷ [];
            gone = (
              next_polls taken,
              subst (λ (calls : List HeapEntry). Made v calls v2) calls_are both,
              next_takes taken c2 c3 job.3.1 longer,
            );
            quiet = quiet_on polling notice q1 q2 took rs taken so_far.quiet;
            counted = omega (arith, more, so_far.counted, jobs_of_one_more rs (next taken));
          }

      -- its take is one call more than those that gave the jobs before
      pub job_is_a_call : found ≡ true → count < length c2.mine
      job_is_a_call jobful =
          let on = gone_for_a_job jobful c2 ((refl, refl, refl), (made_none c2).1, refl) {more = count + 1} refl in
          omega (arith, on.counted, jobs_at_most_calls c c2 on.rounds on.gone.2)
