-- What `register`, `clean` and a cleaner's thread may have called, and what not: the job 30 of reference 2, whose
-- notice comes once its object is gone.
use Rattle.ref_share.proofs.Common.{◌≡◌, ℕ, length, length-append, List, [], ◌∷◌, Option, Some, None, Ok, true}
use Rattle.ref_share.proofs.Common.{false, inl, inr, refl, ap, ◌+◌, map}
use Rattle.ref_share.proofs.Common.{arith, Cycle, HoldName, ClearHeap, HeldNotice, new_registry, entry, Entry, Idle}
use Rattle.ref_share.proofs.Common.{View, new_queue, Round, all_of, jobs_run, takes_in, CleanView, CleanEntry}
use Rattle.ref_share.proofs.Common.{makes_phantom, CleansDead, HeapView, HeapEntry, QueueView, QueueEntry, Releases}
use Rattle.ref_queue.specs.declared.job.Ran.{Ran}
use Rattle.ref_share.specs.CleanLoops.{GoesRound, GoesOn}
use Rattle.ref_queue.specs.CleanTables.{Registry}
use Rattle.ref_share.specs.CleanMachines.{IsCleanTurn}
use Rattle.ref_share.specs.Cleanings.{RegistersJob, RegistersApart, KeepsJob, CleansNow, Unregisters, LooksOnce}
use Rattle.ref_share.specs.declared.answers.Cleaned.TheVariants.{Gone, Ran as DidRun}
use Rattle.ref_base.specs.declared.heap_step.HeapStep.TheVariants as heap
use Rattle.ref_base.specs.declared.plain_step.PlainStep.TheVariants as plain
use Rattle.ref_base.specs.declared.reply.Reply.TheVariants as told
use Rattle.ref_queue.specs.declared.queue.Polled.TheVariants as found
use Rattle.ref_world.specs.declared.heap_machine.HeapReply.TheVariants as replies
use Rattle.ref_share.specs.declared.clean_machine.CleanStep.TheVariants as steps
use Rattle.ref_share.specs.declared.clean_machine.CleanReply.TheVariants as answers
use Rattle.ref_share.specs.declared.queue_machine.QueueStep.TheVariants as queue
use Rattle.ref_share.specs.declared.queue_machine.QueueReply.TheVariants as told_by

abbrev hold : HoldName
hold = record { heap_no = 7; object = 2 }

abbrev notice : HeldNotice
notice = record { hold = hold; queue = 0; cause = Cycle 1 0 }

-- the one seat of a turn, which has made these calls
abbrev seat : {M S R : Type 0} → Option M → List (Entry S R) → View M S R
seat start calls = record {
  first = 0;
  start = start;
  stage = Idle;
  number = 0;
  seen = calls;
  mine = calls;
  drawn = 0;
  looks = 0;
}

abbrev polls : List QueueEntry → QueueView
polls calls = seat (Some (new_queue 0)) calls

abbrev table : List (CleanEntry ℕ) → CleanView ℕ
table calls = seat (Some new_registry) calls

abbrev registered : CleanEntry ℕ
registered = entry 0 (steps.Register 2 hold 30) (answers.Registered (Ok tt))

abbrev taken : CleanEntry ℕ
taken = entry 0 (steps.Take 2) (answers.Taken (Some (hold, 30)))

abbrev none_taken : CleanEntry ℕ
none_taken = entry 0 (steps.Take 2) (answers.Taken None)

abbrev looked : CleanEntry ℕ
looked = entry 0 (steps.Has 2) (answers.Looked true)

-- nothing stands in a new table, whatever is looked for
none_stands : (n : ℕ) → IsCleanTurn {K = HoldName} {J = ℕ} new_registry (steps.Has n) (answers.Looked false) new_registry
none_stands n = (refl, refl)

stands_in_a_new_table : (n : ℕ) (t : Registry HoldName ℕ)
    → ¬ (IsCleanTurn new_registry (steps.Has n) (answers.Looked true) t)
stands_in_a_new_table n t is = let no = is.0 in absurd cc

abbrev makes : HeapEntry
makes = entry 0 (heap.Plain (makes_phantom 0 0 1 2)) (replies.Told (told.Object 2))

abbrev holds : HeapEntry
holds = entry 0 (heap.Hold 0 2) (replies.Held hold)

abbrev drops : HeapEntry
drops = entry 0 (heap.Plain (plain.Drop 0 2)) (replies.Told told.Done)

abbrev releases : HeapEntry
releases = entry 0 (heap.Release hold) (replies.Told told.Done)

-- what is told of a job that was run
abbrev ran_of : ℕ → Ran
ran_of job = record { number = job; answer = job + 1000 }

module _ (start : Option ClearHeap) where
  abbrev calls_of : List HeapEntry → HeapView
  calls_of calls = seat start calls

  -- ---- release

  it_is_released : Releases (calls_of []) hold (Ok tt) (calls_of (releases ∷ []))
  it_is_released = ((refl, refl, refl), ([], refl), refl)

  released_without_a_call : ¬ (Releases (calls_of []) hold (Ok tt) (calls_of []))
  released_without_a_call is = let none = is.2 in absurd cc

  -- ---- register

  it_is_kept : KeepsJob 30 (table []) hold (calls_of []) (Ok (record { obj = 2 })) (calls_of [])
      (table (registered ∷ []))
  it_is_kept = (refl, refl, ((refl, refl, refl), ([], refl), refl))

  kept_and_given_back : ¬ (KeepsJob 30 (table []) hold (calls_of []) (Ok (record { obj = 2 }))
      (calls_of (releases ∷ [])) (table (registered ∷ [])))
  kept_and_given_back is = let same = ap (λ (w : HeapView). w.mine) is.1 in absurd cc

  it_is_registered : RegistersJob 30 (table []) 0 0 1 2 (calls_of []) (Ok (record { obj = 2 }))
      (calls_of (makes ∷ holds ∷ [])) (table (registered ∷ []))
  it_is_registered = (
    hold,
    refl,
    (
      calls_of (makes ∷ []),
      (told.Object 2, refl, ((refl, refl, refl), ([], refl), refl)),
      ((refl, refl, refl), ([], refl), refl),
    ),
    ((refl, refl, refl), ([], refl), refl),
  )

  registered_outside_the_table : ¬ (RegistersJob 30 (table []) 0 0 1 2 (calls_of []) (Ok (record { obj = 2 }))
      (calls_of (makes ∷ holds ∷ [])) (table []))
  registered_outside_the_table is = let none = is.3.2 in absurd cc

  told_by_another_number : ¬ (RegistersJob 30 (table []) 0 0 1 2 (calls_of []) (Ok (record { obj = 1 }))
      (calls_of (makes ∷ holds ∷ [])) (table (registered ∷ [])))
  told_by_another_number is = grind arith

  -- ---- register apart

  it_is_registered_apart : RegistersApart 30 (table []) 0 0 1 2 (calls_of []) (Ok (record { obj = 2 }))
      (calls_of (makes ∷ holds ∷ drops ∷ [])) (table (registered ∷ []))
  it_is_registered_apart = (
    hold,
    refl,
    (
      calls_of (makes ∷ holds ∷ []),
      (
        calls_of (makes ∷ []),
        (told.Object 2, refl, ((refl, refl, refl), ([], refl), refl)),
        ((refl, refl, refl), ([], refl), refl),
      ),
      (told.Done, refl, ((refl, refl, refl), ([], refl), refl)),
    ),
    ((refl, refl, refl), ([], refl), refl),
  )

  left_in_its_slot : ¬ (RegistersApart 30 (table []) 0 0 1 2 (calls_of []) (Ok (record { obj = 2 }))
      (calls_of (makes ∷ holds ∷ [])) (table (registered ∷ [])))
  left_in_its_slot is =
      let first = ap length is.2.1.1.2.2 in
      let second = ap length is.2.1.2.2 in
      let third = ap length is.2.2.2.2 in
      absurd (omega (arith, first, second, third, length-append {A = HeapEntry}))

  -- ---- clean

  it_ran : CleansNow ran_of 2 0 5 (calls_of []) (table []) (Ok (DidRun (record { number = 30; answer = 1030 }) None))
      (calls_of
      (entry 0 (heap.Adopt 0 5 hold) (replies.Told (told.Object 2)) ∷
      entry 0 (heap.Plain (plain.Clear 0 5)) (replies.Told told.Done) ∷
      entry 0 (heap.Plain (plain.Drop 0 5)) (replies.Told told.Done) ∷ []))
      (table (taken ∷ []))
  it_ran = (
    hold,
    30,
    ((refl, refl, refl), ([], refl), refl),
    refl,
    (
      calls_of (entry 0 (heap.Adopt 0 5 hold) (replies.Told (told.Object 2)) ∷ []),
      calls_of
          (entry 0 (heap.Adopt 0 5 hold) (replies.Told (told.Object 2)) ∷
          entry 0 (heap.Plain (plain.Clear 0 5)) (replies.Told told.Done) ∷ []),
      ((refl, refl, refl), ([], refl), refl),
      inl (told.Done, ((refl, refl, refl), ([], refl), refl)),
      inl (told.Done, ((refl, refl, refl), ([], refl), refl)),
    ),
  )

  gone_with_a_job_in_hand : (w : HeapView)
      → ¬ (CleansNow ran_of 2 0 5 (calls_of []) (table []) (Ok Gone) w (table (taken ∷ [])))
  gone_with_a_job_in_hand w is =
      let answer = ap (λ (calls : List (CleanEntry ℕ)). map (λ call. call.reply) calls) is.0.2 in absurd cc

  gone_without_a_look : (w : HeapView) → ¬ (CleansNow ran_of 2 0 5 (calls_of []) (table []) (Ok Gone) w (table []))
  gone_without_a_look w is = let none = is.0.2 in absurd cc

  -- ---- unregister

  its_job_came_out : Unregisters 2 (calls_of []) (table []) (Ok (Some (30, None))) (calls_of (releases ∷ []))
      (table (taken ∷ []))
  its_job_came_out = (hold, ((refl, refl, refl), ([], refl), refl), ((refl, refl, refl), ([], refl), refl))

  left_in_the_table : (w : HeapView) → ¬ (Unregisters 2 (calls_of []) (table []) (Ok (Some (30, None))) w (table []))
  left_in_the_table w is = let none = is.1.2 in absurd cc

  out_with_its_hold_dropped : (d : CleanView ℕ)
      → ¬ (Unregisters 2 (calls_of []) (table []) (Ok (Some (30, None))) (calls_of []) d)
  out_with_its_hold_dropped d is = let none = is.2.2 in absurd cc

  -- ---- a look

  it_stands : LooksOnce (table (registered ∷ [])) 2 (Ok true) (table (registered ∷ looked ∷ []))
  it_stands = ((refl, refl, refl), ([], refl), refl)

  -- promise: SharedCleaner::is_registered: no answer without a look in the table
  stands_without_a_look : ¬ (LooksOnce (table []) 2 (Ok true) (table []))
  stands_without_a_look is = let none = is.2 in absurd cc

  -- ---- a cleaner's thread

  its_job_was_run : CleansDead notice (calls_of []) (table []) (Ok true) (calls_of (releases ∷ releases ∷ []))
      (table (taken ∷ []))
  its_job_was_run = (
    hold,
    30,
    calls_of (releases ∷ []),
    (((refl, refl, refl), ([], refl), refl), ((refl, refl, refl), ([], refl), refl)),
    ((refl, refl, refl), ([], refl), refl),
  )

  run_without_a_job : (w : HeapView)
      → ¬ (CleansDead notice (calls_of []) (table []) (Ok true) w (table (none_taken ∷ [])))
  run_without_a_job w is =
      let answer = ap (λ (calls : List (CleanEntry ℕ)). map (λ call. call.reply) calls) is.3.1.2 in absurd cc

  -- one notice came, whose job was run, and then the queue was closed
  it_went_one_round : GoesRound (polls []) (calls_of []) (table []) (Ok 1)
      (polls
      (entry 0 queue.Poll (told_by.Polled (found.Took notice)) ∷ entry 0 queue.Poll (told_by.Polled found.Closed) ∷ []))
      (calls_of (releases ∷ releases ∷ [])) (table (taken ∷ []))
  it_went_one_round = (
    record { empties = 0; notice = notice; taken = Some (hold, 30) } ∷ [],
    polls (entry 0 queue.Poll (told_by.Polled (found.Took notice)) ∷ []),
    (
      ((refl, refl, refl), (entry 0 queue.Poll (told_by.Polled (found.Took notice)) ∷ [], refl), refl),
      ((refl, refl, refl), (releases ∷ releases ∷ [], refl), refl),
      ((refl, refl, refl), (taken ∷ [], refl), refl),
    ),
    tt,
    inr (0, tt, ((refl, refl, refl), (entry 0 queue.Poll (told_by.Polled found.Closed) ∷ [], refl), refl)),
    refl,
  )

  -- no job was taken, so none was run
  no_rounds : (rs : List (Round ℕ)) → [] ≡ all_of (takes_in (table [])) rs → jobs_run rs ≡ 0
  no_rounds [] none = refl
  no_rounds (r ∷ rs) none = absurd cc

  counted_without_a_job : (q : QueueView) (w : HeapView)
      → ¬ (GoesRound (polls []) (calls_of []) (table []) (Ok 1) q w (table []))
  counted_without_a_job q w goes =
      let none : jobs_run goes.0 ≡ 0 = no_rounds goes.0 goes.2.2.2 in absurd (omega (arith, goes.5, none))

  -- the same without waiting, until a poll found nothing
  it_went_on_for_one_round : GoesOn (polls []) (calls_of []) (table []) (Ok 1)
      (polls
      (entry 0 queue.Poll (told_by.Polled (found.Took notice)) ∷ entry 0 queue.Poll (told_by.Polled found.Empty) ∷ []))
      (calls_of (releases ∷ releases ∷ [])) (table (taken ∷ []))
  it_went_on_for_one_round = (
    record { empties = 0; notice = notice; taken = Some (hold, 30) } ∷ [],
    polls (entry 0 queue.Poll (told_by.Polled (found.Took notice)) ∷ []),
    (
      ((refl, refl, refl), (entry 0 queue.Poll (told_by.Polled (found.Took notice)) ∷ [], refl), refl),
      ((refl, refl, refl), (releases ∷ releases ∷ [], refl), refl),
      ((refl, refl, refl), (taken ∷ [], refl), refl),
    ),
    refl,
    inl ((refl, refl, refl), ([], refl), refl),
    refl,
  )

  -- promise: SharedCleaner::clean_some: a round without a job is not counted
  counted_on_without_a_job : (q : QueueView) (w : HeapView)
      → ¬ (GoesOn (polls []) (calls_of []) (table []) (Ok 1) q w (table []))
  counted_on_without_a_job q w goes =
      let none : jobs_run goes.0 ≡ 0 = no_rounds goes.0 goes.2.2.2 in absurd (omega (arith, goes.5, none))
