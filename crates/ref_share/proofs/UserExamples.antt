-- What users of shared things may be told, and what not.
use Rattle.ref_share.proofs.Common.{◌≡◌, ◌+◌, ℕ, [], ◌∷◌, Some, None, Result, Ok, Err, true, false, refl, arith}
use Rattle.ref_share.proofs.Common.{HeldNotice, Took, ap, inr, heap_view}
use Rattle.std.specs.Borrow.{MutBor}
use Rattle.ref_base.specs.declared.fault.Fault.{Fault}
use Rattle.ref_base.specs.declared.fault.Fault.TheVariants.{NoCell, NoMemory}
use Rattle.ref_base.specs.declared.heap_step.HoldName.{HoldName}
use Rattle.ref_base.specs.declared.plain_step.PlainStep.TheVariants as plain
use Rattle.ref_base.specs.declared.reply.Reply.TheVariants as told
use Rattle.ref_share.specs.Collectors.{HasRun}
use Rattle.ref_share.specs.Cycles.{CountedRepeats}
use Rattle.ref_share.specs.HeapCalls.{may_answer}
use Rattle.ref_share.specs.Users.{AtEachPlace, told_as, reply_of_found, reply_of_done, held_back}
use Rattle.ref_share.specs.Users.{IsStillTheUser, QueueUse, notice_of_poll, notice_if_polled}
use Rattle.ref_share.specs.declared.answers.Polled.TheVariants.{Empty}
use Rattle.ref_share.specs.declared.collector.Collector.{Collector}
use Rattle.ref_share.specs.declared.answers.ShareFault.TheVariants.{Busy, Held, Refused}

-- ---- replies by kind

a_get_finds_an_object : may_answer (plain.Get 0 1 2) (told.Object 5) ≡ true
a_get_finds_an_object = refl

a_get_finds_none : may_answer (plain.Get 0 1 2) told.Null ≡ true
a_get_finds_none = refl

a_get_compares_nothing : may_answer (plain.Get 0 1 2) (told.Refers true) ≡ false
a_get_compares_nothing = refl

-- what is made is never null
a_new_object_is_none : may_answer (plain.New 0 1 2) told.Null ≡ false
a_new_object_is_none = refl

-- ---- typed answers

one_is_found : told_as reply_of_found (Ok (Some 5)) ≡ Ok (told.Object 5)
one_is_found = refl

none_is_found : told_as reply_of_found (Ok None) ≡ Ok told.Null
none_is_found = refl

it_is_refused : told_as reply_of_done (Err NoCell) ≡ Err NoCell
it_is_refused = refl

refused_and_done : ¬ (told_as reply_of_done (Err NoCell) ≡ Ok told.Done)
refused_and_done same = absurd cc

abbrev hold : HoldName
hold = record { heap_no = 7; object = 2 }

it_comes_back : held_back (Err (NoCell, hold)) ≡ Err (Held hold NoCell)
it_comes_back = refl

spent_and_back : ¬ (held_back (Ok tt) ≡ Err (Held hold NoCell))
spent_and_back same = absurd cc

-- ---- place by place

each_is_one_more : AtEachPlace (λ x y. y ≡ x + 1) (1 ∷ 5 ∷ []) (2 ∷ 6 ∷ [])
each_is_one_more = (refl, λ k x y found placed. grind arith)

the_second_is_not : ¬ (AtEachPlace (λ x y. y ≡ x + 1) (1 ∷ 5 ∷ []) (2 ∷ 7 ∷ []))
the_second_is_not are = absurd (omega (arith, are.1 1 5 7 refl refl))

one_for_two : ¬ (AtEachPlace (λ x y. y ≡ x + 1) (1 ∷ 5 ∷ []) (2 ∷ []))
one_for_two are = absurd (omega (arith, are.0))

-- ---- one after the other

three_are_counted : CountedRepeats (λ n x y. y ≡ x + n) 3 1 4
three_are_counted = (2, (1, (1, refl, refl), refl), refl)

none_and_a_change : ¬ (CountedRepeats (λ n x y. y ≡ x + n) 0 1 2)
none_and_a_change same = absurd (omega (arith, same))

-- ---- notices

a_busy_poll_takes_none : notice_of_poll (Err Busy) ≡ None
a_busy_poll_takes_none = refl

nothing_stood : notice_if_polled (Some (Ok Empty)) ≡ None
nothing_stood = refl

module _ (notice : HeldNotice) where
  it_was_taken : notice_if_polled (Some (Ok (Took notice))) ≡ Some notice
  it_was_taken = refl

  taken_and_lost : ¬ (notice_of_poll (Ok (Took notice)) ≡ None)
  taken_and_lost same = absurd cc

module _ {A : Type 0} (s t : MutBor (QueueUse A)) where
  it_alone_may_call : t.ghost_name ≡ s.ghost_name → t.now ≡ record s.now { seat = t.now.seat } → IsStillTheUser s t
  it_alone_may_call name same = (name, same)

  it_is_of_another_queue : ¬ (t.now.queue ≡ s.now.queue) → ¬ (IsStillTheUser s t)
  it_is_of_another_queue another is = another (ap (λ (u : QueueUse A). u.queue) is.1)

-- ---- a collector that comes back

module _ {A : Type 0} (c : Collector A) where
  -- one without queues, as this worker
  abbrev alone : ℕ → Collector A
  alone worker = record c { queues = record { queues = []; seats = [] }; worker = worker }

  no_memory_for_the_first_batch : HasRun (alone 1) (Err NoMemory) (alone 1)
  no_memory_for_the_first_batch = (
    refl,
    (
      [],
      (0, (heap_view c.user.seat, []), refl, (Refused NoMemory, refl, inr (refl, refl, refl))),
      (refl, λ k x y found closed. absurd cc),
    ),
  )

  it_is_another_worker : (ended : Result (Unit {0}) Fault) → ¬ (HasRun (alone 1) ended (alone 2))
  it_is_another_worker ended has = absurd (omega (arith, ap (λ (d : Collector A). d.worker) has.0))
