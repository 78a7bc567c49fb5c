-- What the calls of a queue and of a cleaner's table may answer at worked states, and what they may not.
use Rattle.std.proofs.Common.{◌≡◌, ℕ, true, false, List, [], ◌∷◌, Some, None, Ok, Err, refl, sym, ap, nat_eq}
use Rattle.std.proofs.Common.{if◌then◌else◌, arith, get_or}
use Rattle.std.proofs.lemmas.Option.{same_Some}
use Rattle.std.proofs.lemmas.Bool.{true≢false}
use Rattle.ref_base.specs.QueueLists.{Lists}
use Rattle.ref_base.specs.declared.fault.Fault.TheVariants.{WrongQueue, NoMemory, TableClosed, RegisteredTwice}
use Rattle.ref_queue.specs.NumberBlocks.{is_told, TellsNumbers}
use Rattle.ref_queue.specs.CleanTables.{Registry, Registers, Takes, TakesAny, FindsFirst}
use Rattle.ref_queue.specs.QueueAnswers.{AnswersPut, AnswersPoll, after_put}
use Rattle.ref_base.specs.QueueLists.{was_put}
use Rattle.std.specs.Prelude.{Result}
use Rattle.ref_base.specs.declared.fault.Fault.{Fault}
use Rattle.ref_queue.specs.declared.queue.Put.{Put}
use Rattle.ref_queue.proofs.TableLemmas.{either_first, first_out}
use Rattle.ref_queue.specs.declared.queue.Put.TheVariants.{Added, Already, Closed}
use Rattle.ref_queue.specs.declared.queue.Polled.TheVariants.{Took, Empty, Closed as Ended}

-- ---- numbers that came

-- of block 1, which has the numbers from 64 to 127, the second came
abbrev one_word : List (ℕ × ℕ)
one_word = (1, 2) ∷ []

the_second_of_its_block_came : is_told one_word 65 ≡ true
the_second_of_its_block_came = refl

the_first_did_not : is_told one_word 64 ≡ false
the_first_did_not = refl

nor_did_the_second_of_another : is_told one_word 1 ≡ false
nor_did_the_second_of_another = refl

what_no_word_tells_is_not_listed : ¬ (TellsNumbers one_word (65 ∷ 66 ∷ []))
what_no_word_tells_is_not_listed tells = true≢false (sym (tells.told 66))

what_a_word_tells_is_listed : ¬ (TellsNumbers one_word [])
what_a_word_tells_is_listed tells = true≢false (tells.told 65)

-- ---- queues

-- a parcel: the object that it reports, and its queue
abbrev pub Slip : Type 0
Slip = ℕ × ℕ

abbrev pub object_of : Slip → ℕ
object_of slip = slip.0

abbrev pub queue_of : Slip → ℕ
queue_of slip = slip.1

-- queue 1, out of which 7 was taken, and in which 8 stands
abbrev pub one_stands : Lists Slip
one_stands = record { queue = 1; taken = 7 ∷ []; stands = (8, 1) ∷ []; closed = false }

abbrev pub closed_queue : Lists Slip
closed_queue = record one_stands { closed = true }

it_is_added : AnswersPut object_of queue_of one_stands (9, 1) (Ok (Added 2))
it_is_added = ((refl, refl, refl), refl)

its_position_is_not_how_many_stand : ¬ (AnswersPut object_of queue_of one_stands (9, 1) (Ok (Added 1)))
its_position_is_not_how_many_stand is = absurd (omega (arith, is.1))

what_was_taken_was_put_in_before : AnswersPut object_of queue_of one_stands (7, 1) (Ok (Already (7, 1)))
what_was_taken_was_put_in_before = (refl, refl, refl)

what_was_taken_is_not_added_again : ¬ (AnswersPut object_of queue_of one_stands (7, 1) (Ok (Added 2)))
what_was_taken_is_not_added_again is = true≢false is.0.1

a_closed_queue_takes_nothing : AnswersPut object_of queue_of closed_queue (9, 1) (Ok (Closed (9, 1)))
a_closed_queue_takes_nothing = (refl, refl, refl, refl)

an_open_queue_does_not_say_closed : ¬ (AnswersPut object_of queue_of one_stands (9, 1) (Ok (Closed (9, 1))))
an_open_queue_does_not_say_closed is = true≢false (sym is.2)

what_is_another_queues_is_refused : AnswersPut object_of queue_of one_stands (9, 0) (Err (WrongQueue, (9, 0)))
what_is_another_queues_is_refused = ((λ own. absurd (omega (arith, own))), refl)

memory_is_not_wanted_before_a_repeat_is_told : ¬ (AnswersPut object_of queue_of one_stands (7, 1)
    (Err (NoMemory, (7, 1))))
memory_is_not_wanted_before_a_repeat_is_told is = true≢false is.0.1

abbrev no_memory_for_nine : Result (Put Slip) (Fault × Slip)
no_memory_for_nine = Err (NoMemory, (9, 1))

it_may_find_no_memory : AnswersPut object_of queue_of one_stands (9, 1) no_memory_for_nine
it_may_find_no_memory = ((refl, refl, refl), refl)

-- promise: Queue::put: what found no memory doesn't count as put in
what_finds_no_memory_was_not_put_in : was_put object_of
    (after_put object_of queue_of one_stands (9, 1) no_memory_for_nine) (9, 1) ≡ false
what_finds_no_memory_was_not_put_in = refl

it_is_taken : AnswersPoll object_of one_stands (Took (8, 1)) (record one_stands { taken = 7 ∷ 8 ∷ []; stands = [] })
it_is_taken = (refl, refl)

it_is_not_empty_while_something_stands : ¬ (AnswersPoll object_of one_stands Empty one_stands)
it_is_not_empty_while_something_stands is = let none = is.0 in absurd cc

the_last_is_not_taken_first : (left : Lists Slip)
    → ¬ (AnswersPoll object_of (record one_stands { stands = (8, 1) ∷ (9, 1) ∷ [] }) (Took (9, 1)) left)
the_last_is_not_taken_first left is =
    let first : 8 ≡ 9 = ap (λ (slips : List Slip). (get_or slips 0 (0, 0)).0) is.0 in absurd (omega (arith, first))

it_says_closed_once_nothing_stands : AnswersPoll object_of (record closed_queue { stands = [] }) Ended
    (record closed_queue { stands = [] })
it_says_closed_once_nothing_stands = (refl, refl, refl)

-- ---- a cleaner's table

-- object 5 has job 3, with key 50
abbrev one_registered : Registry ℕ ℕ
one_registered = record { jobs = (5, (50, 3)) ∷ []; closed = false }

abbrev two_registered : Registry ℕ ℕ
two_registered = record { jobs = (6, (60, 4)) ∷ (5, (50, 3)) ∷ []; closed = false }

a_job_is_registered : Registers one_registered 6 60 4 (Ok tt) two_registered
a_job_is_registered = (refl, ((λ m. either_first 6 m (Some (60, 4)) (if nat_eq m 5 then Some (50, 3) else None)), refl))

a_job_is_not_registered_over_another : (left : Registry ℕ ℕ) → ¬ (Registers one_registered 5 60 4 (Ok tt) left)
a_job_is_not_registered_over_another left is = let none = is.0 in absurd cc

it_comes_back : Registers one_registered 5 60 4 (Err (RegisteredTwice, 60, 4)) one_registered
it_comes_back = (refl, refl, refl, refl)

an_open_table_is_not_closed : ¬ (Registers one_registered 6 60 4 (Err (TableClosed, 60, 4)) one_registered)
an_open_table_is_not_closed is = let fault = is.0 in absurd cc

its_job_is_given_out : Takes two_registered 6 (Some (60, 4)) one_registered
its_job_is_given_out = (refl, ((λ m. first_out 6 (60, 4) ((5, (50, 3)) ∷ []) refl m), refl))

its_job_is_not_left_there : ¬ (Takes two_registered 6 (Some (60, 4)) two_registered)
its_job_is_not_left_there is = let still = is.1.0 6 in absurd cc

no_other_objects_job_is_given_out : (left : Registry ℕ ℕ) → ¬ (Takes two_registered 6 (Some (50, 3)) left)
no_other_objects_job_is_given_out left is =
    let given : 3 ≡ 4 = ap (λ (kept : ℕ × ℕ). kept.1) (same_Some (50, 3) (60, 4) is.0) in absurd (omega (arith, given))

any_job_is_told_with_its_object : TakesAny two_registered (Some (6, 60, 4)) one_registered
any_job_is_told_with_its_object = (its_job_is_given_out, refl)

it_is_not_empty_while_one_is_registered : ¬ (TakesAny one_registered None one_registered)
it_is_not_empty_while_one_is_registered is = let none = is.0 in absurd cc

object_5_has_a_job : FindsFirst one_registered (Some 5)
object_5_has_a_job = refl

object_6_has_none : ¬ (FindsFirst one_registered (Some 6))
object_6_has_none is = true≢false (sym is)
