-- What a worked history of a heap tells, as one reads it off its entries: three seats, two workers, and two notices of
-- one worker that are out at once.
use Rattle.ref_share.proofs.Common.{◌≡◌, ℕ, List, [], ◌∷◌, Some, refl, NamedStep, scanned_in_cycle, clearing_order}
use Rattle.ref_share.proofs.Common.{graph_of, Cycle, Config, HoldName, Reply, Row, Step, entry, HeapEntry, rows_of}
use Rattle.ref_share.proofs.Common.{heap_replayed, all_handed_on, handed_in, HeldNotice, ◌++◌}
use Rattle.std.proofs.Common.{take, drop}
use Rattle.ref_share.specs.HeapTraces.{handed_by}
use Rattle.ref_base.specs.declared.strength.Strength.TheVariants.{Weak}
use Rattle.ref_base.specs.declared.urgency.Urgency.TheVariants.{Normal}
use Rattle.ref_base.proofs.WorkedTraces.{config_of}
use Rattle.ref_base.specs.declared.heap_step.HeapStep.TheVariants as heap
use Rattle.ref_base.specs.declared.reply.Reply.TheVariants as told
use Rattle.ref_base.specs.declared.plain_step.PlainStep.TheVariants as plain
use Rattle.ref_base.specs.declared.step.Step.TheVariants as steps
use Rattle.ref_world.specs.declared.heap_machine.HeapReply.TheVariants as replies

-- a hold of the heap with number 7
abbrev hold : ℕ → HoldName
hold n = record { heap_no = 7; object = n }

-- a call that gives nothing out
abbrev tells : ℕ → NamedStep → Reply → HeapEntry
tells by step reply = entry by step (replies.Told reply)

-- the notice of a reference that worker 0 cleared, for queue 0
abbrev held : ℕ → HeldNotice
held n = record { hold = hold n; queue = 0; cause = Cycle 1 0 }

-- a worker's hand that gives the notice of a reference, for queue 0
abbrev hands : ℕ → ℕ → ℕ → HeapEntry
hands by k n = entry by (heap.Hand k) (replies.Notice (record { hold = hold n; queue = 0; cause = Cycle 1 k }))

abbrev history : List HeapEntry
history =
    tells 0 (heap.Plain (plain.New 0 0 0)) (told.Object 1) ∷
    tells 0 (heap.Plain (plain.Refer 0 Weak 1 0 (Some 0) 0)) (told.Object 2) ∷
    tells 0 (heap.Plain (plain.New 0 0 0)) (told.Object 3) ∷
    tells 0 (heap.Plain (plain.Refer 0 Weak 2 0 (Some 0) 0)) (told.Object 4) ∷
    tells 0 (heap.Plain (plain.New 0 0 0)) (told.Object 5) ∷
    tells 0 (heap.Plain (plain.Refer 0 Weak 3 0 (Some 0) 0)) (told.Object 6) ∷
    entry 0 (heap.Hold 0 3) (replies.Held (hold 6)) ∷
    tells 0 (heap.Plain (plain.Drop 0 0)) told.Done ∷
    tells 0 (heap.Plain (plain.Drop 0 3)) told.Done ∷
    tells 1 (heap.Plain (plain.Begin 5 Normal)) (told.Cycle 1) ∷
    tells 1 (heap.Plain (plain.Scan 0)) (told.Scanned 2) ∷
    tells 2 (heap.Plain (plain.Scan 1)) (told.Scanned 4) ∷
    tells 1 (heap.Plain (plain.Scan 0)) (told.Scanned 6) ∷
    tells 1 (heap.Plain plain.EndMark) (told.Doomed 3) ∷
    tells 2 (heap.Plain (plain.ClearNext 1)) (told.Cleared 4) ∷
    tells 1 (heap.Plain (plain.ClearNext 0)) (told.Cleared 2) ∷
    tells 1 (heap.Plain (plain.ClearNext 0)) (told.Cleared 6) ∷
    tells 1 (heap.Plain plain.EndClear) told.Done ∷
    hands 1 0 2 ∷
    hands 1 0 6 ∷
    hands 2 1 4 ∷
    tells 0 (heap.Adopt 0 4 (hold 6)) (told.Object 6) ∷
    tells 1 (heap.Release (hold 2)) told.Done ∷
    []

-- ---- its rows

abbrev row : Step → Reply → Row
row step reply = record { step = step; reply = reply }

the_hold_the_adopt_and_the_release_tell_no_row : rows_of history ≡
    row (steps.Plain (plain.New 0 0 0)) (told.Object 1) ∷
    row (steps.Plain (plain.Refer 0 Weak 1 0 (Some 0) 0)) (told.Object 2) ∷
    row (steps.Plain (plain.New 0 0 0)) (told.Object 3) ∷
    row (steps.Plain (plain.Refer 0 Weak 2 0 (Some 0) 0)) (told.Object 4) ∷
    row (steps.Plain (plain.New 0 0 0)) (told.Object 5) ∷
    row (steps.Plain (plain.Refer 0 Weak 3 0 (Some 0) 0)) (told.Object 6) ∷
    row (steps.Plain (plain.Drop 0 0)) told.Done ∷
    row (steps.Plain (plain.Drop 0 3)) told.Done ∷
    row (steps.Plain (plain.Begin 5 Normal)) (told.Cycle 1) ∷
    row (steps.Plain (plain.Scan 0)) (told.Scanned 2) ∷
    row (steps.Plain (plain.Scan 1)) (told.Scanned 4) ∷
    row (steps.Plain (plain.Scan 0)) (told.Scanned 6) ∷
    row (steps.Plain plain.EndMark) (told.Doomed 3) ∷
    row (steps.Plain (plain.ClearNext 1)) (told.Cleared 4) ∷
    row (steps.Plain (plain.ClearNext 0)) (told.Cleared 2) ∷
    row (steps.Plain (plain.ClearNext 0)) (told.Cleared 6) ∷
    row (steps.Plain plain.EndClear) told.Done ∷
    row (steps.Hand 0) (told.Notice 2 0 (Cycle 1 0)) ∷
    row (steps.Hand 0) (told.Notice 6 0 (Cycle 1 0)) ∷
    row (steps.Hand 1) (told.Notice 4 0 (Cycle 1 1)) ∷
    []
the_hold_the_adopt_and_the_release_tell_no_row = refl

all_three_were_scanned : scanned_in_cycle (rows_of history) ≡ 2 ∷ 4 ∷ 6 ∷ []
all_three_were_scanned = refl

-- ---- its replay

abbrev config : Config
config = config_of 2

-- at the mark's end object 6 is held, though no slot names it
what_is_held_is_a_root : (graph_of (heap_replayed config 7 (take 13 history))).roots ≡ 2 ∷ 4 ∷ 6 ∷ []
what_is_held_is_a_root = refl

each_notice_is_a_hold : (heap_replayed config 7 (take 21 history)).heap.holds ≡ 2 ∷ 4 ∷ 6 ∷ 6 ∷ []
each_notice_is_a_hold = refl

an_adopt_and_a_release_take_one_back : (heap_replayed config 7 history).heap.holds ≡ 4 ∷ 6 ∷ []
an_adopt_and_a_release_take_one_back = refl

-- ---- what it gives

all_three_were_handed_on : all_handed_on history ≡ 2 ∷ 6 ∷ 4 ∷ []
all_three_were_handed_on = refl

worker_0_handed_two_on : handed_in 0 0 history ≡ 2 ∷ 6 ∷ []
worker_0_handed_two_on = refl

as_it_had_cleared_them : clearing_order (rows_of history) 0 0 ≡ 2 ∷ 6 ∷ []
as_it_had_cleared_them = refl

worker_1_handed_one_on : handed_in 1 0 history ≡ 4 ∷ []
worker_1_handed_one_on = refl

nothing_was_handed_on_for_another_queue : handed_in 0 1 history ≡ []
nothing_was_handed_on_for_another_queue = refl

-- ---- by a batch

-- worker 0 hands both on at once, in place of one after the other
abbrev at_once : List HeapEntry
at_once =
    take 18 history ++
    entry 1 (heap.Hands 0 32 []) (replies.Handed (told.Notices (2 ∷ 6 ∷ []) 0 1 0)
    (held 2 ∷ held 6 ∷ [])) ∷
    hands 2 1 4 ∷
    []

one_row_tells_both : drop 17 (rows_of at_once) ≡
    row (steps.Hands 0 32) (told.Notices (2 ∷ 6 ∷ []) 0 1 0) ∷
    row (steps.Hand 1) (told.Notice 4 0 (Cycle 1 1)) ∷
    []
one_row_tells_both = refl

each_of_a_batch_is_a_hold : (heap_replayed config 7 at_once).heap.holds ≡ 2 ∷ 4 ∷ 6 ∷ 6 ∷ []
each_of_a_batch_is_a_hold = refl

both_were_handed_on : all_handed_on at_once ≡ 2 ∷ 6 ∷ 4 ∷ []
both_were_handed_on = refl

worker_0_handed_them_on_at_once : handed_in 0 0 at_once ≡ 2 ∷ 6 ∷ []
worker_0_handed_them_on_at_once = refl

-- what stood in the batch before is not handed on again
what_stood_there_stays : handed_by (heap.Hands 0 31 (held 2 ∷ []))
    (replies.Handed (told.Notices (6 ∷ []) 0 1 0) (held 2 ∷ held 6 ∷ [])) ≡ 6 ∷ []
what_stood_there_stays = refl
