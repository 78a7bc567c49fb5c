-- Worked traces, as rows.
use Rattle.ref_base.proofs.Common.{ℕ, List, [], ◌∷◌, ◌++◌, Done, NoMemory, Some, Config, Weak, Normal, Own, Cycle}
use Rattle.ref_base.proofs.Common.{Mutator, Worker, GreyLeft}
use Rattle.ref_base.proofs.Common.{HandEmpty, BadField, NoSuchActor, NotAReference, WrongPhase, Step, Reply, Row}
use Rattle.ref_base.specs.declared.fault.Fault.TheVariants.{BadQueue, EmptySlot, HandFull, MovesLeft, NoRoom}
use Rattle.ref_base.specs.declared.fault.Fault.TheVariants.{AddressesSpent, BadConfig}
use Rattle.ref_base.specs.Outs.{Outs}
use Rattle.ref_base.specs.declared.out.Done.TheVariants as done
use Rattle.ref_base.specs.declared.strength.Strength.TheVariants.{Soft}
use Rattle.ref_base.specs.declared.span_rule.SpanRule.TheVariants.{Fixed, Scaled}
use Rattle.ref_base.specs.declared.plain_step.PlainStep.TheVariants as plain
use Rattle.ref_base.specs.declared.step.Step.TheVariants as steps
use Rattle.ref_base.specs.declared.reply.Reply.TheVariants as replies

abbrev pub row : Step → Reply → Row
row step reply = record { step = step; reply = reply }

-- one mutator, one queue, eight cells, and this many workers
abbrev pub config_of : ℕ → Config
config_of workers = record { mutators = 1; workers = workers; queues = 1; cells = 8; span = 10; rule = Fixed }

-- the same, where the span is scaled by the cells that are free
abbrev pub scaled_config_of : ℕ → Config
scaled_config_of workers = record { mutators = 1; workers = workers; queues = 1; cells = 8; span = 10; rule = Scaled }

-- config 1 1 1 8 10
abbrev pub two_enqueued_in_order : List Row
two_enqueued_in_order =
    row (steps.Plain (plain.New 0 0 0)) (replies.Object 1) ∷
    row (steps.Plain (plain.Refer 0 Weak 1 0 (Some 0) 0)) (replies.Object 2) ∷
    row (steps.Plain (plain.Refer 0 Weak 2 0 (Some 0) 0)) (replies.Object 3) ∷
    row (steps.Unhook 0 1) (replies.Notice 2 0 Own) ∷
    row (steps.Put (Mutator 0)) (replies.Added 0) ∷
    row (steps.Unhook 0 2) (replies.Notice 3 0 Own) ∷
    row (steps.Put (Mutator 0)) (replies.Added 1) ∷
    row (steps.Poll 0 0) (replies.Took 2) ∷
    row (steps.Release (Mutator 0)) replies.Done ∷
    row (steps.Poll 0 0) (replies.Took 3) ∷
    row (steps.Release (Mutator 0)) replies.Done ∷
    row (steps.Poll 0 0) replies.Empty ∷
    []

-- config 1 1 1 8 10
abbrev pub death_reported_after_a_cycle : List Row
death_reported_after_a_cycle =
    row (steps.Plain (plain.New 0 0 0)) (replies.Object 1) ∷
    row (steps.Plain (plain.Refer 0 Weak 1 0 (Some 0) 0)) (replies.Object 2) ∷
    row (steps.Plain (plain.Drop 0 0)) replies.Done ∷
    row (steps.Plain (plain.Begin 5 Normal)) (replies.Cycle 1) ∷
    row (steps.Plain (plain.Scan 0)) (replies.Scanned 2) ∷
    row (steps.Plain (plain.Scan 0)) replies.Nothing ∷
    row (steps.Plain plain.EndMark) (replies.Doomed 1) ∷
    row (steps.Plain (plain.ClearNext 0)) (replies.Cleared 2) ∷
    row (steps.Plain plain.EndClear) replies.Done ∷
    row (steps.Hand 0) (replies.Notice 2 0 (Cycle 1 0)) ∷
    row (steps.Put (Worker 0)) (replies.Added 0) ∷
    row (steps.Poll 0 0) (replies.Took 2) ∷
    row (steps.Adopt 0 2) (replies.Object 2) ∷
    []

-- config 1 1 1 8 10
abbrev pub get_keeps_the_referent : List Row
get_keeps_the_referent =
    row (steps.Plain (plain.New 0 0 0)) (replies.Object 1) ∷
    row (steps.Plain (plain.Refer 0 Weak 1 0 (Some 0) 0)) (replies.Object 2) ∷
    row (steps.Plain (plain.Drop 0 0)) replies.Done ∷
    row (steps.Plain (plain.Begin 5 Normal)) (replies.Cycle 1) ∷
    row (steps.Plain (plain.Scan 0)) (replies.Scanned 2) ∷
    row (steps.Plain (plain.Get 0 3 1)) (replies.Object 1) ∷
    row (steps.Plain plain.EndMark) (replies.Refused GreyLeft) ∷
    row (steps.Plain (plain.Scan 0)) (replies.Scanned 1) ∷
    row (steps.Plain (plain.Scan 0)) replies.Nothing ∷
    row (steps.Plain plain.EndMark) (replies.Doomed 0) ∷
    row (steps.Plain (plain.ClearNext 0)) (replies.Kept 2) ∷
    row (steps.Plain (plain.ClearNext 0)) replies.Nothing ∷
    []

-- config 1 2 1 8 10: two workers cleared three references
abbrev pub two_workers_cleared : List Row
two_workers_cleared =
    row (steps.Plain (plain.New 0 0 0)) (replies.Object 1) ∷
    row (steps.Plain (plain.Refer 0 Weak 1 0 (Some 0) 0)) (replies.Object 2) ∷
    row (steps.Plain (plain.New 0 0 0)) (replies.Object 3) ∷
    row (steps.Plain (plain.Refer 0 Weak 2 0 (Some 0) 0)) (replies.Object 4) ∷
    row (steps.Plain (plain.New 0 0 0)) (replies.Object 5) ∷
    row (steps.Plain (plain.Refer 0 Weak 3 0 (Some 0) 0)) (replies.Object 6) ∷
    row (steps.Plain (plain.Drop 0 0)) replies.Done ∷
    row (steps.Plain (plain.Begin 1 Normal)) (replies.Cycle 1) ∷
    row (steps.Plain (plain.Scan 0)) (replies.Scanned 2) ∷
    row (steps.Plain (plain.Scan 1)) (replies.Scanned 4) ∷
    row (steps.Plain (plain.Scan 0)) (replies.Scanned 6) ∷
    row (steps.Plain plain.EndMark) (replies.Doomed 3) ∷
    row (steps.Plain (plain.ClearNext 1)) (replies.Cleared 4) ∷
    row (steps.Plain (plain.ClearNext 0)) (replies.Cleared 2) ∷
    row (steps.Plain (plain.ClearNext 0)) (replies.Cleared 6) ∷
    row (steps.Plain plain.EndClear) replies.Done ∷
    []

abbrev pub two_workers_in_clearing_order : List Row
two_workers_in_clearing_order =
    two_workers_cleared ++
    row (steps.Hand 0) (replies.Notice 2 0 (Cycle 1 0)) ∷
    row (steps.Hand 1) (replies.Notice 4 0 (Cycle 1 1)) ∷
    row (steps.Put (Worker 0)) (replies.Added 0) ∷
    row (steps.Hand 0) (replies.Notice 6 0 (Cycle 1 0)) ∷
    row (steps.Put (Worker 0)) (replies.Added 1) ∷
    row (steps.Put (Worker 1)) (replies.Added 2) ∷
    row (steps.Poll 0 0) (replies.Took 2) ∷
    row (steps.Release (Mutator 0)) replies.Done ∷
    row (steps.Poll 0 0) (replies.Took 6) ∷
    row (steps.Release (Mutator 0)) replies.Done ∷
    row (steps.Poll 0 0) (replies.Took 4) ∷
    []

-- what became of a batch of which so many were put in before
abbrev pub outs : ℕ → List Done → Outs
outs before ds = record { before = before; done = ds }

-- the same, handed on, put in and polled at once: the program unhooks one of the references first
abbrev pub two_workers_by_batches : List Row
two_workers_by_batches =
    two_workers_cleared ++
    row (steps.Hands 0 32) (replies.Notices (2 ∷ 6 ∷ []) 0 1 0) ∷
    row (steps.Unhook 0 1) (replies.Notice 2 0 Own) ∷
    row (steps.Put (Mutator 0)) (replies.Added 0) ∷
    row (steps.Puts (Worker 0)) (replies.Outs (outs 1 (done.Already ∷ done.Added ∷ []))) ∷
    row (steps.Put (Worker 0)) replies.Already ∷
    row (steps.Release (Worker 0)) replies.Done ∷
    row (steps.Put (Worker 0)) (replies.Refused HandEmpty) ∷
    row (steps.Hands 1 1) (replies.Notices (4 ∷ []) 0 1 1) ∷
    row (steps.Puts (Worker 1)) (replies.Outs (outs 2 (done.Added ∷ []))) ∷
    row (steps.Polls 0 0 0) (replies.Refused BadConfig) ∷
    row (steps.Polls 0 0 2) (replies.TookSome (2 ∷ 6 ∷ [])) ∷
    row (steps.Polls 0 0 2) (replies.Refused HandFull) ∷
    row (steps.Release (Mutator 0)) replies.Done ∷
    row (steps.Adopt 0 4) (replies.Object 6) ∷
    row (steps.Polls 0 0 2) (replies.TookSome (4 ∷ [])) ∷
    row (steps.Release (Mutator 0)) replies.Done ∷
    row (steps.Polls 0 0 2) replies.Empty ∷
    []

-- memory is wanting for the second of a batch: a later put of what is left adds it
abbrev pub memory_wants_within_a_batch : List Row
memory_wants_within_a_batch =
    two_workers_cleared ++
    row (steps.Hands 0 2) (replies.Notices (2 ∷ 6 ∷ []) 0 1 0) ∷
    row (steps.Puts (Worker 0)) (replies.Outs (outs 0 (done.Added ∷ done.Refused NoMemory ∷ []))) ∷
    row (steps.Puts (Worker 0)) (replies.Outs (outs 1 (done.Added ∷ []))) ∷
    row (steps.Puts (Worker 0)) (replies.Refused HandEmpty) ∷
    []

-- config 1 1 1 8 10
abbrev pub soft_kept_within_the_span : List Row
soft_kept_within_the_span =
    row (steps.Plain (plain.Begin 90 Normal)) (replies.Cycle 1) ∷
    row (steps.Plain plain.EndMark) (replies.Doomed 0) ∷
    row (steps.Plain plain.EndClear) replies.Done ∷
    row (steps.Plain plain.EndSweep) replies.Done ∷
    row (steps.Plain (plain.New 0 0 0)) (replies.Object 1) ∷
    row (steps.Plain (plain.Refer 0 Soft 1 0 (Some 0) 0)) (replies.Object 2) ∷
    row (steps.Plain (plain.Drop 0 0)) replies.Done ∷
    row (steps.Plain (plain.Begin 100 Normal)) (replies.Cycle 2) ∷
    row (steps.Plain (plain.Scan 0)) (replies.Scanned 2) ∷
    row (steps.Plain (plain.Scan 0)) (replies.Scanned 1) ∷
    row (steps.Plain plain.EndMark) (replies.Doomed 0) ∷
    row (steps.Plain plain.EndClear) replies.Done ∷
    row (steps.Plain plain.EndSweep) replies.Done ∷
    row (steps.Plain (plain.Begin 101 Normal)) (replies.Cycle 3) ∷
    row (steps.Plain (plain.Scan 0)) (replies.Scanned 2) ∷
    row (steps.Plain plain.EndMark) (replies.Doomed 1) ∷
    row (steps.Plain (plain.ClearNext 0)) (replies.Cleared 2) ∷
    []

-- config 1 1 1 8 10, where the span is scaled: 6 cells are free as the first cycle begins, which makes it 7; and 5 as
-- the second does, which makes it 6
abbrev pub soft_scaled_by_what_is_free : List Row
soft_scaled_by_what_is_free =
    row (steps.Plain (plain.New 0 0 0)) (replies.Object 1) ∷
    row (steps.Plain (plain.Refer 0 Soft 1 0 (Some 0) 0)) (replies.Object 2) ∷
    row (steps.Plain (plain.Drop 0 0)) replies.Done ∷
    row (steps.Plain (plain.Begin 7 Normal)) (replies.Cycle 1) ∷
    row (steps.Plain (plain.New 0 2 0)) (replies.Object 3) ∷
    row (steps.Plain (plain.Scan 0)) (replies.Scanned 2) ∷
    row (steps.Plain (plain.Scan 0)) (replies.Scanned 1) ∷
    row (steps.Plain plain.EndMark) (replies.Doomed 0) ∷
    row (steps.Plain plain.EndClear) replies.Done ∷
    row (steps.Plain plain.EndSweep) replies.Done ∷
    row (steps.Plain (plain.Begin 8 Normal)) (replies.Cycle 2) ∷
    row (steps.Plain (plain.Scan 0)) (replies.Scanned 2) ∷
    row (steps.Plain (plain.Scan 0)) (replies.Scanned 3) ∷
    row (steps.Plain (plain.Scan 0)) replies.Nothing ∷
    row (steps.Plain plain.EndMark) (replies.Doomed 1) ∷
    row (steps.Plain (plain.ClearNext 0)) (replies.Cleared 2) ∷
    []

-- config 1 2 1 8 10
abbrev pub cleared_for_every_mutator_at_once : List Row
cleared_for_every_mutator_at_once =
    row (steps.Plain (plain.New 0 0 0)) (replies.Object 1) ∷
    row (steps.Plain (plain.Refer 0 Weak 1 0 (Some 0) 0)) (replies.Object 2) ∷
    row (steps.Plain (plain.Refer 0 Soft 2 0 (Some 0) 0)) (replies.Object 3) ∷
    row (steps.Plain (plain.Drop 0 0)) replies.Done ∷
    row (steps.Plain (plain.Begin 11 Normal)) (replies.Cycle 1) ∷
    row (steps.Plain (plain.Scan 0)) (replies.Scanned 2) ∷
    row (steps.Plain (plain.Scan 1)) (replies.Scanned 3) ∷
    row (steps.Plain plain.EndMark) (replies.Doomed 1) ∷
    row (steps.Plain (plain.ClearNext 0)) (replies.Cleared 2) ∷
    row (steps.Plain (plain.Get 0 3 2)) replies.Null ∷
    row (steps.Unhook 0 2) (replies.Notice 3 0 Own) ∷
    row (steps.Plain (plain.ClearNext 1)) (replies.Cleared 3) ∷
    row (steps.Plain plain.EndClear) replies.Done ∷
    row (steps.Hand 1) (replies.Notice 3 0 (Cycle 1 1)) ∷
    row (steps.Put (Worker 1)) (replies.Added 0) ∷
    row (steps.Put (Mutator 0)) replies.Already ∷
    []

-- config 1 1 1 8 10
abbrev pub order_of_refusals : List Row
order_of_refusals =
    row (steps.Put (Mutator 0)) (replies.Refused HandEmpty) ∷
    row (steps.Plain (plain.New 0 0 9)) (replies.Refused BadField) ∷
    row (steps.Plain (plain.New 0 16 0)) (replies.Refused NoSuchActor) ∷
    row (steps.Plain (plain.New 1 0 0)) (replies.Refused NoSuchActor) ∷
    row (steps.Plain (plain.Refer 0 Weak 1 0 (Some 0) 0)) (replies.Refused EmptySlot) ∷
    row (steps.Plain (plain.New 0 0 8)) (replies.Object 1) ∷
    row (steps.Plain (plain.Get 0 1 0)) (replies.Refused NotAReference) ∷
    row (steps.Plain (plain.Load 0 1 0 8)) (replies.Refused BadField) ∷
    row (steps.Plain (plain.Refer 0 Weak 1 0 (Some 1) 0)) (replies.Refused BadQueue) ∷
    row (steps.Plain (plain.Refer 0 Weak 1 0 (Some 0) 0)) (replies.Object 2) ∷
    row (steps.Unhook 0 1) (replies.Notice 2 0 Own) ∷
    row (steps.Poll 0 0) (replies.Refused HandFull) ∷
    row (steps.Plain (plain.Scan 0)) (replies.Refused WrongPhase) ∷
    []

-- config 1 1 1 8 10
abbrev pub first_leaving_edge : List Row
first_leaving_edge =
    row (steps.Plain (plain.New 0 0 0)) (replies.Object 1) ∷
    row (steps.Plain (plain.Refer 0 Soft 1 0 (Some 0) 0)) (replies.Object 2) ∷
    row (steps.Plain (plain.Refer 0 Weak 2 1 (Some 0) 0)) (replies.Object 3) ∷
    row (steps.Plain (plain.Drop 0 0)) replies.Done ∷
    row (steps.Plain (plain.Drop 0 1)) replies.Done ∷
    row (steps.Plain (plain.Begin 11 Normal)) (replies.Cycle 1) ∷
    row (steps.Plain (plain.Scan 0)) (replies.Scanned 3) ∷
    row (steps.Plain (plain.Scan 0)) replies.Nothing ∷
    row (steps.Plain plain.EndMark) (replies.Doomed 2) ∷
    row (steps.Plain (plain.ClearNext 0)) (replies.Cleared 3) ∷
    row (steps.Plain (plain.ClearNext 0)) replies.Nothing ∷
    row (steps.Plain plain.EndClear) replies.Done ∷
    row (steps.Hand 0) (replies.Notice 3 0 (Cycle 1 0)) ∷
    row (steps.Plain (plain.Sweep 0)) (replies.Swept 2) ∷
    row (steps.Put (Worker 0)) (replies.Added 0) ∷
    row (steps.Hand 0) replies.Nothing ∷
    []

-- config 1 1 1 8 10: of pages the abstract collector knows nothing, so it allows this in a heap of any size
abbrev pub objects_move_once_a_cycle : List Row
objects_move_once_a_cycle =
    row (steps.Plain (plain.New 0 0 1)) (replies.Object 1) ∷
    row (steps.Plain (plain.New 0 1 0)) (replies.Object 2) ∷
    row (steps.Plain (plain.Store 0 0 0 1)) replies.Done ∷
    row (steps.Plain plain.Select) (replies.Refused NoRoom) ∷
    row (steps.Plain plain.Select) (replies.Selected 2) ∷
    row (steps.Plain (plain.Begin 5 Normal)) (replies.Refused WrongPhase) ∷
    row (steps.Plain (plain.Load 0 2 0 0)) (replies.Object 2) ∷
    row (steps.Plain (plain.New 0 3 0)) (replies.Object 3) ∷
    row (steps.Plain plain.EndMove) (replies.Refused MovesLeft) ∷
    row (steps.Plain (plain.MoveNext 0)) (replies.Moved 1) ∷
    row (steps.Plain (plain.MoveNext 0)) replies.Nothing ∷
    row (steps.Plain plain.EndMove) replies.Done ∷
    row (steps.Plain plain.Select) (replies.Refused WrongPhase) ∷
    row (steps.Plain (plain.MoveNext 0)) (replies.Refused WrongPhase) ∷
    row (steps.Plain (plain.Begin 5 Normal)) (replies.Cycle 1) ∷
    row (steps.Plain (plain.Scan 0)) (replies.Scanned 1) ∷
    row (steps.Plain (plain.Scan 0)) (replies.Scanned 2) ∷
    row (steps.Plain (plain.Scan 0)) (replies.Scanned 3) ∷
    row (steps.Plain plain.EndMark) (replies.Doomed 0) ∷
    row (steps.Plain plain.EndClear) replies.Done ∷
    row (steps.Plain plain.EndSweep) replies.Done ∷
    row (steps.Plain plain.Select) (replies.Refused AddressesSpent) ∷
    row (steps.Plain plain.Select) (replies.Selected 3) ∷
    []
