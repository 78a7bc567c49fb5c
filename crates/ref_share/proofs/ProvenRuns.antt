-- The history of a heap: each notice that is given comes from the entries up to it.
use Rattle.ref_share.proofs.Common.{arith, ◌≡◌, ℕ, List, [], ◌∷◌, ◌++◌, Option, Some, None, inl, inr, refl, sym, ap}
use Rattle.ref_share.proofs.Common.{◌∙◌, subst, slice_index_or, AllByRecursion, append-nil, State, NamedStep, Pending}
use Rattle.ref_share.proofs.Common.{World, new_queue, Config, Reply, Row, Step, as_notice}
use Rattle.ref_share.proofs.Common.{told_reply, IsHeapTurn, HeapEntry, IsHeapRun, first_state_of, world_step, row_of}
use Rattle.ref_share.proofs.Common.{rows_of, IsHeapRow, IsRow, with_handed, Mutator, Worker, HeapAnswer, told_notices}
use Rattle.ref_share.proofs.Common.{notices_given, notices_of_hand, true, Fault}
use Rattle.ref_base.specs.Provenance.{IsProven, cycle_after}
use Rattle.ref_base.specs.QueueLists.{Lists}
use Rattle.ref_base.specs.Refusals.{refusal}
use Rattle.ref_base.specs.Worlds.{Notice, SameOthers, notice_from}
use Rattle.ref_base.specs.Provenance.{gives_notices}
use Rattle.ref_base.proofs.CarryRows.{first_carries}
use Rattle.ref_base.proofs.GivenNotices.{answered}
use Rattle.ref_base.proofs.HeapRowLaws.{row_others}
use Rattle.ref_base.proofs.HeapTurns.{IsRefusedOrAccepted, heap_kind}
use Rattle.ref_base.proofs.ProvenTraces.{IsMade, Known, cycle_from, cycle_last, lifted, row_known}
use Rattle.ref_base.proofs.ReplayKeeps.{handed_keeps}
use Rattle.ref_base.proofs.SoundWorlds.{first_hand}
use Rattle.ref_turn.proofs.Logs.{leads_cut}
use Rattle.ref_share.proofs.HandedNotices.{all_given, one_is_told, some_are_told}
use Rattle.ref_share.proofs.HeapRows.{rows_last, HandsFree, still_free, told_row}
use Rattle.ref_share.proofs.HeapRuns.{run_holds}
use Rattle.ref_base.specs.declared.heap_step.HeapStep.TheVariants as heap
use Rattle.ref_base.specs.declared.plain_step.PlainStep.TheVariants as plain
use Rattle.ref_base.specs.declared.reply.Reply.TheVariants as told
use Rattle.ref_base.specs.declared.step.Step.TheVariants as steps
use Rattle.ref_world.specs.declared.heap_machine.HeapReply.TheVariants as replies

-- ---- a call that tells no row

none_known : (rows : List Row) (a b : State) (asked : NamedStep) (reply : Reply) → Known rows a.world
    → world_step asked ≡ None → IsRefusedOrAccepted a asked reply b → Known rows b.world
none_known rows a b asked reply known is (inl of) = subst (λ (s : State). Known rows s.world) (sym of.2) known
none_known rows a b asked reply known is (inr of) = grind arith

-- ---- a call that tells one

-- it is a row of a world; and then its hands are emptied
some_known : (rows : List Row) (a b : State) (step : Step) (reply : Reply) → Known rows a.world
    → IsRow a (record { step = step; reply = reply }) (with_handed b step reply) → SameOthers a.world b.world
    → HandsFree b.world → Known (rows ++ record { step = step; reply = reply } ∷ []) b.world
some_known rows a b step reply known row others free =
    let last : Row = record { step = step; reply = reply } in
    let P : Notice → Type 0 = IsProven (rows ++ last ∷ []) in
    let next = row_known rows a last (with_handed b step reply) known row in
    let keeps = handed_keeps b.world step reply in
    record {
      objects = subst (AllByRecursion (IsMade (rows ++ last ∷ []))) (ap (λ (w : World). w.heap.objects) keeps)
          next.objects;
      pendings = λ k.
          subst (λ (lists : List (List Pending)). AllByRecursion (λ p. P (notice_from k p)) (slice_index_or lists k []))
          (ap (λ (w : World). w.pending) keeps) (next.pendings k);
      of_mutators = λ m. subst (AllByRecursion P) (sym (free (Mutator m))) tt;
      of_workers = λ k. subst (AllByRecursion P) (sym (free (Worker k))) tt;
      stands = λ q.
          subst (λ (lists : List (Lists Notice)). AllByRecursion P (slice_index_or lists q (new_queue q)).stands)
          (sym others.queues) ((lifted rows a last known).stands q);
      goes_on = next.goes_on ∙ ap (λ (w : World). w.cycle) keeps;
    }

-- ---- histories

-- hands are empty, and each object and each notice comes from the rows
pub record IsFrom (past : List HeapEntry) (x : State) : Type 0 where
  pub free : HandsFree x.world
  pub known : Known (rows_of past) x.world

-- a refused row begins no cycle
refused_cycle : (cycle : ℕ) (step : Step) (fault : Fault) → cycle_after cycle step (told.Refused fault) ≡ cycle
refused_cycle cycle (steps.Plain (plain.Begin now how)) fault = refl
refused_cycle cycle step fault = refl

refused_known : (rows : List Row) (a : State) (step : Step) (reply : Reply) (fault : Fault)
    → reply ≡ told.Refused fault → Known rows a.world
    → Known (rows ++ record { step = step; reply = reply } ∷ []) a.world
refused_known rows a step reply fault is known =
    let last : Row = record { step = step; reply = reply } in
    let more = lifted rows a last known in
    record {
      objects = more.objects;
      pendings = more.pendings;
      of_mutators = more.of_mutators;
      of_workers = more.of_workers;
      stands = more.stands;
      goes_on = cycle_last 0 rows last ∙ ap (cycle_after (cycle_from 0 rows) step) is
          ∙ refused_cycle (cycle_from 0 rows) step fault ∙ known.goes_on;
    }

told_known : (rows : List Row) (a b : State) (asked : NamedStep) (reply : Reply) (o : Option Step)
    → world_step asked ≡ o → HandsFree a.world → Known rows a.world → IsHeapRow a asked reply b
    → Known (rows ++ row_of o reply) b.world
told_known rows a b asked reply None is free known row = search (append-nil, none_known, heap_kind)
told_known rows a b asked reply (Some step) is free known row =
    elim (heap_kind a b asked reply row) [
      | inl of ↦
          subst (λ (s : State). Known (rows ++ record { step = step; reply = reply } ∷ []) s.world) (sym of.2)
          (refused_known rows a step reply of.0 of.1 known)
      | inr of ↦
          some_known rows a b step reply known (told_row a b asked step reply is free of.0 of.1)
          (row_others a b asked reply row) (still_free a b asked reply free row)
    ]

call_from : (past : List HeapEntry) (x : State) (call : HeapEntry) (y : State) → IsFrom past x
    → IsHeapTurn x call.step call.reply y → IsFrom (past ++ call ∷ []) y
call_from past x call y is turn =
    let reply : Reply = told_reply call.reply in
    record {
      free = still_free x y call.step reply is.free turn.row;
      known = subst (λ (rs : List Row). Known rs y.world) (sym (rows_last past call))
          (told_known (rows_of past) x y call.step reply (world_step call.step) refl is.free
          is.known turn.row);
    }

first_from : (config : Config) (number : ℕ) → IsFrom [] (first_state_of config number)
first_from config number = search (first_hand, first_carries)

pub run_from : (config : Config) (number : ℕ) (calls : List HeapEntry) (last : State)
    → IsHeapRun config number calls last → IsFrom calls last
run_from config number calls last run =
    run_holds config number IsFrom (λ past x call y before is turn. call_from past x call y is turn)
    (first_from config number) calls last run

-- ---- what is given

-- a call that tells notices, and isn't refused
told_at : (rows : List Row) (x y : State) (asked : NamedStep) (step : Step) (reply : Reply)
    → gives_notices step ≡ true → world_step asked ≡ Some step → HandsFree x.world → Known rows x.world
    → IsHeapRow x asked reply y
    → AllByRecursion (IsProven (rows ++ record { step = step; reply = reply } ∷ [])) (told_notices reply)
told_at rows x y asked step reply gives is free known row =
    elim (heap_kind x y asked reply row) [
      | inl of ↦
          subst (λ (r : Reply). AllByRecursion (IsProven (rows ++ record { step = step; reply = reply } ∷ []))
          (told_notices r)) (sym of.1) tt
      | inr of ↦
          answered rows x (with_handed y step reply) step reply (refusal x step) gives known
          (told_row x y asked step reply is free of.0 of.1)
    ]

given_at : (rows : List Row) (x y : State) (step : NamedStep) (reply : HeapAnswer) → HandsFree x.world
    → Known rows x.world → IsHeapTurn x step reply y
    → AllByRecursion (λ notice. IsProven (rows ++ row_of (world_step step) (told_reply reply)) (as_notice notice))
    (notices_given step reply)
given_at rows x y (heap.Unhook m s) (replies.Notice notice) free known turn =
    told_at rows x y (heap.Unhook m s) (steps.Unhook m s) (told_reply (replies.Notice notice)) refl refl free known
    turn.row
given_at rows x y (heap.Hand k) reply free known turn =
    let step : NamedStep = heap.Hand k in
    let P : Notice → Type 0 = IsProven (rows ++ row_of (world_step step) (told_reply reply)) in
    all_given P (notices_of_hand step reply)
    (subst (AllByRecursion P) (sym (one_is_told x.world.heap.no k reply turn.gives))
    (told_at rows x y step (steps.Hand k) (told_reply reply) refl refl free known turn.row))
given_at rows x y (heap.Hands k max batch) reply free known turn =
    let step : NamedStep = heap.Hands k max batch in
    let P : Notice → Type 0 = IsProven (rows ++ row_of (world_step step) (told_reply reply)) in
    all_given P (notices_of_hand step reply)
    (subst (AllByRecursion P) (sym (some_are_told x.world.heap.no k max batch reply turn.gives))
    (told_at rows x y step (steps.Hands k max) (told_reply reply) refl refl free known turn.row))
given_at rows x y step reply free known turn = tt

pub given_proven : (config : Config) (number : ℕ) (front back : List HeapEntry) (call : HeapEntry) (last : State)
    → IsHeapRun config number (front ++ call ∷ back) last
    → AllByRecursion (λ notice. IsProven (rows_of (front ++ call ∷ [])) (as_notice notice))
    (notices_given call.step call.reply)
given_proven config number front back call last run =
    let parts = leads_cut IsHeapTurn front (call ∷ back) (first_state_of config number) last run in
    let is = run_from config number front parts.0 parts.1 in
    subst (λ (rs : List Row). AllByRecursion (λ notice. IsProven rs (as_notice notice))
    (notices_given call.step call.reply)) (sym (rows_last front call))
    (given_at (rows_of front) parts.0 parts.2.0 call.step call.reply is.free is.known parts.2.1)
