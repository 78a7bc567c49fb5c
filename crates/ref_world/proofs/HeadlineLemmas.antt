-- The headline's clauses, of every legal trace.
use Rattle.ref_world.proofs.Common.{arith, ◌≡◌, ℕ, List, [], ◌∷◌, ◌++◌, length, sym, ap, subst, ◌∙◌, State, first_state}
use Rattle.ref_world.proofs.Common.{Lists, enqueued, Notice, object_of, Config, Row, Core, Stands, core_queue_at}
use Rattle.ref_world.proofs.Common.{◌+◌, Some, Actor, Reply, Step, hand_of}
use Rattle.std.proofs.Common.{map}
use Rattle.std.specs.List.{AllByRecursion}
use Rattle.ref_base.specs.CollectorRows.{IsRun}
use Rattle.ref_base.specs.LegalTraces.{IsLegal}
use Rattle.ref_base.specs.MarkEnds.{IsAfterMark, AllAfterMarks}
use Rattle.ref_base.specs.Outs.{Outs}
use Rattle.ref_base.specs.Provenance.{IsCause, IsProven}
use Rattle.ref_base.specs.QueueRows.{put_into}
use Rattle.ref_base.specs.Replay.{replayed}
use Rattle.ref_base.specs.declared.cause.Cause.{Cause}
use Rattle.ref_base.specs.declared.out.Done.TheVariants.{Added}
use Rattle.ref_world.specs.Headline.{told_of_one, told_of_all, told_by_put}
use Rattle.ref_world.specs.Headline.{Adds, TakenThenStanding, QueuesTell, Positions, InClearingOrder, AtMostOnce}
use Rattle.ref_world.specs.Headline.{OwnQueue, OwnEnqueueCall, AfterAMarkEnded, NothingAfterClose, ScannedOnce}
use Rattle.ref_world.specs.HeapOfRows.{HeapTells}
use Rattle.ref_base.proofs.AddedRows.{legal_lists, added_position, outs_position}
use Rattle.ref_base.proofs.BatchParts.{all_added}
use Rattle.ref_base.proofs.ClearingTraces.{legal_in_order}
use Rattle.ref_base.proofs.LegalQueues.{legal_keeps_queue}
use Rattle.ref_base.proofs.MarkedTraces.{legal_marked}
use Rattle.ref_base.proofs.OneQueue.{one_queue}
use Rattle.ref_base.proofs.OutTraces.{legal_agrees, legal_others}
use Rattle.ref_base.proofs.ProvenTraces.{legal_proven}
use Rattle.ref_base.proofs.RunFronts.{legal_holds}
use Rattle.ref_base.proofs.LegalQueues.{run_sound}
use Rattle.ref_base.proofs.SoundWorlds.{IsOwn, first_sound}
use Rattle.ref_base.proofs.ScannedOnce.{legal_scanned_once}
use Rattle.ref_base.proofs.RunLaws.{front_is_legal}
use Rattle.ref_base.proofs.SameOthers.{same_hand}
use Rattle.ref_world.proofs.OneQueueHands.{OfOne, HandsOfOne, of_one_queue, row_of_one, none_of_one}
use Rattle.ref_world.proofs.QueueRows.{queue_is}
use Rattle.ref_base.specs.declared.reply.Reply.TheVariants as replies
use Rattle.ref_base.specs.declared.step.Step.TheVariants as steps

-- ---- the queues of the world that a trace leaves

module _ (config : Config) (rows : List Row) (last : Core) (b : State) (run : IsRun (first_state config) rows b)
    (stands : Stands last b) where
  pub queues_tell : QueuesTell rows last
  queues_tell = record {
    enqueued = λ q.
        ap (λ (l : Lists Notice). enqueued object_of l) (sym (queue_is last b q stands))
        ∙ (legal_lists config rows b q run).1;
    taken = λ q.
        ap (λ (l : Lists Notice). l.taken) (sym (queue_is last b q stands)) ∙ (legal_lists config rows b q run).0;
  }

  pub taken_then_standing : TakenThenStanding rows last
  taken_then_standing q =
      ap (λ ns. ns ++ map object_of (core_queue_at last q).stands) (sym (queues_tell.taken q)) ∙ queues_tell.enqueued q

  -- the heap as its rows give it
  pub heap_tells : HeapTells config rows last
  heap_tells = grind (arith, legal_agrees)

-- ---- the rows of a legal trace

-- what holds of all holds of one among them
of_one_among : {X : Type 0} (P : X → Type 0) (before : List X) (x : X) (later : List X)
    → AllByRecursion P (before ++ x ∷ later) → P x
of_one_among P [] x later all = all.0
of_one_among P (y ∷ before) x later all = of_one_among P before x later all.1

-- behind a legal trace, what holds of all that each hand holds
module _ (config : Config) (front : List Row) (who : Actor) (legal : IsLegal config front) where
  abbrev there : List Notice
  there = hand_of (replayed config front) who

  same_there : hand_of legal.0.world who ≡ there
  same_there = same_hand (replayed config front) legal.0.world who (legal_others config front legal.0 legal.1)

  all_proven : AllByRecursion (IsProven front) there
  all_proven =
      subst (AllByRecursion (IsProven front)) same_there ((legal_proven config front legal.0 legal.1).hands who)

  all_after_marks : AllAfterMarks config front there
  all_after_marks =
      subst (AllAfterMarks config front) same_there ((legal_marked config front legal.0 legal.1).hands who)

  all_of_one : OfOne there
  all_of_one =
      subst OfOne same_there
      (of_one_queue legal.0.world who
      (legal_holds config (λ past a. HandsOfOne a.world)
      (λ past a row b before is h.
      row_of_one a row b (run_sound (first_state config) past a (first_sound config) before) is h)
      (none_of_one config) front legal.0 legal.1))

-- what a put tells of the rows in front of it
abbrev TellsBefore : Config → List Row → Actor × Outs → Type 0
TellsBefore config front told =
    (first : Notice) × (rest : List Notice) × (hand_of (replayed config front) told.0 ≡ first ∷ rest)
    × (told.1.before ≡ length (put_into first.queue front))

tells_one : (config : Config) (front behind : List Row) (who : Actor) (reply : Reply) (told : Actor × Outs)
    → told_of_one who reply ≡ Some told
    → IsLegal config (front ++ record { step = steps.Put who; reply = reply } ∷ behind) → TellsBefore config front told
tells_one config front behind who (replies.Added position) told is legal =
    let same : (who, record { before = position; done = Added ∷ [] }) ≡ told = cc in
    subst (TellsBefore config front) same (added_position config front behind who position legal)
tells_one config front behind who reply told is legal = absurd cc

tells_all : (config : Config) (front behind : List Row) (who : Actor) (reply : Reply) (told : Actor × Outs)
    → told_of_all who reply ≡ Some told
    → IsLegal config (front ++ record { step = steps.Puts who; reply = reply } ∷ behind)
    → TellsBefore config front told
tells_all config front behind who (replies.Outs outs) told is legal =
    let same : (who, outs) ≡ told = cc in
    subst (TellsBefore config front) same (outs_position config front behind who outs legal)
tells_all config front behind who reply told is legal = absurd cc

tells_before : (config : Config) (front behind : List Row) (step : Step) (reply : Reply) (told : Actor × Outs)
    → told_by_put step reply ≡ Some told
    → IsLegal config (front ++ record { step = step; reply = reply } ∷ behind) → TellsBefore config front told
tells_before config front behind (steps.Put who) reply told is legal =
    tells_one config front behind who reply told is legal
tells_before config front behind (steps.Puts who) reply told is legal =
    tells_all config front behind who reply told is legal
tells_before config front behind step reply told is legal = absurd cc

module _ (config : Config) (rows : List Row) (legal : IsLegal config rows) where
  pub in_clearing_order : InClearingOrder config rows
  in_clearing_order worker q = legal_in_order config rows worker q legal

  pub scanned_once : ScannedOnce rows
  scanned_once front behind is =
      legal_scanned_once config front (front_is_legal config front behind (subst (IsLegal config) (sym is) legal))

  pub at_most_once : AtMostOnce rows
  at_most_once q = (legal_keeps_queue config rows q legal).at_most_once

  pub nothing_after_close : NothingAfterClose rows
  nothing_after_close q = (legal_keeps_queue config rows q legal).nothing_after_close

  module _ (front : List Row) (before : List Notice) (position : ℕ) (notice : Notice)
      (adds : Adds config rows front before position notice) where
    here : IsLegal config (front ++ adds.row ∷ adds.behind)
    here = subst (IsLegal config) (sym adds.is_here) legal

    front_legal : IsLegal config front
    front_legal = front_is_legal config front (adds.row ∷ adds.behind) here

    -- what holds of all that the hand holds holds of the notice
    of_added : (P : Notice → Type 0) → AllByRecursion P (hand_of (replayed config front) adds.who) → P notice
    of_added P all =
        of_one_among P before notice adds.later
        (subst (AllByRecursion P) adds.in_hand
        (all_added P (hand_of (replayed config front) adds.who) adds.outs.done all))

    position_told : position ≡ length (put_into notice.queue front) + length before
    position_told =
        let told = tells_before config front adds.behind adds.row.step adds.row.reply (adds.who, adds.outs) adds.is_put
        here in
        let one = all_of_one config front adds.who front_legal in
        let first : told.0.queue ≡ one.0 = (subst (AllByRecursion (IsOwn one.0)) told.2 one.1).0 in
        adds.told
        ∙ ap (λ n. n + length before) (told.3
        ∙ ap (λ q. length (put_into q front)) (first ∙ sym (of_added (IsOwn one.0) one.1)))

    proven : IsProven front notice
    proven = of_added (IsProven front) (all_proven config front adds.who front_legal)

    after_mark : IsAfterMark config front notice.object notice.cause
    after_mark =
        of_added (λ n. IsAfterMark config front n.object n.cause) (all_after_marks config front adds.who front_legal)

  pub positions : Positions config rows
  positions front before position notice adds = position_told front before position notice adds

  pub own_queue : OwnQueue config rows
  own_queue = record {
    named = λ front before position notice adds. (proven front before position notice adds).own_queue;
    one = λ n q other. one_queue config rows n q other legal;
  }

  pub own_enqueue_call : OwnEnqueueCall config rows
  own_enqueue_call front before position notice adds own =
      subst (λ (cause : Cause). IsCause front notice.object cause) own
      (proven front before position notice adds).own_cause

  pub after_a_mark_ended : AfterAMarkEnded config rows
  after_a_mark_ended front before position notice adds cycle worker is =
      grind (arith, after_mark front before position notice adds)
