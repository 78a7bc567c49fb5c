-- What a judge makes of a put: it takes just what may become of the hand's notices by the numbers.
use Rattle.ref_base.proofs.Common.{◌≡◌, ℕ, Bool, true, List, [], ◌∷◌, length, Option, Some, None, refl}
use Rattle.ref_base.proofs.Common.{sym, ◌∙◌, subst, inr, State, Notice, Lists, object_of, hand_of, queue_at}
use Rattle.ref_base.proofs.Common.{ticked, with_world, put_in, PutsAll, slice_index_or, slice_set, ◌==◌, refusal}
use Rattle.std.specs.Prelude.{Ok, Err}
use Rattle.std.specs.List.{AllByRecursion, list_all}
use Rattle.std.proofs.lemmas.List.{append-nil}
use Rattle.ref_base.specs.Members.{first_of}
use Rattle.ref_base.specs.Outs.{Outs}
use Rattle.ref_base.specs.QueueBatches.{TellsBatch, added_among, not_added}
use Rattle.ref_base.specs.QueueLists.{enqueued}
use Rattle.ref_base.specs.declared.actor.Actor.{Actor}
use Rattle.ref_base.specs.declared.fault.Fault.{Fault}
use Rattle.ref_base.specs.declared.out.Done.{Done}
use Rattle.ref_base.specs.declared.row.Row.{Row}
use Rattle.ref_base.specs.declared.reply.Reply.{Reply}
use Rattle.ref_base.specs.declared.reply.Reply.TheVariants as replies
use Rattle.ref_base.specs.declared.step.Step.TheVariants as steps
use Rattle.ref_base.proofs.SoundWorlds.{IsOwn}
use Rattle.ref_objects.specs.Grounds.{IsWellFormed}
use Rattle.ref_judge.specs.Judged.{Judged, Line, AllHands, IsLine, hand_at, with_hand_at, first_notice_refusal}
use Rattle.ref_judge.specs.ProfiledRows.{IsRowAs, IsAnswerAs}
use Rattle.ref_judge.specs.Queueing.{may_become_each, linked_each, line_with}
use Rattle.ref_judge.specs.Standing.{StandsFor, TellsOf, LeadsOn}
use Rattle.ref_judge.specs.declared.stop.Stop.{Stop}
use Rattle.ref_judge.proofs.HandsAlike.{hand_same}
use Rattle.ref_judge.proofs.LinesAlike.{line_same, line_below}
use Rattle.ref_space.specs.Tables.{Tag}
use Rattle.std.proofs.Common.{◌+◌, ◌<◌, ◌≤◌, length-set}
use Rattle.std.proofs.lemmas.List.{get_or-set_same}
use Rattle.ref_judge.proofs.PutRows.{queue_of, each_becomes, becomes_each}
use Rattle.ref_judge.proofs.PutStates.{full_hand, all_own_for, hand_own, hand_linked, into_there}
use Rattle.ref_judge.proofs.PutStates.{put_stands, notices}
use Rattle.ref_judge.proofs.QueueTells.{none_fits, put_refusal}
use Rattle.ref_judge.proofs.QueuedStates.{queued, queued_says}
use Rattle.ref_judge.proofs.ToldRows.{kept_leads}

-- a queue that was set has no more than there are numbers
pub set_line_below : (old : Judged) (line : Line) (q : ℕ) (new : Line) (ts : List Tag) (hands : AllHands)
    → q < length old.lines → (b : State) → StandsFor (queued old ts hands (slice_set old.lines q new)) b
    → new.put ≤ old.ground.next
set_line_below old line q new ts hands there b stands =
    subst (λ (l : Line). l.put ≤ old.ground.next) (get_or-set_same old.lines q new line there)
    (line_below (queued old ts hands (slice_set old.lines q new)) b stands q line
    (subst (λ (k : ℕ). q < k) (sym (length-set old.lines q new)) there))

module _ (old : Judged) (who : Actor) (n : ℕ) (accepted : first_notice_refusal old.hands who ≡ None)
    (first : first_of (hand_at old.hands who).objects ≡ Some n) (line : Line)
    (line_is : line ≡ slice_index_or old.lines (hand_at old.hands who).queue line) where
  -- what the hand holds, and the queue that it is for
  abbrev ns : List ℕ
  ns = (hand_at old.hands who).objects

  abbrev q : ℕ
  q = (hand_at old.hands who).queue

  -- whether this may become of the hand's notices
  abbrev pub may_all : List Done → Bool
  may_all ds = may_become_each old.ground.tags [] line.closed ns ds

  module _ (a : State) (stands : StandsFor old a) where
    abbrev hand : List Notice
    hand = hand_of a.world who

    abbrev lists : Lists Notice
    lists = queue_at a.world q

    pub full : (notice : Notice) × (rest : List Notice) × (hand ≡ notice ∷ rest) × (notice.object ≡ n)
    full = full_hand ns hand n (hand_same old a stands who).0 first

    pub line_alike : IsLine line lists
    line_alike =
        subst (λ (l : Line). IsLine l lists) (sym line_is)
        (line_same old a stands q line (into_there old a stands who n first))

    pub named : lists.queue ≡ q
    named = (notices old a stands who).number q

    pub full_own : AllByRecursion (IsOwn q) (full.0 ∷ full.1)
    full_own = subst (AllByRecursion (IsOwn q)) full.2 (hand_own old a stands who)

    pub first_own : full.0.queue ≡ q
    first_own = full_own.0

    -- the batch is told rightly
    tells_batch : (outs : Outs) → outs.before ≡ line.put → may_all outs.done ≡ true
        → TellsBatch object_of queue_of lists hand outs
    tells_batch outs before may =
        let both =
        each_becomes old.ground.tags q (enqueued object_of lists) lists [] hand outs.done
        (sym (append-nil (enqueued object_of lists))) named (hand_linked old a stands who)
        (rw (line_alike.closed, (hand_same old a stands who).0) may) in (
          subst (λ (r : ℕ). list_all (λ (x : Notice). x.queue == r) hand ≡ true) (sym named)
              (all_own_for q hand (hand_own old a stands who)),
          before ∙ sym line_alike.put,
          both.0,
          both.1,
        )

    batch_told : (outs : Outs) → TellsBatch object_of queue_of lists hand outs
        → (outs.before ≡ line.put) × (may_all outs.done ≡ true)
    batch_told outs tells = (
      tells.1 ∙ line_alike.put,
      subst (λ (closed : Bool). may_become_each old.ground.tags [] closed ns outs.done ≡ true) line_alike.closed
          (subst (λ (ms : List ℕ). may_become_each old.ground.tags [] lists.closed ms outs.done ≡ true)
          (hand_same old a stands who).0
          (becomes_each old.ground.tags q (enqueued object_of lists) lists [] hand outs.done
          (sym (append-nil (enqueued object_of lists))) (hand_linked old a stands who) tells.2 tells.3)),
    )

    puts_right : (outs : Outs) → outs.before ≡ line.put → may_all outs.done ≡ true
        → PutsAll a who hand (replies.Outs outs) (ticked (with_world a (put_in a.world who outs.done)))
    puts_right outs before may =
        let reply : Reply = replies.Outs outs in
        let b : State = ticked (with_world a (put_in a.world who outs.done)) in
        let tells =
        subst (λ (r : ℕ). TellsBatch object_of queue_of (queue_at a.world r) (full.0 ∷ full.1) outs) (sym first_own)
        (subst (λ (xs : List Notice). TellsBatch object_of queue_of lists xs outs) full.2 (tells_batch outs before may))
        in
        subst (λ (xs : List Notice). PutsAll a who xs reply b) (sym full.2) (
          outs,
          subst (λ (r : ℕ). list_all (λ (x : Notice). x.queue == r) full.1 ≡ true) (sym first_own)
              (all_own_for q full.1 full_own.1),
          tells,
          (refl, refl),
        )

    -- and else there is no such row
    puts_only : (reply : Reply) (b : State) → PutsAll a who hand reply b
        → (outs : Outs) × (reply ≡ replies.Outs outs) × (outs.before ≡ line.put) × (may_all outs.done ≡ true)
    puts_only reply b puts =
        let row = subst (λ (xs : List Notice). PutsAll a who xs reply b) full.2 puts in
        let tells =
        subst (λ (xs : List Notice). TellsBatch object_of queue_of lists xs row.0) (sym full.2)
        (subst (λ (r : ℕ). TellsBatch object_of queue_of (queue_at a.world r) (full.0 ∷ full.1) row.0) first_own row.2)
        in
        let told = batch_told row.0 tells in (row.0, row.3.0, told.0, told.1)

    pub puts_accepted : refusal a (steps.Puts who) ≡ None
    puts_accepted = put_refusal old a who stands ∙ accepted

  -- the judge once that became of them
  abbrev pub puts_to : List Done → Judged
  puts_to ds =
      queued old (linked_each old.ground.tags (added_among ns ds))
      (with_hand_at old.hands who (record { queue = q; objects = not_added ns ds }))
      (slice_set old.lines q (line_with line (added_among ns ds)))

  puts_lead : IsWellFormed old.ground → (before : ℕ) (ds : List Done) → before ≡ line.put → may_all ds ≡ true
      → (a : State) → StandsFor old a → LeadsOn old (puts_to ds)
      (record { step = steps.Puts who; reply = replies.Outs (record { before = before; done = ds }) }) a
  puts_lead formed before [] is may a stands = absurd (none_tried ns first may)
    where
      none_tried : (ms : List ℕ) → first_of ms ≡ Some n
          → may_become_each old.ground.tags [] line.closed ms [] ≡ true → ⊥
      none_tried [] is may = absurd cc
      none_tried (m ∷ ms) is may = absurd cc
  puts_lead formed before (d ∷ ds) is may a stands =
      let outs : Outs = record { before = before; done = d ∷ ds } in
      let b : State = ticked (with_world a (put_in a.world who (d ∷ ds))) in
      let row : Row = record { step = steps.Puts who; reply = replies.Outs outs } in
      let h : IsRowAs old.profile a row b =
      subst (λ (o : Option Fault). IsAnswerAs old.profile a o (steps.Puts who) (replies.Outs outs) b)
      (sym (puts_accepted a stands)) (puts_right a stands outs is may) in
      kept_leads old (puts_to (d ∷ ds)) row a b (tt, inr tt) h
      (queued_says old (linked_each old.ground.tags (added_among ns (d ∷ ds)))
      (with_hand_at old.hands who (record { queue = q; objects = not_added ns (d ∷ ds) }))
      (slice_set old.lines q (line_with line (added_among ns (d ∷ ds)))))
      (put_stands old a stands who formed n first line line_is d ds row tt h) refl refl

  pub puts_tells : IsWellFormed old.ground → (outs : Outs) → outs.before ≡ line.put → may_all outs.done ≡ true
      → TellsOf old (record { step = steps.Puts who; reply = replies.Outs outs }) (Ok tt) (puts_to outs.done)
  puts_tells formed outs is may =
      (refl, refl, λ a stands lawful. puts_lead formed outs.before outs.done is may a stands)

  pub puts_none : (reply : Reply)
      → ((outs : Outs) → reply ≡ replies.Outs outs → outs.before ≡ line.put → may_all outs.done ≡ true → ⊥)
      → TellsOf old (record { step = steps.Puts who; reply = reply }) (Err Stop.Illegal) old
  puts_none reply none = (
    λ a stands.
        none_fits old a (record { step = steps.Puts who; reply = reply }) (tt, inr tt)
        (λ b h.
        let told =
        puts_only a stands reply b
        (subst (λ (o : Option Fault). IsAnswerAs old.profile a o (steps.Puts who) reply b) (puts_accepted a stands)
        h) in
        none told.0 told.1 told.2 told.3),
    refl,
  )

  pub puts_room : IsWellFormed old.ground → (outs : Outs) → outs.before ≡ line.put → may_all outs.done ≡ true
      → (a : State) → StandsFor old a → line.put + length (added_among ns outs.done) ≤ old.ground.next
  puts_room formed outs is may a stands =
      let leads = puts_lead formed outs.before outs.done is may a stands in
      set_line_below old line q (line_with line (added_among ns outs.done))
      (linked_each old.ground.tags (added_among ns outs.done))
      (with_hand_at old.hands who (record { queue = q; objects = not_added ns outs.done }))
      (into_there old a stands who n first) leads.state leads.stands
