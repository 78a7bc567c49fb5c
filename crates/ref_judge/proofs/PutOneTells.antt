-- What a judge makes of a put of one: it takes just what may become of the hand's first notice by the numbers.
use Rattle.ref_base.proofs.Common.{◌≡◌, ℕ, Bool, true, false, List, [], ◌∷◌, length, Option, Some, None, refl}
use Rattle.ref_base.proofs.Common.{sym, ap, ◌∙◌, subst, inl, inr, State, Notice, object_of, hand_of, queue_at}
use Rattle.ref_base.proofs.Common.{ticked, with_world, put_in, Puts, PutsInto, slice_index_or, slice_set, ◌==◌}
use Rattle.ref_base.proofs.Common.{false≢true, cases_Bool, eqb-true, eq-eqb, rest_of}
use Rattle.std.specs.Prelude.{Ok, Err}
use Rattle.std.proofs.Common.{◌+◌, ◌≤◌}
use Rattle.std.specs.List.{AllByRecursion}
use Rattle.ref_base.specs.Members.{first_of}
use Rattle.ref_base.specs.QueueBatches.{added_among, not_added}
use Rattle.ref_base.specs.Outs.{is_added}
use Rattle.ref_base.specs.QueueLists.{enqueued, was_put}
use Rattle.ref_base.specs.declared.actor.Actor.{Actor}
use Rattle.ref_base.specs.declared.fault.Fault.{Fault}
use Rattle.ref_base.specs.declared.fault.Fault.TheVariants.{NoMemory}
use Rattle.ref_base.specs.declared.out.Done.{Done}
use Rattle.ref_base.specs.declared.out.Done.TheVariants.{Added, Already, Closed, Refused}
use Rattle.ref_base.specs.declared.row.Row.{Row}
use Rattle.ref_base.specs.declared.reply.Reply.{Reply}
use Rattle.ref_base.specs.declared.reply.Reply.TheVariants as replies
use Rattle.ref_base.specs.declared.step.Step.TheVariants as steps
use Rattle.ref_objects.specs.Grounds.{IsWellFormed}
use Rattle.ref_judge.specs.Judged.{Judged, Line, hand_at, with_hand_at, first_notice_refusal, is_put}
use Rattle.ref_judge.specs.ProfiledRows.{IsRowAs, IsAnswerAs}
use Rattle.ref_judge.specs.Queueing.{told_put, may_become, linked_each, line_with}
use Rattle.ref_judge.specs.Standing.{StandsFor, TellsOf, LeadsOn}
use Rattle.ref_judge.specs.declared.stop.Stop.{Stop}
use Rattle.ref_judge.proofs.HandsAlike.{are_alike}
use Rattle.ref_judge.proofs.PutRows.{IsLinked}
use Rattle.ref_judge.proofs.PutStates.{into_there, hand_linked, put_stands}
use Rattle.ref_judge.proofs.PutTells.{full, line_alike, first_own, puts_accepted, set_line_below}
use Rattle.ref_judge.proofs.QueueTells.{none_fits}
use Rattle.ref_judge.proofs.QueuedStates.{queued, queued_says, queued_stands, ticked_queued}
use Rattle.ref_judge.proofs.ToldRows.{kept_leads, same_said}

-- ---- answers

-- how a put of one tells what became of it, where so many were put in before
abbrev pub reply_of : ℕ → Done → Reply
reply_of put Added = replies.Added put
reply_of put Already = replies.Already
reply_of put Closed = replies.Closed
reply_of put (Refused fault) = replies.Refused fault

done_is : (d e : Done) → Some d ≡ Some e → d ≡ e
done_is d e same = cc

none_done : (d : Done) → None ≡ Some d → ⊥
none_done d same = absurd cc

pub told_is : (put : ℕ) (reply : Reply) (d : Done) → told_put put reply ≡ Some d → reply ≡ reply_of put d
told_is put (replies.Added position) d told =
    elim (cases_Bool (position == put)) [
      | inl is ↦
          ap replies.Added (eqb-true position put is)
          ∙ ap (reply_of put) (done_is Added d (rw is at told))
      | inr other ↦ absurd (none_done d (rw other at told))
    ]
told_is put replies.Already d told = ap (reply_of put) (done_is Already d told)
told_is put replies.Closed d told = ap (reply_of put) (done_is Closed d told)
told_is put (replies.Refused NoMemory) d told = ap (reply_of put) (done_is (Refused NoMemory) d told)
told_is put reply d told = absurd (none_done d told)

added_told : (put : ℕ) → told_put put (replies.Added put) ≡ Some Added
added_told put = rw (eq-eqb put put refl) refl

-- the state that it leaves
abbrev put_state : State → Actor → Done → State
put_state a who Added = ticked (with_world a (put_in a.world who (Added ∷ [])))
put_state a who Already = ticked a
put_state a who Closed = ticked a
put_state a who (Refused fault) = a

module _ (a : State) (who : Actor) (notice : Notice) (rest : List Notice) (put : ℕ)
    (before : length (enqueued object_of (queue_at a.world notice.queue)) ≡ put) where
  into_right : (was closed : Bool) (d : Done) → may_become was closed d ≡ true
      → PutsInto was closed a who notice rest (reply_of put d) (put_state a who d)
  into_right true closed Added may = absurd (false≢true may)
  into_right true closed Already may = (refl, refl)
  into_right true closed Closed may = absurd (false≢true may)
  into_right true closed (Refused NoMemory) may = absurd (false≢true may)
  into_right true closed (Refused fault) may = absurd (false≢true may)
  into_right false true Added may = absurd (false≢true may)
  into_right false true Already may = absurd (false≢true may)
  into_right false true Closed may = (refl, refl)
  into_right false true (Refused NoMemory) may = absurd (false≢true may)
  into_right false true (Refused fault) may = absurd (false≢true may)
  into_right false false Added may = inl (ap replies.Added (sym before), refl)
  into_right false false Already may = absurd (false≢true may)
  into_right false false Closed may = absurd (false≢true may)
  into_right false false (Refused NoMemory) may = inr (refl, refl)
  into_right false false (Refused fault) may = absurd (false≢true may)

  into_only : (was closed : Bool) (reply : Reply) (b : State) → PutsInto was closed a who notice rest reply b
      → (d : Done) × (told_put put reply ≡ Some d) × (may_become was closed d ≡ true)
  into_only true closed reply b puts = (Already, ap (told_put put) puts.0, refl)
  into_only false true reply b puts = (Closed, ap (told_put put) puts.0, refl)
  into_only false false reply b puts =
      elim puts [
        | inl added ↦
            (Added, ap (told_put put) (added.0 ∙ ap replies.Added before) ∙ added_told put, refl)
        | inr refused ↦ (Refused NoMemory, ap (told_put put) refused.0, refl)
      ]

module _ (old : Judged) (who : Actor) (n : ℕ) (accepted : first_notice_refusal old.hands who ≡ None)
    (first : first_of (hand_at old.hands who).objects ≡ Some n) (line : Line)
    (line_is : line ≡ slice_index_or old.lines (hand_at old.hands who).queue line) where
  abbrev ns : List ℕ
  ns = (hand_at old.hands who).objects

  abbrev q : ℕ
  q = (hand_at old.hands who).queue

  module _ (a : State) (stands : StandsFor old a) where
    abbrev notice : Notice
    notice = (full old who n accepted first line line_is a stands).0

    abbrev rest : List Notice
    rest = (full old who n accepted first line line_is a stands).1

    hand_full : hand_of a.world who ≡ notice ∷ rest
    hand_full = (full old who n accepted first line line_is a stands).2

    own : notice.queue ≡ q
    own = first_own old who n accepted first line line_is a stands

    before_is : length (enqueued object_of (queue_at a.world notice.queue)) ≡ line.put
    before_is =
        subst (λ (r : ℕ). length (enqueued object_of (queue_at a.world r)) ≡ line.put) (sym own)
        (line_alike old who n accepted first line line_is a stands).put

    closed_is : (queue_at a.world notice.queue).closed ≡ line.closed
    closed_is =
        subst (λ (r : ℕ). (queue_at a.world r).closed ≡ line.closed) (sym own)
        (line_alike old who n accepted first line line_is a stands).closed

    was_is : was_put object_of (queue_at a.world notice.queue) notice ≡ is_put old.ground.tags n
    was_is =
        let linked =
        subst (AllByRecursion (IsLinked old.ground.tags q (enqueued object_of (queue_at a.world q)))) hand_full
        (hand_linked old a stands who) in
        subst (λ (r : ℕ). was_put object_of (queue_at a.world r) notice ≡ is_put old.ground.tags n) (sym own)
        (sym linked.0.1 ∙ ap (is_put old.ground.tags) (full old who n accepted first line line_is a stands).3)

    put_right : (d : Done) → may_become (is_put old.ground.tags n) line.closed d ≡ true
        → IsRowAs old.profile a (record { step = steps.Put who; reply = reply_of line.put d }) (put_state a who d)
    put_right d may =
        subst (λ (o : Option Fault). IsAnswerAs old.profile a o (steps.Put who) (reply_of line.put d)
        (put_state a who d)) (sym (puts_accepted old who n accepted first line line_is a stands))
        (subst (λ (xs : List Notice). Puts a who xs (reply_of line.put d) (put_state a who d)) (sym hand_full)
        (into_right a who notice rest line.put before_is
        (was_put object_of (queue_at a.world notice.queue) notice) (queue_at a.world notice.queue).closed d
        (rw (was_is, closed_is) may)))

    put_only : (reply : Reply) (b : State) → IsRowAs old.profile a (record { step = steps.Put who; reply = reply }) b
        → (d : Done) × (told_put line.put reply ≡ Some d)
        × (may_become (is_put old.ground.tags n) line.closed d ≡ true)
    put_only reply b h =
        let row =
        subst (λ (o : Option Fault). IsAnswerAs old.profile a o (steps.Put who) reply b)
        (puts_accepted old who n accepted first line line_is a stands) h in
        let only =
        into_only a who notice rest line.put before_is
        (was_put object_of (queue_at a.world notice.queue) notice) (queue_at a.world notice.queue).closed reply b
        (subst (λ (xs : List Notice). Puts a who xs reply b) hand_full row) in (
          only.0,
          only.1,
          subst (λ (was : Bool). may_become was line.closed only.0 ≡ true) was_is
              (subst (λ (closed : Bool). may_become (was_put object_of (queue_at a.world notice.queue) notice) closed
              only.0 ≡ true) closed_is only.2),
        )

    -- a moment more is the same state for the judge
    ticked_stands : (reply : Reply)
        → IsRowAs old.profile a (record { step = steps.Put who; reply = reply }) (ticked a) → StandsFor old (ticked a)
    ticked_stands reply h =
        let row : Row = record { step = steps.Put who; reply = reply } in
        let same = ticked_queued a a.world a.world.queues in
        subst (StandsFor old) (sym same)
        (queued_stands old a stands old.ground.tags old.hands old.lines a.world a.world.queues (ticked a).moments row tt
        (subst (IsRowAs old.profile a row) same h) (are_alike old a stands) stands.lines (λ m. refl) stands.tags.put)

  -- the judge once these were added, and those are left in the hand
  abbrev pub put_with : List ℕ → List ℕ → Judged
  put_with added left =
      queued old (linked_each old.ground.tags added)
      (with_hand_at old.hands who (record { queue = q; objects = left }))
      (slice_set old.lines q (line_with line added))

  first_alone : (ms : List ℕ) → first_of ms ≡ Some n
      → (added_among ms (Added ∷ []) ≡ n ∷ []) × (not_added ms (Added ∷ []) ≡ rest_of ms)
  first_alone [] is = absurd cc
  first_alone (m ∷ ms) is = (ap (λ k. k ∷ []) (same is), all_left ms)
    where
      same : Some m ≡ Some n → m ≡ n
      same is = cc

      all_left : (ms : List ℕ) → not_added ms [] ≡ ms
      all_left [] = refl
      all_left (m ∷ ms) = refl

  added_leads : IsWellFormed old.ground → may_become (is_put old.ground.tags n) line.closed Added ≡ true → (a : State)
      → StandsFor old a
      → LeadsOn old (put_with (n ∷ []) (rest_of ns))
      (record { step = steps.Put who; reply = replies.Added line.put }) a
  added_leads formed may a stands =
      let row : Row = record { step = steps.Put who; reply = replies.Added line.put } in
      let h = put_right a stands Added may in
      let alone = first_alone ns first in
      subst (λ (left : List ℕ). LeadsOn old (put_with (n ∷ []) left) row a) alone.1
      (subst (λ (added : List ℕ). LeadsOn old (put_with added (not_added ns (Added ∷ []))) row a) alone.0
      (kept_leads old (put_with (added_among ns (Added ∷ [])) (not_added ns (Added ∷ []))) row a
      (ticked (with_world a (put_in a.world who (Added ∷ [])))) (tt, inr tt) h
      (queued_says old (linked_each old.ground.tags (added_among ns (Added ∷ [])))
      (with_hand_at old.hands who (record { queue = q; objects = not_added ns (Added ∷ []) }))
      (slice_set old.lines q (line_with line (added_among ns (Added ∷ [])))))
      (put_stands old a stands who formed n first line line_is Added [] row tt h) refl refl))

  pub added_tells : IsWellFormed old.ground → (reply : Reply) → told_put line.put reply ≡ Some Added
      → may_become (is_put old.ground.tags n) line.closed Added ≡ true
      → TellsOf old (record { step = steps.Put who; reply = reply }) (Ok tt) (put_with (n ∷ []) (rest_of ns))
  added_tells formed reply told may = (
    refl,
    refl,
    λ a stands lawful.
        subst (λ (r : Reply). LeadsOn old (put_with (n ∷ []) (rest_of ns))
        (record { step = steps.Put who; reply = r }) a)
        (sym (told_is line.put reply Added told)) (added_leads formed may a stands),
  )

  other_leads : (d : Done) → may_become (is_put old.ground.tags n) line.closed d ≡ true → is_added d ≡ false
      → (a : State) → StandsFor old a
      → LeadsOn old old (record { step = steps.Put who; reply = reply_of line.put d }) a
  other_leads Added may isnt a stands = absurd cc
  other_leads Already may isnt a stands =
      let h = put_right a stands Already may in
      kept_leads old old (record { step = steps.Put who; reply = replies.Already }) a (ticked a) (tt, inr tt) h
      (same_said old) (ticked_stands a stands replies.Already h) refl refl
  other_leads Closed may isnt a stands =
      let h = put_right a stands Closed may in
      kept_leads old old (record { step = steps.Put who; reply = replies.Closed }) a (ticked a) (tt, inr tt) h
      (same_said old) (ticked_stands a stands replies.Closed h) refl refl
  other_leads (Refused fault) may isnt a stands =
      kept_leads old old (record { step = steps.Put who; reply = replies.Refused fault }) a a (tt, inr tt)
      (put_right a stands (Refused fault) may) (same_said old) stands refl refl

  pub other_tells : (reply : Reply) (d : Done) → told_put line.put reply ≡ Some d
      → may_become (is_put old.ground.tags n) line.closed d ≡ true → is_added d ≡ false
      → TellsOf old (record { step = steps.Put who; reply = reply }) (Ok tt) old
  other_tells reply d told may isnt = (
    refl,
    refl,
    λ a stands lawful.
        subst (λ (r : Reply). LeadsOn old old (record { step = steps.Put who; reply = r }) a)
        (sym (told_is line.put reply d told)) (other_leads d may isnt a stands),
  )

  pub put_none : (reply : Reply)
      → ((d : Done) → told_put line.put reply ≡ Some d → may_become (is_put old.ground.tags n) line.closed d ≡ true → ⊥)
      → TellsOf old (record { step = steps.Put who; reply = reply }) (Err Stop.Illegal) old
  put_none reply none = (
    λ a stands.
        none_fits old a (record { step = steps.Put who; reply = reply }) (tt, inr tt)
        (λ b h. let told = put_only a stands reply b h in none told.0 told.1 told.2),
    refl,
  )

  pub put_room : IsWellFormed old.ground → may_become (is_put old.ground.tags n) line.closed Added ≡ true
      → (a : State) → StandsFor old a → line.put + 1 ≤ old.ground.next
  put_room formed may a stands =
      let leads = added_leads formed may a stands in
      set_line_below old line q (line_with line (n ∷ [])) (linked_each old.ground.tags (n ∷ []))
      (with_hand_at old.hands who (record { queue = q; objects = rest_of ns }))
      (into_there old a stands who n first) leads.state leads.stands
