-- A judge that took a poll: what its code read and wrote is what the poll is told to have done, and leaves it sound.
use Rattle.ref_base.proofs.Common.{arith, ◌≡◌, ℕ, ◌<◌, Bool, true, false, List, [], ◌∷◌, length, Option, Some}
use Rattle.ref_base.proofs.Common.{if◌then◌else◌, None, refl, sym, ap, ◌∙◌, subst, State, Notice, hand_of}
use Rattle.ref_base.proofs.Common.{slice_set, refusal, unless, nat_lt, ltb-true, one_taken, true≢false, inr}
use Rattle.ref_base.proofs.Common.{and_parts, slice_index_or}
use Rattle.std.specs.Prelude.{nat_le}
use Rattle.std.proofs.lemmas.Bool.{leb-true}
use Rattle.std.specs.Prelude.{Ok, Err, Result, MatchResult, ◌≤◌}
use Rattle.ref_base.specs.Refusals.{fits, unless_full}
use Rattle.ref_base.specs.declared.config.Config.{Config}
use Rattle.ref_base.specs.declared.actor.Actor.TheVariants.{Mutator}
use Rattle.ref_base.specs.declared.fault.Fault.{Fault}
use Rattle.ref_base.specs.declared.fault.Fault.TheVariants.{NoSuchActor, BadQueue, BadConfig}
use Rattle.ref_base.specs.declared.row.Row.{Row}
use Rattle.ref_base.specs.declared.reply.Reply.{Reply}
use Rattle.ref_base.specs.declared.reply.Reply.TheVariants as replies
use Rattle.ref_base.specs.declared.step.Step.TheVariants as steps
use Rattle.ref_base.proofs.RowForms.{unless_passes}
use Rattle.ref_judge.specs.Judged.{Judged, AllHands, Line, has_carrier, hand_at, with_hand_at, naming_refusal}
use Rattle.ref_judge.specs.Judged.{free_hand_refusal, polling_refusal, unless_carried}
use Rattle.ref_judge.specs.ProfiledRows.{IsRowAs, IsAnswerAs, PollsAs}
use Rattle.ref_judge.specs.Queueing.{MayTakeNos, TellsNone, without_each}
use Rattle.ref_judge.specs.Standing.{StandsFor, IsSettled, IsOfSomeState, TellsOf}
use Rattle.ref_judge.specs.declared.stop.Stop.{Stop}
use Rattle.ref_judge.proofs.HandsAlike.{sizes, hand_same, carried_same, count_same, sound_mutators}
use Rattle.ref_judge.proofs.LinesAlike.{lines_same}
use Rattle.ref_judge.proofs.PollTells.{poll_takes, poll_none, poll_wrong}
use Rattle.ref_judge.proofs.PutDone.{read_twice}
use Rattle.ref_judge.proofs.QueuedStates.{queued, settled_queued}
use Rattle.ref_judge.proofs.SoundJudges.{sound_told}
use Rattle.ref_judge.proofs.ToldRows.{refused_tells, stops_apart}

-- ---- refusals

-- of a poll of one
abbrev pub one_refusal : Judged → ℕ → ℕ → Option Fault
one_refusal old m q =
    unless (nat_lt m old.config.mutators) NoSuchActor
    (unless (nat_lt q old.config.queues) BadQueue (unless_carried (hand_at old.hands (Mutator m)).objects None))

poll_refusal : (old : Judged) (a : State) → StandsFor old a → (m q : ℕ)
    → refusal a (steps.Poll m q) ≡ one_refusal old m q
poll_refusal old a stands m q =
    ap (λ (c : Config). unless (nat_lt m c.mutators) NoSuchActor (unless (nat_lt q c.queues) BadQueue
    (unless_full (hand_of a.world (Mutator m)) None))) (sizes old a stands).config_is
    ∙ ap (λ (later : Option Fault). unless (nat_lt m old.config.mutators) NoSuchActor
    (unless (nat_lt q old.config.queues) BadQueue later))
    (carried_same (hand_at old.hands (Mutator m)) (hand_of a.world (Mutator m)) None
    (hand_same old a stands (Mutator m)))

polls_refusal : (old : Judged) (a : State) → StandsFor old a → (m q max : ℕ)
    → refusal a (steps.Polls m q max) ≡ polling_refusal old m q max
polls_refusal old a stands m q max =
    let same = hand_same old a stands (Mutator m) in
    let hand : List Notice = hand_of a.world (Mutator m) in
    ap (λ (c : Config). unless (nat_lt m c.mutators) NoSuchActor (unless (nat_lt q c.queues) BadQueue
    (unless (fits max (length hand)) BadConfig (unless_full hand None)))) (sizes old a stands).config_is
    ∙ ap (λ (k : ℕ). unless (nat_lt m old.config.mutators) NoSuchActor (unless (nat_lt q old.config.queues) BadQueue
    (unless (fits max k) BadConfig (unless_full hand None)))) (count_same (hand_at old.hands (Mutator m)) hand same)
    ∙ ap (λ (later : Option Fault). unless (nat_lt m old.config.mutators) NoSuchActor
    (unless (nat_lt q old.config.queues) BadQueue
    (unless (fits max (length (hand_at old.hands (Mutator m)).objects)) BadConfig later)))
    (carried_same (hand_at old.hands (Mutator m)) hand None same)

called_refused : (a b : Bool) (later : Option Fault) (fault : Fault)
    → unless a NoSuchActor (unless b BadQueue None) ≡ Some fault
    → unless a NoSuchActor (unless b BadQueue later) ≡ Some fault
called_refused false b later fault is = is
called_refused true false later fault is = is
called_refused true true later fault is = absurd cc

filled_same : (old : Judged) (m q : ℕ) (later : Option Fault) → naming_refusal old.config m q ≡ None
    → unless (has_carrier old.hands (Mutator m)) NoSuchActor
    (unless_carried (hand_at old.hands (Mutator m)).objects None) ≡ later
    → has_carrier old.hands (Mutator m) ≡ true → one_refusal old m q ≡ later
filled_same old m q later none filled there =
    let mutator = unless_passes (nat_lt m old.config.mutators) NoSuchActor _ none in
    let queue = unless_passes (nat_lt q old.config.queues) BadQueue None mutator.1 in
    rw (mutator.0, queue.0) (rw there at filled)

-- a mutator that a judge calls by has a hand
pub mutator_hand : (old : Judged) → IsOfSomeState old → (m q : ℕ) → naming_refusal old.config m q ≡ None
    → has_carrier old.hands (Mutator m) ≡ true
mutator_hand old sound m q none =
    ap (nat_lt m) (sound_mutators old sound)
    ∙ (unless_passes (nat_lt m old.config.mutators) NoSuchActor _ none).0

-- and there is the queue
pub queue_called : (old : Judged) → IsOfSomeState old → (m q i : ℕ) → i ≡ q → naming_refusal old.config m q ≡ None
    → i < length old.lines
queue_called old sound m q i is none =
    let mutator = unless_passes (nat_lt m old.config.mutators) NoSuchActor _ none in
    rw (is, lines_same old sound.state sound.stands)
    (ltb-true q old.config.queues (unless_passes (nat_lt q old.config.queues) BadQueue None mutator.1).0)

pub poll_called : (old : Judged) (m q : ℕ) (fault : Fault) (reply : Reply) (verdict : Result (Unit {0}) Stop)
    → naming_refusal old.config m q ≡ Some fault
    → MatchResult verdict (λ done. replies.Refused fault ≡ reply)
    (λ stop. (stop ≡ Stop.Illegal) × (replies.Refused fault ≡ reply → ⊥))
    → TellsOf old (record { step = steps.Poll m q; reply = reply }) verdict old
poll_called old m q fault reply verdict refused told =
    refused_tells old (steps.Poll m q) fault reply verdict
    (λ a stands. (
      tt,
      poll_refusal old a stands m q
          ∙ called_refused (nat_lt m old.config.mutators) (nat_lt q old.config.queues) _ fault refused,
    )) told

pub poll_filled : (old : Judged) (m q : ℕ) (fault : Fault) (reply : Reply) (verdict : Result (Unit {0}) Stop)
    → IsOfSomeState old → naming_refusal old.config m q ≡ None → free_hand_refusal old.hands (Mutator m) ≡ Some fault
    → MatchResult verdict (λ done. replies.Refused fault ≡ reply)
    (λ stop. (stop ≡ Stop.Illegal) × (replies.Refused fault ≡ reply → ⊥))
    → TellsOf old (record { step = steps.Poll m q; reply = reply }) verdict old
poll_filled old m q fault reply verdict sound none refused told =
    refused_tells old (steps.Poll m q) fault reply verdict
    (λ a stands. (
      tt,
      poll_refusal old a stands m q
          ∙ filled_same old m q (Some fault) none refused (mutator_hand old sound m q none),
    )) told

pub polls_called : (old : Judged) (m q max : ℕ) (fault : Fault) (reply : Reply) (verdict : Result (Unit {0}) Stop)
    → polling_refusal old m q max ≡ Some fault
    → MatchResult verdict (λ done. replies.Refused fault ≡ reply)
    (λ stop. (stop ≡ Stop.Illegal) × (replies.Refused fault ≡ reply → ⊥))
    → TellsOf old (record { step = steps.Polls m q max; reply = reply }) verdict old
polls_called old m q max fault reply verdict refused told =
    refused_tells old (steps.Polls m q max) fault reply verdict
    (λ a stands. (tt, polls_refusal old a stands m q max ∙ refused)) told

-- what isn't refused of several calls rightly
polls_call : (old : Judged) (m q max : ℕ) → polling_refusal old m q max ≡ None
    → (naming_refusal old.config m q ≡ None) × (1 ≤ max)
polls_call old m q max none =
    let mutator = unless_passes (nat_lt m old.config.mutators) NoSuchActor _ none in
    let queue = unless_passes (nat_lt q old.config.queues) BadQueue _ mutator.1 in
    let some = unless_passes (fits max (length (hand_at old.hands (Mutator m)).objects)) BadConfig _ queue.1 in
    (rw (mutator.0, queue.0) refl, leb-true 1 max (and_parts (nat_le 1 max) _ some.0).0)

-- and calls by a mutator and for a queue that are there
pub polls_sound : (old : Judged) → IsOfSomeState old → (m q max : ℕ) → polling_refusal old m q max ≡ None
    → naming_refusal old.config m q ≡ None
polls_sound old sound m q max none = (polls_call old m q max none).0

-- ---- what is written

module _ (old : Judged) (sound : IsOfSomeState old) (row : Row) (m q : ℕ) (line : Line)
    (line_is : line ≡ slice_index_or old.lines q line) (there : q < length old.lines) (ns : List ℕ)
    (told : TellsOf old row (Ok tt)
    (queued old old.ground.tags (with_hand_at old.hands (Mutator m) (record { queue = q; objects = ns }))
    (slice_set old.lines q (record line { stands = without_each line.stands ns }))))
    (i : ℕ) (i_is : i ≡ q) (also : Line) (also_is : also ≡ slice_index_or old.lines i also) (new : Line)
    (new_is : new ≡ record also { stands = without_each also.stands ns }) (hands : AllHands)
    (hands_is : hands ≡ with_hand_at old.hands (Mutator m) (record { queue = q; objects = ns })) where
  same_read : also ≡ line
  same_read =
      read_twice old.lines q also line there (subst (λ (k : ℕ). also ≡ slice_index_or old.lines k also) i_is also_is)
      line_is

  written_is : record old { hands = hands; lines = slice_set old.lines i new }
      ≡ queued old old.ground.tags (with_hand_at old.hands (Mutator m) (record { queue = q; objects = ns }))
      (slice_set old.lines q (record line { stands = without_each line.stands ns }))
  written_is = rw (hands_is, new_is, same_read, i_is) refl

  pub took_told : TellsOf old row (Ok tt) (record old { hands = hands; lines = slice_set old.lines i new })
  took_told = subst (TellsOf old row (Ok tt)) (sym written_is) told

  pub took_sound : IsOfSomeState (record old { hands = hands; lines = slice_set old.lines i new })
  took_sound =
      sound_told old (record old { hands = hands; lines = slice_set old.lines i new }) row sound took_told
      (subst IsSettled (sym written_is) (settled_queued old _ _ _ sound.settled))

-- ---- a poll of one

shut_reply : (closed : Bool) (n : ℕ) → replies.Took n ≡ (if closed then replies.Closed else replies.Empty) → ⊥
shut_reply true n is = absurd cc
shut_reply false n is = absurd cc

shut_replies : (closed : Bool) (ns : List ℕ)
    → replies.TookSome ns ≡ (if closed then replies.Closed else replies.Empty) → ⊥
shut_replies true ns is = absurd cc
shut_replies false ns is = absurd cc

module _ (old : Judged) (m q : ℕ) (line : Line) (line_is : line ≡ slice_index_or old.lines q line)
    (there : q < length old.lines) (sound : IsOfSomeState old) (none : naming_refusal old.config m q ≡ None)
    (free : free_hand_refusal old.hands (Mutator m) ≡ None) where
  one_accepted : (a : State) → StandsFor old a → refusal a (steps.Poll m q) ≡ None
  one_accepted a stands =
      poll_refusal old a stands m q ∙ filled_same old m q None none free (mutator_hand old sound m q none)

  one_rows : (a : State) → StandsFor old a → (reply : Reply) (b : State)
      → PollsAs old.profile.order a m q 1 one_taken reply b
      → IsRowAs old.profile a (record { step = steps.Poll m q; reply = reply }) b
  one_rows a stands reply b row =
      subst (λ (o : Option Fault). IsAnswerAs old.profile a o (steps.Poll m q) reply b)
      (sym (one_accepted a stands)) row

  one_only : (a : State) → StandsFor old a → (reply : Reply) (b : State)
      → IsRowAs old.profile a (record { step = steps.Poll m q; reply = reply }) b
      → PollsAs old.profile.order a m q 1 one_taken reply b
  one_only a stands reply b h =
      subst (λ (o : Option Fault). IsAnswerAs old.profile a o (steps.Poll m q) reply b) (one_accepted a stands) h

  pub one_takes : (n : ℕ) → MayTakeNos old.profile.order 1 line.stands (n ∷ [])
      → TellsOf old (record { step = steps.Poll m q; reply = replies.Took n }) (Ok tt)
      (queued old old.ground.tags (with_hand_at old.hands (Mutator m) (record { queue = q; objects = n ∷ [] }))
      (slice_set old.lines q (record line { stands = without_each line.stands (n ∷ []) })))
  one_takes n may =
      poll_takes old (steps.Poll m q) m q 1 one_taken (omega arith) tt (λ a reply. (tt, inr tt)) one_rows one_only there
      line line_is n [] may

  one_named : (reply : Reply) (ns : List ℕ) → reply ≡ one_taken ns
      → MayTakeNos old.profile.order 1 line.stands ns
      → (n : ℕ) × (reply ≡ replies.Took n) × MayTakeNos old.profile.order 1 line.stands (n ∷ [])
  one_named reply [] is may = absurd (true≢false may.1)
  one_named reply (n ∷ []) is may = (n, is, may)
  one_named reply (n ∷ k ∷ ns) is may = absurd (omega (arith, may.0))

  pub one_wrong : (n : ℕ) → (MayTakeNos old.profile.order 1 line.stands (n ∷ []) → ⊥)
      → TellsOf old (record { step = steps.Poll m q; reply = replies.Took n }) (Err Stop.Illegal) old
  one_wrong n wrong =
      poll_wrong old (steps.Poll m q) m q 1 one_taken (omega arith) tt (λ a reply. (tt, inr tt)) one_rows one_only there
      line line_is (replies.Took n) (λ tells. shut_reply line.closed n tells.1)
      (λ ns is may.
      let named = one_named (replies.Took n) ns is may in
      wrong
      (subst (λ (k : ℕ). MayTakeNos old.profile.order 1 line.stands (k ∷ [])) (same_no named.0 n named.1) named.2))
    where
      same_no : (k n : ℕ) → replies.Took n ≡ replies.Took k → k ≡ n
      same_no k n is = cc

  pub one_default : (reply : Reply) (verdict : Result (Unit {0}) Stop) → ((n : ℕ) → reply ≡ replies.Took n → ⊥)
      → MatchResult verdict (λ done. TellsNone line reply)
      (λ stop. (stop ≡ Stop.Illegal) × (TellsNone line reply → ⊥))
      → TellsOf old (record { step = steps.Poll m q; reply = reply }) verdict old
  one_default reply (Ok done) other tells =
      poll_none old (steps.Poll m q) m q 1 one_taken (omega arith) tt (λ a reply. (tt, inr tt)) one_rows one_only there
      line line_is reply tells
  one_default reply (Err Stop.NoMemory) other tells = absurd (stops_apart tells.0)
  one_default reply (Err Stop.Illegal) other tells =
      poll_wrong old (steps.Poll m q) m q 1 one_taken (omega arith) tt (λ a reply. (tt, inr tt)) one_rows one_only there
      line line_is reply tells.1
      (λ ns is may. let named = one_named reply ns is may in other named.0 named.1)

-- ---- a poll of several

module _ (old : Judged) (m q max : ℕ) (line : Line) (line_is : line ≡ slice_index_or old.lines q line)
    (sound : IsOfSomeState old) (none : polling_refusal old m q max ≡ None) where
  there : q < length old.lines
  there = queue_called old sound m q q refl (polls_call old m q max none).0

  some_rows : (a : State) → StandsFor old a → (reply : Reply) (b : State)
      → PollsAs old.profile.order a m q max replies.TookSome reply b
      → IsRowAs old.profile a (record { step = steps.Polls m q max; reply = reply }) b
  some_rows a stands reply b row =
      subst (λ (o : Option Fault). IsAnswerAs old.profile a o (steps.Polls m q max) reply b)
      (sym (polls_refusal old a stands m q max ∙ none)) row

  some_only : (a : State) → StandsFor old a → (reply : Reply) (b : State)
      → IsRowAs old.profile a (record { step = steps.Polls m q max; reply = reply }) b
      → PollsAs old.profile.order a m q max replies.TookSome reply b
  some_only a stands reply b h =
      subst (λ (o : Option Fault). IsAnswerAs old.profile a o (steps.Polls m q max) reply b)
      (polls_refusal old a stands m q max ∙ none) h

  pub some_takes : (ns : List ℕ) → MayTakeNos old.profile.order max line.stands ns
      → TellsOf old (record { step = steps.Polls m q max; reply = replies.TookSome ns }) (Ok tt)
      (queued old old.ground.tags (with_hand_at old.hands (Mutator m) (record { queue = q; objects = ns }))
      (slice_set old.lines q (record line { stands = without_each line.stands ns })))
  some_takes [] may = absurd (true≢false may.1)
  some_takes (n ∷ ns) may =
      poll_takes old (steps.Polls m q max) m q max replies.TookSome (polls_call old m q max none).1 tt
      (λ a reply. (tt, inr tt)) some_rows some_only there line line_is n ns may

  pub some_wrong : (ns : List ℕ) → (MayTakeNos old.profile.order max line.stands ns → ⊥)
      → TellsOf old (record { step = steps.Polls m q max; reply = replies.TookSome ns }) (Err Stop.Illegal) old
  some_wrong ns wrong =
      poll_wrong old (steps.Polls m q max) m q max replies.TookSome (polls_call old m q max none).1 tt
      (λ a reply. (tt, inr tt)) some_rows some_only there line line_is (replies.TookSome ns)
      (λ tells. shut_replies line.closed ns tells.1)
      (λ ks is may. wrong (subst (MayTakeNos old.profile.order max line.stands) (same_nos ks ns is) may))
    where
      same_nos : (ks ns : List ℕ) → replies.TookSome ns ≡ replies.TookSome ks → ks ≡ ns
      same_nos ks ns is = cc

  pub some_default : (reply : Reply) (verdict : Result (Unit {0}) Stop)
      → ((ns : List ℕ) → reply ≡ replies.TookSome ns → ⊥)
      → MatchResult verdict (λ done. TellsNone line reply)
      (λ stop. (stop ≡ Stop.Illegal) × (TellsNone line reply → ⊥))
      → TellsOf old (record { step = steps.Polls m q max; reply = reply }) verdict old
  some_default reply (Ok done) other tells =
      poll_none old (steps.Polls m q max) m q max replies.TookSome (polls_call old m q max none).1 tt
      (λ a reply. (tt, inr tt)) some_rows some_only there line line_is reply tells
  some_default reply (Err Stop.NoMemory) other tells = absurd (stops_apart tells.0)
  some_default reply (Err Stop.Illegal) other tells =
      poll_wrong old (steps.Polls m q max) m q max replies.TookSome (polls_call old m q max none).1 tt
      (λ a reply. (tt, inr tt)) some_rows some_only there line line_is reply tells.1 (λ ns is may. other ns is)
