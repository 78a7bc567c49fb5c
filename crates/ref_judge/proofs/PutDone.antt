-- A judge that took a put: what its code read and wrote is what the put is told to have done, and leaves it sound.
use Rattle.ref_base.proofs.Common.{◌≡◌, ℕ, Bool, true, false, List, [], ◌∷◌, length, Option, Some, None, refl, sym, ap}
use Rattle.ref_base.proofs.Common.{◌∙◌, subst, slice_index_or, slice_set, false≢true}
use Rattle.std.specs.Prelude.{Ok, Err}
use Rattle.std.proofs.Common.{◌+◌, ◌≤◌}
use Rattle.std.proofs.lemmas.List.{get_or_read, set-get_or}
use Rattle.ref_base.specs.Members.{first_of}
use Rattle.ref_base.specs.Outs.{Outs, is_added}
use Rattle.ref_base.specs.QueueBatches.{added_among, not_added}
use Rattle.ref_base.specs.declared.actor.Actor.{Actor}
use Rattle.ref_base.specs.declared.out.Done.{Done}
use Rattle.ref_base.specs.declared.out.Done.TheVariants.{Added}
use Rattle.ref_base.specs.declared.reply.Reply.{Reply}
use Rattle.ref_base.specs.declared.reply.Reply.TheVariants as replies
use Rattle.ref_base.specs.declared.step.Step.TheVariants as steps
use Rattle.ref_objects.specs.Grounds.{Ground, IsWellFormed}
use Rattle.ref_base.specs.Refusals.{unless}
use Rattle.ref_base.specs.declared.fault.Fault.{Fault}
use Rattle.ref_base.specs.declared.fault.Fault.TheVariants.{NoSuchActor}
use Rattle.std.proofs.Common.{◌<◌}
use Rattle.ref_judge.specs.Judged.{has_carrier, unless_nothing, Judged, AllHands, Line, hand_at, with_hand_at}
use Rattle.ref_judge.specs.Judged.{with_rest_at, first_notice_refusal, is_put}
use Rattle.ref_judge.specs.Queueing.{told_put, may_become, may_become_each, linked_each, line_with}
use Rattle.ref_judge.specs.Standing.{IsSettled, IsOfSomeState, TellsOf}
use Rattle.ref_judge.specs.declared.stop.Stop.{Stop}
use Rattle.ref_judge.proofs.PutOneTells.{added_tells, other_tells, put_none, put_room}
use Rattle.ref_judge.proofs.PutStates.{into_there}
use Rattle.ref_judge.proofs.PutTells.{puts_tells, puts_none, puts_room}
use Rattle.ref_judge.proofs.QueuedStates.{queued, settled_queued}
use Rattle.ref_judge.proofs.SoundJudges.{sound_told}

-- a queue that is read twice is the same
pub read_twice : (lines : List Line) (q : ℕ) (one other : Line) → q < length lines → one ≡ slice_index_or lines q one
    → other ≡ slice_index_or lines q other → one ≡ other
read_twice lines q one other within is also =
    get_or_read lines q one within is other ∙ sym also

-- a queue that is written as it was
pub written_back : (lines : List Line) (q : ℕ) (line new : Line) → line ≡ slice_index_or lines q line → new ≡ line
    → slice_set lines q new ≡ lines
written_back lines q line new is same =
    ap (slice_set lines q) (same ∙ is) ∙ set-get_or lines q line

-- what the code read: the hand has a first notice, and this is its queue
pub record Reads (old : Judged) (who : Actor) (n q : ℕ) (line : Line) : Type 0 where
  pub accepted : first_notice_refusal old.hands who ≡ None
  pub first : first_of (hand_at old.hands who).objects ≡ Some n
  pub into : q ≡ (hand_at old.hands who).queue
  pub read : line ≡ slice_index_or old.lines q line

module _ (old : Judged) (who : Actor) (n q : ℕ) (line : Line) (reads : Reads old who n q line) where
  own_line : line ≡ slice_index_or old.lines (hand_at old.hands who).queue line
  own_line = subst (λ (r : ℕ). line ≡ slice_index_or old.lines r line) reads.into reads.read

  -- the queue is there
  pub reads_within : IsOfSomeState old → q < length old.lines
  reads_within sound =
      subst (λ (r : ℕ). r < length old.lines) (sym reads.into)
      (into_there old sound.state sound.stands who n reads.first)

  module _ (sound : IsOfSomeState old) (also : Line) (also_is : also ≡ slice_index_or old.lines q also)
      (formed : IsWellFormed old.ground) where
    same_line : also ≡ line
    same_line = read_twice old.lines q also line (reads_within sound) also_is reads.read

    -- ---- all notices of the hand

    module _ (reply : Reply) (outs : Outs) (reply_is : reply ≡ replies.Outs outs) (before : outs.before ≡ line.put)
        (may : may_become_each old.ground.tags [] line.closed (hand_at old.hands who).objects outs.done ≡ true)
        (added : List ℕ) (added_is : added ≡ added_among (hand_at old.hands who).objects outs.done) where
      pub puts_fit : also.put + length added ≤ old.ground.next
      puts_fit =
          rw (same_line, added_is)
          (puts_room old who n reads.accepted reads.first line own_line formed outs before may sound.state sound.stands)

      module _ (left : List ℕ) (left_is : left ≡ not_added (hand_at old.hands who).objects outs.done) (ground : Ground)
          (ground_is : ground ≡ record old.ground { tags = linked_each old.ground.tags added }) (new : Line)
          (new_is : new ≡ line_with also added) (r : ℕ) (r_is : r ≡ (hand_at old.hands who).queue) (hands : AllHands)
          (hands_is : hands ≡ with_hand_at old.hands who (record { queue = r; objects = left })) where
        after_is : record old { ground = ground; hands = hands; lines = slice_set old.lines q new }
            ≡ queued old (linked_each old.ground.tags (added_among (hand_at old.hands who).objects outs.done))
            (with_hand_at old.hands who (record {
              queue = (hand_at old.hands who).queue;
              objects = not_added (hand_at old.hands who).objects outs.done;
            }))
            (slice_set old.lines (hand_at old.hands who).queue
            (line_with line (added_among (hand_at old.hands who).objects outs.done)))
        after_is = rw (ground_is, hands_is, new_is, same_line, added_is, left_is, r_is, reads.into) refl

        pub puts_told : TellsOf old (record { step = steps.Puts who; reply = reply }) (Ok tt)
            (record old { ground = ground; hands = hands; lines = slice_set old.lines q new })
        puts_told =
            subst (TellsOf old (record { step = steps.Puts who; reply = reply }) (Ok tt)) (sym after_is)
            (subst (λ (told : Reply). TellsOf old (record { step = steps.Puts who; reply = told }) (Ok tt)
            (queued old (linked_each old.ground.tags (added_among (hand_at old.hands who).objects outs.done))
            (with_hand_at old.hands who (record {
              queue = (hand_at old.hands who).queue;
              objects = not_added (hand_at old.hands who).objects outs.done;
            }))
            (slice_set old.lines (hand_at old.hands who).queue
            (line_with line (added_among (hand_at old.hands who).objects outs.done))))) (sym reply_is)
            (puts_tells old who n reads.accepted reads.first line own_line formed outs before may))

        pub puts_sound :
            IsOfSomeState (record old { ground = ground; hands = hands; lines = slice_set old.lines q new })
        puts_sound =
            sound_told old (record old { ground = ground; hands = hands; lines = slice_set old.lines q new })
            (record { step = steps.Puts who; reply = reply }) sound puts_told
            (subst IsSettled (sym after_is) (settled_queued old _ _ _ sound.settled))

    -- ---- the first one

    module _ (reply : Reply) (d : Done) (told : told_put line.put reply ≡ Some d)
        (may : may_become (is_put old.ground.tags n) line.closed d ≡ true) (is : is_added d ≡ true) where
      one_added : (d : Done) → is_added d ≡ true → d ≡ Added
      one_added Added is = refl
      one_added d is = absurd cc

      added_may : may_become (is_put old.ground.tags n) line.closed Added ≡ true
      added_may =
          subst (λ (e : Done). may_become (is_put old.ground.tags n) line.closed e ≡ true) (one_added d is) may

      pub put_fits : also.put + 1 ≤ old.ground.next
      put_fits =
          rw same_line
          (put_room old who n reads.accepted reads.first line own_line formed added_may sound.state sound.stands)

      module _ (ground : Ground)
          (ground_is : ground ≡ record old.ground { tags = linked_each old.ground.tags (n ∷ []) }) (new : Line)
          (new_is : new ≡ line_with also (n ∷ [])) (hands : AllHands)
          (hands_is : hands ≡ with_rest_at old.hands who) where
        one_is : record old { ground = ground; hands = hands; lines = slice_set old.lines q new }
            ≡ queued old (linked_each old.ground.tags (n ∷ [])) (with_rest_at old.hands who)
            (slice_set old.lines (hand_at old.hands who).queue (line_with line (n ∷ [])))
        one_is = rw (ground_is, hands_is, new_is, same_line, reads.into) refl

        pub put_told : TellsOf old (record { step = steps.Put who; reply = reply }) (Ok tt)
            (record old { ground = ground; hands = hands; lines = slice_set old.lines q new })
        put_told =
            subst (TellsOf old (record { step = steps.Put who; reply = reply }) (Ok tt)) (sym one_is)
            (added_tells old who n reads.accepted reads.first line own_line formed reply
            (told ∙ ap (λ (e : Done). Some e) (one_added d is)) added_may)

        pub put_sound : IsOfSomeState (record old { ground = ground; hands = hands; lines = slice_set old.lines q new })
        put_sound =
            sound_told old (record old { ground = ground; hands = hands; lines = slice_set old.lines q new })
            (record { step = steps.Put who; reply = reply }) sound put_told
            (subst IsSettled (sym one_is) (settled_queued old _ _ _ sound.settled))

    -- the judge as it was, where memory was refused
    pub refused_sound : (ground : Ground) → ground ≡ old.ground → (new : Line) → new ≡ also
        → IsOfSomeState (record old { ground = ground; lines = slice_set old.lines q new })
    refused_sound ground ground_is new new_is =
        rw (ground_is, written_back old.lines q also new also_is new_is) sound

  -- ---- what isn't taken

  pub puts_wrong : (reply : Reply) (outs : Outs) → reply ≡ replies.Outs outs
      → (outs.before ≡ line.put
      → may_become_each old.ground.tags [] line.closed (hand_at old.hands who).objects outs.done ≡ true → ⊥)
      → TellsOf old (record { step = steps.Puts who; reply = reply }) (Err Stop.Illegal) old
  puts_wrong reply outs is wrong =
      puts_none old who n reads.accepted reads.first line own_line reply
      (λ (other : Outs) told before may.
      let same : other ≡ outs = same_outs other outs (sym told ∙ is) in
      wrong (ap (λ (o : Outs). o.before) (sym same) ∙ before)
      (subst (λ (o : Outs). may_become_each old.ground.tags [] line.closed (hand_at old.hands who).objects o.done
      ≡ true) same may))
    where
      same_outs : (one other : Outs) → replies.Outs one ≡ replies.Outs other → one ≡ other
      same_outs one other same = cc

  pub puts_other : (reply : Reply) → ((outs : Outs) → reply ≡ replies.Outs outs → ⊥)
      → TellsOf old (record { step = steps.Puts who; reply = reply }) (Err Stop.Illegal) old
  puts_other reply other =
      puts_none old who n reads.accepted reads.first line own_line reply (λ outs is before may. other outs is)

  pub put_wrong : (reply : Reply)
      → ((d : Done) → told_put line.put reply ≡ Some d
      → may_become (is_put old.ground.tags n) line.closed d ≡ true → ⊥)
      → TellsOf old (record { step = steps.Put who; reply = reply }) (Err Stop.Illegal) old
  put_wrong reply wrong = put_none old who n reads.accepted reads.first line own_line reply wrong

  pub put_still : (reply : Reply) (d : Done) → told_put line.put reply ≡ Some d
      → may_become (is_put old.ground.tags n) line.closed d ≡ true → is_added d ≡ false
      → TellsOf old (record { step = steps.Put who; reply = reply }) (Ok tt) old
  put_still reply d told may isnt =
      other_tells old who n reads.accepted reads.first line own_line reply d told may isnt

-- what is read so
pub reading : (old : Judged) (who : Actor) (n q r : ℕ) (line seen : Line) → q ≡ r
    → r ≡ (hand_at old.hands who).queue → first_notice_refusal old.hands who ≡ None
    → first_of (hand_at old.hands who).objects ≡ Some n → line ≡ seen → seen ≡ slice_index_or old.lines q seen
    → Reads old who n q line
reading old who n q r line seen named is accepted first view read = record {
  accepted = accepted;
  first = first;
  into = named ∙ is;
  read = subst (λ (l : Line). l ≡ slice_index_or old.lines q l) (sym view) read;
}

-- the queue of a hand's first notice is there
pub queue_there : (old : Judged) → IsOfSomeState old → (who : Actor) (n q r : ℕ) → q ≡ r
    → r ≡ (hand_at old.hands who).queue → first_of (hand_at old.hands who).objects ≡ Some n → q < length old.lines
queue_there old sound who n q r named is first =
    subst (λ (k : ℕ). k < length old.lines) (sym (named ∙ is)) (into_there old sound.state sound.stands who n first)

-- an actor that isn't refused is there
pub hand_accepted : (hands : AllHands) (who : Actor) → first_notice_refusal hands who ≡ None
    → has_carrier hands who ≡ true
hand_accepted hands who accepted = passes (has_carrier hands who) (unless_nothing (hand_at hands who).objects) accepted
  where
    passes : (is : Bool) (later : Option Fault) → unless is NoSuchActor later ≡ None → is ≡ true
    passes true later none = refl
    passes false later none = absurd cc

-- what can't have become of a notice is no row
pub put_refuses : (old : Judged) (who : Actor) (n q : ℕ) (line : Line) → Reads old who n q line → (reply : Reply)
    (d : Done) → told_put line.put reply ≡ Some d → may_become (is_put old.ground.tags n) line.closed d ≡ false
    → TellsOf old (record { step = steps.Put who; reply = reply }) (Err Stop.Illegal) old
put_refuses old who n q line reads reply d told wrong =
    put_wrong old who n q line reads reply (λ (e : Done) also may.
    false≢true (sym wrong ∙ subst (λ (x : Done). may_become (is_put old.ground.tags n) line.closed x ≡ true)
    (same_done e d (sym also ∙ told)) may))
  where
    same_done : (e d : Done) → Some e ≡ Some d → e ≡ d
    same_done e d same = cc
