-- Rows that close a queue.
use Rattle.ref_base.proofs.Common.{◌≡◌, ℕ, zero, suc, ◌<◌, Bool, true, false, List, [], ◌∷◌, length, Option, None}
use Rattle.ref_base.proofs.Common.{refl, sym, ap, ◌∙◌, subst, get_or, slice_index_or, slice_set, has, State, World}
use Rattle.ref_base.proofs.Common.{Notice}
use Rattle.ref_base.proofs.Common.{Lists, object_of, queue_at, new_queue, ticked, with_world, refusal, closed_queue}
use Rattle.ref_base.proofs.Common.{Closes}
use Rattle.ref_base.proofs.Common.{ltb-true, nat_lt}
use Rattle.ref_base.specs.QueueLists.{enqueued}
use Rattle.ref_base.specs.declared.config.Config.{Config}
use Rattle.ref_base.specs.declared.fault.Fault.{Fault}
use Rattle.ref_base.specs.declared.fault.Fault.TheVariants.{NoSuchActor, BadQueue}
use Rattle.ref_base.specs.declared.reply.Reply.{Reply}
use Rattle.ref_base.specs.declared.reply.Reply.TheVariants as replies
use Rattle.ref_base.specs.declared.step.Step.TheVariants as steps
use Rattle.ref_base.proofs.RowForms.{unless_passes}
use Rattle.std.proofs.lemmas.List.{get_or_default}
use Rattle.std.specs.Prelude.{Ok}
use Rattle.ref_judge.specs.Judged.{Judged, Line, AreLines, naming_refusal}
use Rattle.ref_judge.specs.ProfiledRows.{IsRowAs, IsAnswerAs}
use Rattle.ref_judge.specs.Standing.{StandsFor, DoesAs, LeadsOne, IsOfSomeState}
use Rattle.ref_judge.proofs.HandsAlike.{are_alike, sizes}
use Rattle.ref_judge.proofs.LinesAlike.{lines_same, line_same, set_line_alike}
use Rattle.ref_judge.proofs.QueuedStates.{queued, queued_to, others_of, ticked_queued, queued_stands, queued_says}
use Rattle.ref_judge.proofs.QueuedStates.{settled_queued}
use Rattle.ref_judge.proofs.SoundJudges.{leads_same, sound_after}

-- a closed queue has what it had
enqueued_closed : (qs : List (Lists Notice)) (q i : ℕ) (d e : Lists Notice)
    → enqueued object_of (slice_index_or (slice_set qs q (record (slice_index_or qs q d) { closed = true })) i e)
    ≡ enqueued object_of (slice_index_or qs i e)
enqueued_closed [] q i d e = refl
enqueued_closed (x ∷ qs) zero zero d e = refl
enqueued_closed (x ∷ qs) zero (suc i) d e = refl
enqueued_closed (x ∷ qs) (suc q) zero d e = refl
enqueued_closed (x ∷ qs) (suc q) (suc i) d e = enqueued_closed qs q i d e

-- the judge refuses it as the state does
pub calling_same : (j : Judged) (a : State) → StandsFor j a → (m q : ℕ)
    → refusal a (steps.Close m q) ≡ naming_refusal j.config m q
calling_same j a stands m q = ap (λ (c : Config). naming_refusal c m q) (sizes j a stands).config_is

pub queue_there : (j : Judged) (m q : ℕ) → IsOfSomeState j → naming_refusal j.config m q ≡ None → q < length j.lines
queue_there j m q sound none =
    let mutator = unless_passes (nat_lt m j.config.mutators) NoSuchActor _ none in
    subst (λ count. q < count) (sym (lines_same j sound.state sound.stands))
    (ltb-true q j.config.queues (unless_passes (nat_lt q j.config.queues) BadQueue None mutator.1).0)

module _ (old : Judged) (m q : ℕ) (none : naming_refusal old.config m q ≡ None) where
  -- a row that leaves these queues
  close_leads : (a : State) → StandsFor old a → (lines : List Line) (qs : List (Lists Notice)) (reply : Reply)
      → AreLines lines qs
      → ((n i : ℕ) → has (enqueued object_of (slice_index_or qs i (new_queue i))) n
      ≡ has (enqueued object_of (queue_at a.world i)) n)
      → Closes a q (queue_at a.world q).closed reply (ticked (with_world a (others_of a.world a.world qs)))
      → LeadsOne old (steps.Close m q) (Ok reply) (queued old old.ground.tags old.hands lines) a
  close_leads a stands lines qs reply are put row =
      let moments = (ticked (with_world a (others_of a.world a.world qs))).moments in
      let b : State = queued_to a (others_of a.world a.world qs) moments in
      let accepted : IsRowAs old.profile a (record { step = steps.Close m q; reply = reply }) b =
      subst (λ (o : Option Fault). IsAnswerAs old.profile a o (steps.Close m q) reply b)
      (sym (calling_same old a stands m q ∙ none))
      (subst (Closes a q (queue_at a.world q).closed reply) (ticked_queued a a.world qs) row) in
      leads_same old (queued old old.ground.tags old.hands lines) a b (steps.Close m q) (Ok reply) accepted
      (queued_stands old a stands old.ground.tags old.hands lines a.world qs moments
      (record { step = steps.Close m q; reply = reply }) tt accepted (are_alike old a stands) are (λ n. refl)
      (λ n i is. stands.tags.put n i is ∙ sym (put n i)))
      refl (queued_says old old.ground.tags old.hands lines)

  module _ (sound : IsOfSomeState old) (i : ℕ) (same : i ≡ q) (line : Line)
      (read : line ≡ get_or old.lines i line) where
    at : line ≡ get_or old.lines q line
    at = read ∙ ap (λ n. get_or old.lines n line) same

    there : q < length old.lines
    there = queue_there old m q sound none

    closed_is : (a : State) → StandsFor old a → (closed : Bool) → line.closed ≡ closed
        → (queue_at a.world q).closed ≡ closed
    closed_is a stands closed is =
        (line_same old a stands q line there).closed ∙ ap (λ (l : Line). l.closed) (sym at) ∙ is

    -- of a closed queue
    pub closes_none : line.closed ≡ true
        → DoesAs old (steps.Close m q) (Ok replies.Closed) (queued old old.ground.tags old.hands old.lines)
    closes_none closed = (
      refl,
      refl,
      λ a stands.
          close_leads a stands old.lines a.world.queues replies.Closed stands.lines (λ n k. refl)
          (subst (λ is. Closes a q is replies.Closed (ticked a)) (sym (closed_is a stands true closed)) (refl, refl)),
    )

    -- and of an open one
    pub closes_one : line.closed ≡ false → (view next : Line) → view ≡ next → next ≡ get_or old.lines i next
        → DoesAs old (steps.Close m q) (Ok replies.Done)
        (queued old old.ground.tags old.hands (slice_set old.lines i (record view { closed = true })))
    closes_one isnt view next is read-next =
        let first : get_or old.lines q line ≡ get_or old.lines q next =
        get_or_default old.lines q line next there in
        let viewed : line ≡ view =
        at ∙ first ∙ ap (λ n. get_or old.lines n next) (sym same) ∙ sym read-next ∙ sym is in
        subst (λ (x : ℕ × Line). DoesAs old (steps.Close m q) (Ok replies.Done)
        (queued old old.ground.tags old.hands (slice_set old.lines x.0 (record x.1 { closed = true }))))
        (ap (λ n. (n, line)) (sym same) ∙ ap (λ (l : Line). (i, l)) viewed) (
          refl,
          refl,
          λ a stands.
              (let w : World = a.world in
              let alike = line_same old a stands q line there in
              close_leads a stands (slice_set old.lines q (record line { closed = true }))
              (slice_set w.queues q (record (queue_at w q) { closed = true })) replies.Done
              (set_line_alike old.lines w.queues q (record line { closed = true })
              (record (queue_at w q) { closed = true })
              stands.lines
              (record {
                stands = alike.stands ∙ ap (λ (l : Line). l.stands) (sym at);
                put = alike.put ∙ ap (λ (l : Line). l.put) (sym at);
                closed = refl;
              }))
              (λ n k. ap (λ ns. has ns n) (enqueued_closed w.queues q k (new_queue q) (new_queue k)))
              (subst (λ is. Closes a q is replies.Done (ticked (with_world a (closed_queue w q))))
              (sym (closed_is a stands false isnt)) (refl, refl))),
        )

pub closed_sound : (old : Judged) (m q : ℕ) (lines : List Line) → IsOfSomeState old
    → DoesAs old (steps.Close m q) (Ok replies.Done) (queued old old.ground.tags old.hands lines)
    → IsOfSomeState (queued old old.ground.tags old.hands lines)
closed_sound old m q lines sound does =
    sound_after old (queued old old.ground.tags old.hands lines) (steps.Close m q) (Ok replies.Done) refl sound does
    (settled_queued old old.ground.tags old.hands lines sound.settled)
