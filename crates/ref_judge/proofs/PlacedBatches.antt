-- The batches that a judge takes: as many notices were put in before as it was told.
use Rattle.ref_base.proofs.Common.{◌≡◌, ℕ, ◌<◌, ◌≤◌, Bool, true, false, List, [], ◌∷◌, Option, Some, None}
use Rattle.ref_base.proofs.Common.{refl, ap, ◌∙◌, arith, length, inl, inr, zero, suc, cases_Bool}
use Rattle.std.proofs.lemmas.List.{get_or_default}
use Rattle.std.specs.Prelude.{◌^◌, nat_lt, slice_index_or}
use Rattle.ref_base.specs.Members.{first_of}
use Rattle.ref_base.specs.Outs.{Outs}
use Rattle.ref_base.specs.Refusals.{unless}
use Rattle.ref_base.specs.declared.actor.Actor.{Actor}
use Rattle.ref_base.specs.declared.fault.Fault.{Fault}
use Rattle.ref_base.specs.declared.fault.Fault.TheVariants.{NoSuchActor}
use Rattle.ref_base.specs.declared.reply.Reply.TheVariants as replies
use Rattle.ref_base.specs.declared.step.Step.TheVariants as steps
use Rattle.ref_judge.proofs.HeldFacts.{lawful_next}
use Rattle.ref_judge.proofs.LinesAlike.{line_below}
use Rattle.ref_judge.proofs.PutStates.{into_there}
use Rattle.ref_judge.proofs.PutTells.{puts_none}
use Rattle.ref_judge.proofs.QueueTells.{puts_refused}
use Rattle.ref_judge.proofs.ToldRows.{refused_alone}
use Rattle.ref_judge.specs.Judged.{AllHands, Judged, Line, first_notice_refusal, has_carrier, hand_at, no_line}
use Rattle.ref_judge.specs.Judged.{put_for, unless_nothing}
use Rattle.ref_judge.specs.Standing.{IsIllegal, IsOfSomeState}

-- ---- how many were put in before

none_out : (lines : List Line) (q : ℕ) → length lines ≤ q → (slice_index_or lines q no_line).put ≡ 0
none_out [] zero out = refl
none_out [] (suc q) out = refl
none_out (line ∷ lines) zero out = absurd (omega (arith, out))
none_out (line ∷ lines) (suc q) out = grind (arith, none_out lines q (omega (arith, out)))

-- they are fewer than 2^63
pub put_few : (j : Judged) → IsOfSomeState j → (who : Actor) → put_for j who < 2 ^ 63
put_few j sound who =
    let q : ℕ = (hand_at j.hands who).queue in
    let most = lawful_next j.profile j.config sound.state sound.stands.lawful in
    elim (cases_Bool (nat_lt q (length j.lines))) [
      | inl within ↦
          omega (
            arith,
            line_below j sound.state sound.stands q no_line (grind (arith, within)),
            most,
            sound.stands.next,
          )
      | inr out ↦ omega (arith, none_out j.lines q (grind (arith, out)))
    ]

-- ---- batches behind another number

-- a hand that isn't refused has a first notice
has_first : (hands : AllHands) (who : Actor) → first_notice_refusal hands who ≡ None
    → (n : ℕ) × (first_of (hand_at hands who).objects ≡ Some n)
has_first hands who accepted = by (has_carrier hands who) (hand_at hands who).objects accepted
  where
    by : (is : Bool) (ns : List ℕ) → unless is NoSuchActor (unless_nothing ns) ≡ None
        → (n : ℕ) × (first_of ns ≡ Some n)
    by false ns none = absurd cc
    by true [] none = absurd cc
    by true (n ∷ ns) none = (n, refl)

module _ (j : Judged) (sound : IsOfSomeState j) (who : Actor) (outs : Outs)
    (elsewhere : outs.before ≡ put_for j who → ⊥)
  where
    -- where the hand is empty, or isn't there, the put is refused
    empty_alone : (fault : Fault) → first_notice_refusal j.hands who ≡ Some fault
        → IsIllegal j (record { step = steps.Puts who; reply = replies.Outs outs })
    empty_alone fault refused =
        (refused_alone j (steps.Puts who) fault
        (λ reply verdict told. puts_refused j who fault reply verdict refused told)).alone (replies.Outs outs) differ
      where
        differ : replies.Refused fault ≡ replies.Outs outs → ⊥
        differ same = cc

    -- else its queue is there, and has had another number of notices
    accepted_alone : first_notice_refusal j.hands who ≡ None
        → IsIllegal j (record { step = steps.Puts who; reply = replies.Outs outs })
    accepted_alone accepted =
        let (n, first) = has_first j.hands who accepted in
        let q : ℕ = (hand_at j.hands who).queue in
        let line : Line = slice_index_or j.lines q no_line in
        let line_is : line ≡ slice_index_or j.lines q line =
        get_or_default j.lines q no_line line (into_there j sound.state sound.stands who n first) in
        (puts_none j who n accepted first line line_is (replies.Outs outs)
        (λ other is before may. elsewhere (ap (λ (o : Outs). o.before) (same_outs outs other is) ∙ before))).0
      where
        same_outs : (one other : Outs) → replies.Outs one ≡ replies.Outs other → one ≡ other
        same_outs one other same = cc

    -- a batch behind another number of notices than were put in is illegal
    pub placed_alone : IsIllegal j (record { step = steps.Puts who; reply = replies.Outs outs })
    placed_alone = by (first_notice_refusal j.hands who) refl
      where
        by : (o : Option Fault) → first_notice_refusal j.hands who ≡ o
            → IsIllegal j (record { step = steps.Puts who; reply = replies.Outs outs })
        by None accepted = accepted_alone accepted
        by (Some fault) refused = empty_alone fault refused
