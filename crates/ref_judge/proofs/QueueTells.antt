-- A row of queues that fits no state of a judge's value, and how its step is refused.
use Rattle.ref_base.proofs.Common.{◌≡◌, Bool, State, Option, Some, ap, ◌∙◌, subst, is_in}
use Rattle.ref_base.proofs.Common.{hand_of, unless, is_actor}
use Rattle.ref_base.specs.Refusals.{empty_hand_refusal}
use Rattle.std.specs.Prelude.{Result, MatchResult}
use Rattle.ref_base.specs.declared.reply.Reply.{Reply}
use Rattle.ref_base.specs.declared.reply.Reply.TheVariants as replies
use Rattle.ref_judge.specs.declared.stop.Stop.{Stop}
use Rattle.ref_base.proofs.FreeRows.{KeepsRow, like}
use Rattle.ref_base.specs.declared.actor.Actor.{Actor}
use Rattle.ref_base.specs.declared.fault.Fault.{Fault}
use Rattle.ref_base.specs.declared.fault.Fault.TheVariants.{NoSuchActor}
use Rattle.ref_base.specs.declared.phase.Phase.TheVariants.{Marking, Clearing}
use Rattle.ref_base.specs.declared.row.Row.{Row}
use Rattle.ref_base.specs.declared.step.Step.TheVariants as steps
use Rattle.ref_judge.specs.Judged.{Judged, has_carrier, hand_at, first_notice_refusal}
use Rattle.ref_judge.specs.ProfiledRows.{IsRowAs}
use Rattle.ref_judge.specs.Standing.{StandsFor, HasNone, TellsOf}
use Rattle.ref_judge.proofs.HandsAlike.{actor_same, hand_same, nothing_same}
use Rattle.ref_judge.proofs.KeepingRows.{free_row_as}
use Rattle.ref_judge.proofs.ToldRows.{fits_free, refused_tells}

-- what no row of the state is, is none of any that fits
pub none_fits : (old : Judged) (a : State) (row : Row) → KeepsRow a row
    → ((b : State) → IsRowAs old.profile a row b → ⊥) → HasNone old row a
none_fits old a row keeps none s t fits h =
    let (left, found, free) = fits_free old a s (is_in old.phase Marking) (is_in old.phase Clearing) fits in
    let all =
    free_row_as old.profile a t left found row keeps
    (subst (λ (u : State). IsRowAs old.profile u row t) free h) in
    none (like t a) all.0

-- a put is refused where the hand is empty, or isn't there
pub put_refusal : (old : Judged) (a : State) (who : Actor) → StandsFor old a
    → unless (is_actor a.world.heap who) NoSuchActor (empty_hand_refusal (hand_of a.world who))
    ≡ first_notice_refusal old.hands who
put_refusal old a who stands =
    ap (λ (is : Bool). unless is NoSuchActor (empty_hand_refusal (hand_of a.world who))) (actor_same old a stands who)
    ∙ ap (λ (later : Option Fault). unless (has_carrier old.hands who) NoSuchActor later)
    (nothing_same (hand_at old.hands who) (hand_of a.world who) (hand_same old a stands who))

pub put_refused : (old : Judged) (who : Actor) (fault : Fault) (reply : Reply) (verdict : Result (Unit {0}) Stop)
    → first_notice_refusal old.hands who ≡ Some fault
    → MatchResult verdict (λ done. replies.Refused fault ≡ reply)
    (λ stop. (stop ≡ Stop.Illegal) × (replies.Refused fault ≡ reply → ⊥))
    → TellsOf old (record { step = steps.Put who; reply = reply }) verdict old
put_refused old who fault reply verdict refused told =
    refused_tells old (steps.Put who) fault reply verdict (λ a stands. (tt, put_refusal old a who stands ∙ refused))
    told

pub puts_refused : (old : Judged) (who : Actor) (fault : Fault) (reply : Reply) (verdict : Result (Unit {0}) Stop)
    → first_notice_refusal old.hands who ≡ Some fault
    → MatchResult verdict (λ done. replies.Refused fault ≡ reply)
    (λ stop. (stop ≡ Stop.Illegal) × (replies.Refused fault ≡ reply → ⊥))
    → TellsOf old (record { step = steps.Puts who; reply = reply }) verdict old
puts_refused old who fault reply verdict refused told =
    refused_tells old (steps.Puts who) fault reply verdict (λ a stands. (tt, put_refusal old a who stands ∙ refused))
    told
