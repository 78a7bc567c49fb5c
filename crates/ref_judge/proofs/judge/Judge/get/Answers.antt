use Rattle.std.proofs.lemmas.Result.{err_from_is_err_and}
use Rattle.std.proofs.Common.{◌∙◌, sym}
use Rattle.ref_base.specs.declared.plain_step.PlainStep.TheVariants as plain
use Rattle.ref_judge.proofs.GotRows.{gets_to, gets_anew_to, got_sound, plainly_sound, got_tuned, got_room}
use Rattle.ref_judge.proofs.StandingHeaps.{mutator_refused}
use Rattle.ref_judge.proofs.judge.Judge.get.Goals.{then-is_anew, else-is_anew}
use Rattle.ref_judge.proofs.judge.Judge.get.Goals as goal

pub returns-in_err-value : goal.returns-in_err-value
returns-in_err-value g c =
    let p = err_from_is_err_and c.from_residual.result c.from_residual.ensures.1 in
    rw (← c.self.view_is, p.1, p.2, c.in_err-value.ensures.after)
    (mutator_refused _ (plain.Get c.args.mutator c.args.slot c.args.reference) _ tt
    (λ a. c.in_err-value.ensures.refused))

pub mark_got-requires-clause-tuned : goal.mark_got-requires-clause-tuned
mark_got-requires-clause-tuned g c =
    let e = c.in_ok-value.ensures in
    got_tuned _ c.self.invariant.settled c.args.mutator c.args.slot c.args.reference c.in_ok-value.value _
    (record { refused = e.refused; answer = e.answer; after = e.after; formed = c.known.ensures })
    (sym c.is_anew.ensures ∙ c.if-is_anew.true)

pub mark_got-requires-clause-room : goal.mark_got-requires-clause-room
mark_got-requires-clause-room g c =
    let e = c.in_ok-value.ensures in
    got_room _ c.self.invariant.settled c.args.mutator c.args.slot c.args.reference c.in_ok-value.value _
    (record { refused = e.refused; answer = e.answer; after = e.after; formed = c.known.ensures })

pub invariant_of-self-then-is_anew : goal.invariant_of-self-then-is_anew
invariant_of-self-then-is_anew g c =
    let e = c.in_ok-value.ensures in
    got_sound _ c.self.invariant.settled c.args.mutator c.args.slot c.args.reference c.in_ok-value.value _
    (record { refused = e.refused; answer = e.answer; after = e.after; formed = c.known.ensures })
    c.mark_got.new.objects c.mark_got.new.grey _ (rw c.policy_as-policy.ensures at c.mark_got.ensures.got)
    c.mark_got.ensures.none c.mark_got.ensures.room c.is_any_left-self-inside.ensures
    (sym c.is_anew.ensures ∙ c.if-is_anew.true) c.self.invariant

pub invariant_of-self-else-is_anew : goal.invariant_of-self-else-is_anew
invariant_of-self-else-is_anew g c =
    let e = c.in_ok-value.ensures in
    plainly_sound _ c.self.invariant.settled c.args.mutator c.args.slot c.args.reference c.in_ok-value.value _
    (record { refused = e.refused; answer = e.answer; after = e.after; formed = c.known.ensures })
    (sym c.is_anew.ensures ∙ c.if-is_anew.false) c.self.invariant

pub returns : goal.returns
returns g c =
    let e = c.in_ok-value.ensures in
    rw (← c.self.view_is, c.value_reply.ensures)
    (elim c.if-is_anew.branch [
      | then-is_anew w ↦ rw w.self-is
          (gets_anew_to _ c.self.invariant.settled c.args.mutator c.args.slot c.args.reference c.in_ok-value.value _
          (record { refused = e.refused; answer = e.answer; after = e.after; formed = c.known.ensures })
          w.mark_got.new.objects w.mark_got.new.grey _ (rw w.policy_as-policy.ensures at w.mark_got.ensures.got)
          w.mark_got.ensures.none w.mark_got.ensures.room w.is_any_left-self-inside.ensures
          (sym c.is_anew.ensures ∙ w.if-is_anew.true))
      | else-is_anew w ↦ rw w.self-is
          (gets_to _ c.self.invariant.settled c.args.mutator c.args.slot c.args.reference c.in_ok-value.value _
          (record { refused = e.refused; answer = e.answer; after = e.after; formed = c.known.ensures })
          (sym c.is_anew.ensures ∙ w.if-is_anew.false))
    ])
