use Rattle.std.proofs.lemmas.Result.{err_from_is_err_and}
use Rattle.std.proofs.Common.{◌∙◌, sym, true}
use Rattle.ref_base.specs.declared.plain_step.PlainStep.TheVariants as plain
use Rattle.ref_judge.proofs.LoadRows.{loads_to, loads_anew_to, loaded_sound}
use Rattle.ref_judge.proofs.SomeFits.{either_true}
use Rattle.ref_judge.proofs.StandingHeaps.{mutator_refused}
use Rattle.ref_judge.proofs.judge.Judge.load.Goals.{then-is_anew, else-is_anew}
use Rattle.ref_judge.proofs.judge.Judge.load.Goals as goal

pub returns-in_err-value : goal.returns-in_err-value
returns-in_err-value g c =
    let p = err_from_is_err_and c.from_residual.result c.from_residual.ensures.1 in
    rw (← c.self.view_is, p.1, p.2, c.in_err-value.ensures.after)
    (mutator_refused _ (plain.Load c.args.mutator c.args.slot c.args.object c.args.field) _ tt
    (λ a. c.in_err-value.ensures.refused))

pub invariant_of-self-then-is_anew : goal.invariant_of-self-then-is_anew
invariant_of-self-then-is_anew g c =
    let e = c.in_ok-value.ensures in
    let settled = c.self.invariant.settled in
    loaded_sound _ settled c.args.mutator c.args.slot c.args.object c.args.field c.in_ok-value.value _
    (record { refused = e.refused; answer = e.answer; after = e.after }) _ true (λ marks. either_true _)
    c.self.invariant
    (loads_anew_to _ settled c.args.mutator c.args.slot c.args.object c.args.field c.in_ok-value.value _
    (record { refused = e.refused; answer = e.answer; after = e.after }) _
    c.is_any_left-self-inside.ensures (sym c.is_anew.ensures ∙ c.if-is_anew.true))

pub invariant_of-self-else-is_anew : goal.invariant_of-self-else-is_anew
invariant_of-self-else-is_anew g c =
    let e = c.in_ok-value.ensures in
    let settled = c.self.invariant.settled in
    loaded_sound _ settled c.args.mutator c.args.slot c.args.object c.args.field c.in_ok-value.value _
    (record { refused = e.refused; answer = e.answer; after = e.after }) _ _ settled.may c.self.invariant
    (loads_to _ settled c.args.mutator c.args.slot c.args.object c.args.field c.in_ok-value.value _
    (record { refused = e.refused; answer = e.answer; after = e.after })
    (sym c.is_anew.ensures ∙ c.if-is_anew.false))

pub returns : goal.returns
returns g c =
    let e = c.in_ok-value.ensures in
    let settled = c.self.invariant.settled in
    rw (← c.self.view_is, c.value_reply.ensures)
    (elim c.if-is_anew.branch [
      | then-is_anew w ↦ rw w.self-is
          (loads_anew_to _ settled c.args.mutator c.args.slot c.args.object c.args.field c.in_ok-value.value _
          (record { refused = e.refused; answer = e.answer; after = e.after }) _
          w.is_any_left-self-inside.ensures (sym c.is_anew.ensures ∙ w.if-is_anew.true))
      | else-is_anew w ↦ rw w.self-is
          (loads_to _ settled c.args.mutator c.args.slot c.args.object c.args.field c.in_ok-value.value _
          (record { refused = e.refused; answer = e.answer; after = e.after })
          (sym c.is_anew.ensures ∙ w.if-is_anew.false))
    ])
