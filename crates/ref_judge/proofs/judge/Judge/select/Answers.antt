use Rattle.std.proofs.Common.{sym, ◌∙◌, inl, inr, ap, refl}
use Rattle.ref_base.specs.declared.step.Step.TheVariants as steps
use Rattle.ref_base.specs.declared.plain_step.PlainStep.TheVariants as plain
use Rattle.ref_base.specs.Refusals.{select_refusal}
use Rattle.ref_base.specs.declared.fault.Fault.TheVariants.{NoRoom, AddressesSpent}
use Rattle.ref_judge.proofs.judge.Judge.select.Goals.{in-NoRoom, in_default-fault}
use Rattle.ref_judge.specs.Judged.{Judged}
use Rattle.ref_judge.proofs.TestedRows.{refused_told, stays_told, select_known}
use Rattle.ref_judge.proofs.MovedRows.{choice_stays, no_choice, select_accepted, selected_told, selected_sound}
use Rattle.ref_judge.proofs.judge.Judge.select.Goals as goal

pub returns-in-Err : goal.returns-in-Err
returns-in-Err g c =
    refused_told c.args.self.now (steps.Plain plain.Select) c.args.reply c.in-Err.fault
    (λ a stands left found. sym (select_known c.args.self.now a stands) ∙ c.in-Err.ensures)
    c.is_refused.result c.is_refused.ensures

pub invariant_of-self : goal.invariant_of-self
invariant_of-self g c =
    selected_sound _ c.self.invariant
    (ap (λ (j : Judged). select_refusal j.phase j.was_chosen) c.self.view_is ∙ c.in_default.ensures)

pub returns-in-Selected : goal.returns-in-Selected
returns-in-Selected g c =
    rw (← c.self.view_is)
    (rw c.in-Selected.is (selected_told _ c.self.invariant c.in-Selected.field-0
    (ap (λ (j : Judged). select_refusal j.phase j.was_chosen) c.self.view_is ∙ c.in_default.ensures)))

pub returns-after-fault : goal.returns-after-fault
returns-after-fault g c =
    let j = c.args.self.now in
    rw c.in-Refused.is
    (elim c.match-fault.branch [
      | in-NoRoom w ↦
          rw w.result-is
          (stays_told j _ (choice_stays j c.in-Refused.fault w.in-NoRoom.is c.in_default.ensures))
      | in_default-fault w ↦
          rw w.result-is (
            no_choice j c.in-Refused.fault w.in_default-fault.not-NoRoom w.in_default-fault.not-AddressesSpent
                c.in_default.ensures,
            refl,
          )
    ])

pub returns-in_default-reply : goal.returns-in_default-reply
returns-in_default-reply g c = (
  λ a stands s t fits h.
      elim (select_accepted c.args.self.now a s t stands fits c.args.reply c.in_default.ensures h) [
        | inl chosen ↦ c.in_default-reply.not-Selected chosen.0 chosen.1.0
        | inr refused ↦ elim refused.0 [
          | inl room ↦ c.in_default-reply.not-Refused NoRoom room
          | inr spent ↦ c.in_default-reply.not-Refused AddressesSpent spent
        ]
      ],
  refl,
)
