use Rattle.std.proofs.Common.{sym, ap, ◌≡◌, ◌∙◌, subst, true, false}
use Rattle.ref_base.specs.DoomedSets.{refers_into}
use Rattle.ref_base.specs.Heaps.{reference_at}
use Rattle.ref_objects.specs.Grounds.{Ground}
use Rattle.ref_judge.specs.MarkEnding.{EndsTo, dooms, next_behind}
use Rattle.ref_judge.proofs.SparedMarks.{pass_doomed, pass_kept, pass_cut, cut_in}
use Rattle.ref_judge.proofs.survivors.mark_if_spared.Goals as goal

pub returns-then-refers_to_doomed : goal.returns-then-refers_to_doomed
returns-then-refers_to_doomed g c old few there walked =
    let end = c.args.end in
    let now = c.args.objects.now in
    let no = c.args.no in
    let refers =
    subst (λ (g : Ground). refers_into (dooms end g.tags) (reference_at g.heap no) ≡ true) c.mark.ensures.after
    (sym c.refers_to_doomed.ensures ∙ c.if-refers_to_doomed.true) in
    subst (EndsTo (next_behind now no) end old)
    (sym (c.cut.ensures ∙ ap (λ (g : Ground). cut_in end old now no few walked there g) c.mark.ensures.after))
    (pass_cut end old now no few walked there (sym c.is_spared.ensures ∙ c.if-is_spared.true) refers)

pub returns-else-refers_to_doomed : goal.returns-else-refers_to_doomed
returns-else-refers_to_doomed g c old few there walked =
    let end = c.args.end in
    let now = c.args.objects.now in
    let no = c.args.no in
    let refers =
    subst (λ (g : Ground). refers_into (dooms end g.tags) (reference_at g.heap no) ≡ false) c.mark.ensures.after
    (sym c.refers_to_doomed.ensures ∙ c.if-refers_to_doomed.false) in
    subst (EndsTo (next_behind now no) end old) (sym c.mark.ensures.after)
    (pass_kept end old now no few walked there (sym c.is_spared.ensures ∙ c.if-is_spared.true) refers)

pub returns-else-is_spared : goal.returns-else-is_spared
returns-else-is_spared g c old few there walked =
    pass_doomed c.args.end old c.args.objects.now c.args.no few walked there
    (sym c.is_spared.ensures ∙ c.if-is_spared.false)
