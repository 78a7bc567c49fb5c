use Rattle.ref_base.proofs.Common.{sym, ap, ◌∙◌}
use Rattle.ref_space.specs.Worklists.{with_last}
use Rattle.ref_judge.proofs.SpreadLemmas.{room_for, shades_marked, shades_other}
use Rattle.ref_judge.proofs.marks.shade.Goals as goal

pub push-requires : goal.push-requires
push-requires g c =
    room_for c.args.objects.now c.args.grey.now c.requires c.args.no c.mark.new.self
    (sym c.mark.ensures.answer ∙ c.if-mark.true) c.mark.ensures.after c.known.ensures

pub returns-then-mark : goal.returns-then-mark
returns-then-mark g c =
    shades_marked c.args.objects.now c.args.grey.now c.requires c.args.no c.mark.new.self c.push.new.self
    (sym c.mark.ensures.answer ∙ c.if-mark.true) c.mark.ensures.after
    (c.push.ensures ∙ ap (with_last c.args.grey.now) c.of.ensures)

pub returns-else-mark : goal.returns-else-mark
returns-else-mark g c =
    shades_other c.args.objects.now c.args.grey.now c.requires c.args.no c.mark.new.self
    (sym c.mark.ensures.answer ∙ c.if-mark.false) c.mark.ensures.after
