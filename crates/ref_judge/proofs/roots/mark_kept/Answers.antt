use Rattle.ref_base.proofs.Common.{◌≡◌, ap, ◌∙◌, []}
use Rattle.ref_base.specs.KeptPaths.{is_kept}
use Rattle.ref_judge.specs.Judged.{AllHands}
use Rattle.ref_judge.proofs.SpreadLemmas.{spread_itself}
use Rattle.ref_judge.proofs.roots.mark_kept.Goals as goal

pub returns-clause-kept : goal.returns-clause-kept
returns-clause-kept g c =
    let keeps = is_kept c.args.policy in
    let start = c.args.objects.now in
    let at_first = spread_itself keeps start c.args.grey.now.stands c.requires.none in
    let mutators : c.deref.result.now ≡ c.args.hands.now.mutators =
    c.deref.ensures.value ∙ ap (λ (h : AllHands). h.mutators) c.hands.view_is in
    let workers : c.deref-2.result.now ≡ c.args.hands.now.workers =
    c.deref-2.ensures.value ∙ ap (λ (h : AllHands). h.workers) c.hands.view_is in
    let slots = c.shade_slots.ensures.spread keeps start [] at_first in
    let some = c.shade_hands.ensures.spread keeps start _ slots in
    let more = c.shade_hands-2.ensures.spread keeps start _ some in
    let lines = c.shade_lines.ensures.spread keeps start _ more in
    let pending = c.shade_pending.ensures.spread keeps start _ lines in
    rw (← mutators, ← workers, ← c.follow.ensures.none) (c.follow.ensures.follows.spread start _ pending)
