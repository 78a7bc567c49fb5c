use Rattle.ref_base.proofs.Common.{◌∷◌, [], subst}
use Rattle.ref_base.specs.KeptPaths.{is_kept}
use Rattle.ref_judge.specs.Spreading.{Spread}
use Rattle.ref_judge.proofs.SpreadLemmas.{spread_itself, but_twice}
use Rattle.ref_judge.proofs.marks.mark_got.Goals as goal

pub returns-then-not-keeps_more-clause-got : goal.returns-then-not-keeps_more-clause-got
returns-then-not-keeps_more-clause-got g c =
    let keeps = is_kept c.args.policy in
    let start = c.args.objects.now in
    let at_first = spread_itself keeps start c.args.grey.now.stands c.requires.none in
    rw c.in-Some.is (record {
      same = but_twice start c.shade.new.objects c.follow.new.objects c.shade.ensures.same
          c.follow.ensures.follows.same;
      spread = λ less.
          subst (Spread keeps start (c.in-Some.no ∷ []) c.follow.new.objects) c.follow.ensures.none
          (c.follow.ensures.follows.spread start (c.in-Some.no ∷ []) (c.shade.ensures.spread keeps start [] at_first));
    })
