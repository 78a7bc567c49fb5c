use Rattle.ref_base.proofs.Common.{ℕ, List, refl, sym, ap, ◌∷◌, []}
use Rattle.ref_judge.proofs.SpreadLemmas.{shades_none, shades_item, shades_all}
use Rattle.ref_judge.proofs.marks.shade_each.Goals as goal

pub loop-no-init : goal.loop-no-init
loop-no-init g c = shades_none c.args.objects.now c.args.grey.now c.requires

pub shade-requires : goal.shade-requires
shade-requires g c = c.loop-no.invariant.grows

pub loop-no-preserved : goal.loop-no-preserved
loop-no-preserved g c =
    shades_item (λ (ns : List ℕ). ns) (λ xs ys. refl) _ _ _ _ _ _ c.no-item.result _ _ _ c.loop-no-test.true
    (ap (λ (n : ℕ). n ∷ []) (sym c.no-item.is)) c.loop-no.invariant c.shade.ensures

pub returns : goal.returns
returns g c =
    shades_all (λ (ns : List ℕ). ns) (λ xs ys. refl) _ _ _ _ _ _ c.loop-no-test.false c.loop-no.invariant
