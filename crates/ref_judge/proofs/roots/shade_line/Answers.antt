use Rattle.ref_base.proofs.Common.{ℕ, ◌<◌, List, refl, ap, sym, subst, ◌∙◌, ◌∷◌, [], length, get_or}
use Rattle.ref_judge.specs.Judged.{Line}
use Rattle.ref_judge.proofs.SpreadLemmas.{shades_item}
use Rattle.ref_judge.proofs.roots.shade_line.Goals as goal

pub loop-place-preserved : goal.loop-place-preserved
loop-place-preserved g c =
    let n : ℕ = c.index.result.now in
    let place : ℕ = c.loop-place.place in
    shades_item (λ (ns : List ℕ). ns) (λ xs ys. refl) _ _ _ _ _ _ n _ _ _
    (subst (λ (k : ℕ). place < k) (c.len-place-end.ensures ∙ c.line.inside.standing.ok.0 ∙ ap
    (λ (l : Line). length l.stands) c.line.view_is)
    c.loop-place-test.true)
    (ap (λ (l : Line). get_or l.stands place n ∷ []) (sym c.line.view_is)
    ∙ ap (λ (k : ℕ). k ∷ []) (sym c.index.ensures)) c.loop-place.invariant c.shade.ensures
