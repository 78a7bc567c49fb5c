use Rattle.ref_base.proofs.Common.{ℕ, ◌<◌, Pending, ap, sym, subst, ◌∙◌, ◌∷◌, [], length, get_or, map}
use Rattle.ref_judge.specs.Judged.{Finder}
use Rattle.ref_judge.proofs.SpreadLemmas.{shades_item, objects-parts}
use Rattle.ref_judge.proofs.roots.shade_waiting.Goals as goal

pub loop-place-preserved : goal.loop-place-preserved
loop-place-preserved g c =
    let p : Pending = c.index.result.now in
    let place : ℕ = c.loop-place.place in
    shades_item (map (λ (x : Pending). x.object)) objects-parts _ _ _ _ _ _ p _ _ _
    (subst (λ (k : ℕ). place < k) (c.len-place-end.ensures ∙ c.worker.inside.pending.ok.0 ∙ ap
    (λ (w : Finder). length w.pending) c.worker.view_is)
    c.loop-place-test.true)
    (ap (λ (w : Finder). (get_or w.pending place p).object ∷ []) (sym c.worker.view_is)
    ∙ ap (λ (x : Pending). x.object ∷ []) (sym c.index.ensures)
    ∙ ap (λ (x : Pending). x.object ∷ []) (sym c.behind-worker.view_is)) c.loop-place.invariant c.shade.ensures
