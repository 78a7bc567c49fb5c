use Rattle.ref_objects.proofs.Common.{◌≡◌, ◌∙◌, ℕ, List, [], ◌∷◌, Ground, ap, refl, not, is_some}
use Rattle.ref_base.specs.Refusals.{is_empty}
use Rattle.ref_space.specs.Tables.{left_of}
use Rattle.ref_space.specs.Worklists.{first_in}
use Rattle.ref_objects.proofs.objects.Objects.has_left.Goals as goal

pub returns : goal.returns
returns g c =
    c.has_left.ensures ∙ some_first (left_of c.self.inside.table)
    ∙ ap (λ (g : Ground). not (is_empty g.space.still_to_move)) c.self.view_is
  where
    some_first : (ns : List ℕ) → is_some (first_in ns) ≡ not (is_empty ns)
    some_first [] = refl
    some_first (n ∷ ns) = refl
