use Rattle.ref_turn.proofs.Common.{◌∷◌, [], ◌++◌, Some, sym, ap, ◌∙◌, subst, opening, first_view}
use Rattle.ref_turn.specs.declared.history.Origin.{Origin}
use Rattle.ref_turn.specs.Rule.{Turned}
use Rattle.ref_turn.proofs.Comings.{starts}
use Rattle.ref_turn.proofs.turn.Turn.starting.Goals as goal

pub new-requires : goal.new-requires
new-requires g c =
    let origin : Origin g.row.M.Denot = record { first = c.args.first; start = c.of.result } in
    let words = c.args.first ∷ c.args.first ∷ [] in
    let one = c.in_default.ensures.items ∙ ap (λ xs. xs ++ Some c.args.machine ∷ []) c.new-slots.ensures.items in
    subst (λ xs. Turned g.M.Machine.stands_for g.M.Machine.steps_to origin (opening words xs (first_view origin)))
    (sym one) (starts _ _ origin c.args.machine c.of.ensures c.ranges.first.fits)
