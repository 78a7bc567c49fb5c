use Rattle.ref_turn.proofs.Common.{rules, ◌∷◌, refl, sym, ap, ◌∙◌, Some, rest}
use Rattle.ref_turn.proofs.Runs.{reached, ran}
use Rattle.ref_turn.proofs.turn.Turn.run.Goals as goal

pub slot_mut-requires : goal.slot_mut-requires
slot_mut-requires g c =
    let held = c.requires.turn.1 in let has = held.1.1 in
    (search rules, (Some held.0, has ∙ ap (λ l. (0, Some held.0) ∷ rest l) (sym has)))

pub append-requires-clause-turn : goal.append-requires-clause-turn
append-requires-clause-turn g c =
    reached g.M.Machine.stands_for g.M.Machine.steps_to g.M.Machine.acts g.met.M.Machine.follows c.args.place.now.me.0
    c.args.place.now.me.1 _ _ _ _ _ _ c.requires.turn c.slot_mut.ensures.value c.in-Some.is c.of-asked.ensures
    c.apply-reply.ensures

pub returns-clause-history : goal.returns-clause-history
returns-clause-history g c =
    let v = c.args.place.now.me.0 in
    let after =
    reached g.M.Machine.stands_for g.M.Machine.steps_to g.M.Machine.acts g.met.M.Machine.follows v
    c.args.place.now.me.1 _ _ _ _ _ _ c.requires.turn c.slot_mut.ensures.value c.in-Some.is c.of-asked.ensures
    c.apply-reply.ensures in
    ran _ _ v c.append.new.place.me.0 _ after.0 refl c.requires.turn.0.1 after.2
    c.append.ensures.extends c.append.ensures.seen
