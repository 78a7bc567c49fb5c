use Rattle.ref_turn.proofs.Common.{rules, [], ◌∷◌, ◌++◌, refl, sym, ap, ◌∙◌, append-nil, rest, entry}
use Rattle.ref_turn.proofs.Keeps.{adds}
use Rattle.ref_turn.proofs.turn.Turn.append.Goals as goal

pub fetch_add-requires : goal.fetch_add-requires
fetch_add-requires g c =
    let turn = c.requires.turn in let said = c.requires.said in (
      search rules,
      search rules,
      adds _ _ _ _ _ c.args.place.now.me _ _ turn.0 c.args.self.now.sized.1 turn.1.0 turn.1.1 said refl turn.2,
    )

pub returns-clause-idle : goal.returns-clause-idle
returns-clause-idle g c =
    let now = c.fetch_add.ensures.2 _ c.requires.said in
    (ap (λ m. m.0.stage) now, ap (λ m. m.1) now ∙ ap rest c.requires.turn.1.1)

pub returns-clause-extends : goal.returns-clause-extends
returns-clause-extends g c =
    let now = c.fetch_add.ensures.2 _ c.requires.said in
    let e = entry c.args.place.now.me.0.number c.args.asked.now.value c.args.reply.now in (
      (ap (λ m. m.0.number) now, ap (λ m. m.0.first) now, ap (λ m. m.0.start) now),
      ([], ap (λ m. m.0.seen) now ∙ ap (λ l. l ++ e ∷ []) (sym (append-nil c.args.place.now.me.0.seen))),
      ap (λ m. m.0.mine) now,
    )
