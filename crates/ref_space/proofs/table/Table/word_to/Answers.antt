use Rattle.ref_space.proofs.Common.{◌∙◌, ap, arith, sym, subst, true, false}
use Rattle.ref_space.proofs.CellChanges.{within_here, frame_here, word_named, word_led}
use Rattle.ref_space.specs.Naming.{IsHealed, target_of}
use Rattle.ref_space.proofs.table.Table.word_to.Goals.{then-is_chosen, else-is_chosen}
use Rattle.ref_space.proofs.table.Table.word_to.Goals as goal

pub is_chosen-requires : goal.is_chosen-requires
is_chosen-requires g c = frame_here c.self.invariant c.self.view_is c.args.place c.requires

pub overflow_cast-place : goal.overflow_cast-place
overflow_cast-place g c =
    let within = within_here c.self.invariant c.self.view_is c.args.place c.requires in
    omega (arith, within, c.self.invariant.0.placed.small)

pub of_place-requires : goal.of_place-requires
of_place-requires g c =
    let within = within_here c.self.invariant c.self.view_is c.args.place c.requires in
    omega (arith, within, c.self.invariant.0.placed.small)

pub returns-clause-named : goal.returns-clause-named
returns-clause-named g c =
    ap (target_of c.args.self.now) c.of_place.ensures
    ∙ word_named c.self.invariant c.self.view_is c.args.place c.requires c.if-is_chosen.colour

pub returns-clause-healed : goal.returns-clause-healed
returns-clause-healed g c =
    subst (IsHealed c.args.self.now) (sym c.of_place.ensures)
    (elim c.if-is_chosen.branch [
      | then-is_chosen w ↦
          word_led c.self.invariant c.self.view_is c.args.place c.requires true
          (sym c.is_chosen.ensures ∙ w.if-is_chosen.true) c.if-is_chosen.colour w.colour-is
      | else-is_chosen w ↦
          word_led c.self.invariant c.self.view_is c.args.place c.requires false
          (sym c.is_chosen.ensures ∙ w.if-is_chosen.false) c.if-is_chosen.colour w.colour-is
    ])
