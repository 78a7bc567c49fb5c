use Rattle.ref_space.proofs.Common.{◌≡◌, ◌∙◌, false, ap, sym, subst, target_of}
use Rattle.ref_space.specs.Naming.{IsHealed, IsInColour}
use Rattle.ref_space.specs.Tables.{Table}
use Rattle.ref_space.proofs.WordLemmas.{recoloured_has}
use Rattle.ref_space.specs.Pages.{has_chosen}
use Rattle.ref_space.proofs.BroughtLemmas.{nothing_moves, recoloured_held}
use Rattle.ref_space.proofs.table.Table.bring.Goals as goal
use Rattle.ref_space.proofs.table.Table.bring.Given.{Over}

none : (g : Over) (c : goal.After-in_colour g) → has_chosen c.self.inside.pages.uses ≡ false
none g c = sym c.has_chosen.ensures ∙ c.if-has_chosen.false

pub returns-clause-named : goal.returns-clause-named
returns-clause-named g c =
    ap (target_of c.args.self.now) c.in_colour.ensures
    ∙ (recoloured_held c.self.invariant c.self.view_is (none g c) c.args.value c.requires).0

pub returns-clause-healed : goal.returns-clause-healed
returns-clause-healed g c =
    subst (IsHealed c.args.self.now) (sym c.in_colour.ensures)
    (recoloured_held c.self.invariant c.self.view_is (none g c) c.args.value c.requires).1

pub returns-clause-good : goal.returns-clause-good
returns-clause-good g c =
    subst (λ (t : Table). IsInColour t.round.good c.in_colour.result) c.self.view_is
    (subst (IsInColour c.self.inside.round.good) (sym c.in_colour.ensures)
    (recoloured_has c.self.inside.round.good c.args.value))

pub returns-clause-after : goal.returns-clause-after
returns-clause-after g c =
    sym (nothing_moves c.self.invariant c.self.view_is (none g c) (target_of c.args.self.now c.args.value)).0

pub returns-clause-left : goal.returns-clause-left
returns-clause-left g c =
    sym (nothing_moves c.self.invariant c.self.view_is (none g c) (target_of c.args.self.now c.args.value)).1
