use Rattle.ref_space.proofs.Common.{◌≡◌, ◌∙◌, sym, subst, target_of}
use Rattle.std.specs.Bool.{OnTrue}
use Rattle.ref_space.specs.Naming.{IsHealed, IsInColour}
use Rattle.ref_space.proofs.WordLemmas.{coloured_has}
use Rattle.ref_space.specs.Tables.{brought, left_of, without_if_any}
use Rattle.ref_space.proofs.BroughtLemmas.{good_stays}
use Rattle.ref_space.proofs.CellChanges.{colour_seen}
use Rattle.ref_space.proofs.NamingLemmas.{coloured_leads}
use Rattle.ref_space.proofs.table.Table.is_good.Goals as goal

pub returns-then-has_colour-clause-healed : goal.returns-then-has_colour-clause-healed
returns-then-has_colour-clause-healed g c =
    let t = c.args.self.now in
    subst (λ b. OnTrue b (IsHealed t c.args.value)) (sym c.if-has_colour.true)
    (coloured_leads t.round.good t.ways t.occupants c.args.value c.requires
    (colour_seen c.self.invariant c.self.view_is c.args.value (sym c.has_colour.ensures ∙ c.if-has_colour.true)))

pub returns-then-has_colour-clause-good : goal.returns-then-has_colour-clause-good
returns-then-has_colour-clause-good g c =
    subst (λ b. OnTrue b (IsInColour c.args.self.now.round.good c.args.value)) (sym c.if-has_colour.true)
    (coloured_has c.args.self.now.round.good c.args.value
    (colour_seen c.self.invariant c.self.view_is c.args.value (sym c.has_colour.ensures ∙ c.if-has_colour.true)))

pub returns-then-has_colour-clause-stays : goal.returns-then-has_colour-clause-stays
returns-then-has_colour-clause-stays g c =
    subst (λ b. OnTrue b (brought c.args.self.now (target_of c.args.self.now c.args.value) ≡ c.args.self.now))
    (sym c.if-has_colour.true)
    (good_stays c.self.invariant c.self.view_is c.args.value c.requires
    (colour_seen c.self.invariant c.self.view_is c.args.value (sym c.has_colour.ensures ∙ c.if-has_colour.true))).0

pub returns-then-has_colour-clause-left : goal.returns-then-has_colour-clause-left
returns-then-has_colour-clause-left g c =
    subst (λ b. OnTrue b
    (without_if_any (left_of c.args.self.now) (target_of c.args.self.now c.args.value) ≡ left_of c.args.self.now))
    (sym c.if-has_colour.true)
    (good_stays c.self.invariant c.self.view_is c.args.value c.requires
    (colour_seen c.self.invariant c.self.view_is c.args.value (sym c.has_colour.ensures ∙ c.if-has_colour.true))).1
