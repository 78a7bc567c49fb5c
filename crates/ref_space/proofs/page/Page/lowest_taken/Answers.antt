use Rattle.std.proofs.Common.{◌<◌, ◌^◌, rules, sym, ap, subst, ◌∙◌, Some}
use Rattle.std.proofs.lemmas.Nat.Bits.{bit_at-trailing_ones}
use Rattle.std.specs.Int.{trailing_ones, w64}
use Rattle.ref_space.specs.Bits.{first_clear}
use Rattle.ref_space.specs.Pages.{Use, taken_cells}
use Rattle.ref_space.proofs.BitLemmas.{first_clear-bits_of, some_clear}
use Rattle.ref_space.proofs.page.Page.lowest_taken.Goals as goal

pub returns : goal.returns
returns c =
    let small : c.self.inside.free < 2 ^ 64 = search rules in
    let some = some_clear c.self.inside.free small
    (subst (λ (p : Use). 0 < taken_cells p) (sym c.self.view_is) c.requires) in
    let told = bit_at-trailing_ones w64 c.self.inside.free some in
    record {
      first = ap (λ (p : Use). first_clear p.free) (sym c.self.view_is)
          ∙ first_clear-bits_of c.self.inside.free (trailing_ones w64 c.self.inside.free) told
          ∙ ap Some (sym c.trailing_ones.ensures);
      within = subst (λ r. r < 64) (sym c.trailing_ones.ensures) told.0;
    }
