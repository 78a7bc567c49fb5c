use Rattle.std.proofs.Common.{◌<◌, ◌^◌, rules, sym, ap, ◌∙◌}
use Rattle.std.proofs.lemmas.Nat.Bits.{bit_at-trailing_zeros}
use Rattle.std.specs.Int.{w64}
use Rattle.ref_space.specs.Bits.{first_set, any_set}
use Rattle.ref_space.specs.Pages.{Use}
use Rattle.ref_space.proofs.BitLemmas.{first_set-bits_of, some_bit}
use Rattle.ref_space.proofs.page.Page.lowest_free.Goals as goal

pub returns : goal.returns
returns c =
    let small : c.self.inside.free < 2 ^ 64 = search rules in
    let some = some_bit c.self.inside.free small (ap (λ (p : Use). any_set p.free) c.self.view_is ∙ c.requires) in
    record {
      first = ap (λ (p : Use). first_set p.free) (sym c.self.view_is) ∙ first_set-bits_of c.self.inside.free some small;
      within = (bit_at-trailing_zeros w64 c.self.inside.free some small).0;
    }
