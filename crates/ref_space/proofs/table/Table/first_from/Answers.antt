use Rattle.ref_space.specs.Moves.{ways_of}
use Rattle.ref_space.proofs.Common.{refl, true, arith, target_by, occupants_of}
use Rattle.ref_space.proofs.NamingLemmas.{first_where-named}
use Rattle.ref_space.proofs.table.Table.first_from.Goals as goal

pub returns : goal.returns
returns g c =
    grind (
      arith,
      first_where-named (target_by (ways_of c.self.inside.pages c.self.inside.forwards.items c.self.inside.last_good
          c.self.inside.is_tuned) (occupants_of c.self.inside.cells.items)) (λ k. true)
          (λ k. refl),
    )
