use Rattle.ref_space.specs.Moves.{ways_of}
use Rattle.ref_space.specs.Tables.{is_marked}
use Rattle.ref_space.proofs.Common.{refl, from_bool, arith, target_by, occupants_of, tabled_by}
use Rattle.ref_space.proofs.NamingLemmas.{numbers_by-named}
use Rattle.ref_space.proofs.table.Table.marked_count.Goals as goal

pub returns : goal.returns
returns g c =
    grind (
      arith,
      numbers_by-named (target_by (ways_of c.self.inside.pages c.self.inside.forwards.items c.self.inside.last_good
          c.self.inside.is_tuned) (occupants_of c.self.inside.cells.items))
          (λ k. from_bool (is_marked c.self.inside.round.number k)) (λ k. refl)
          (tabled_by c.self.inside.cells.items c.self.inside.index.items),
    )
