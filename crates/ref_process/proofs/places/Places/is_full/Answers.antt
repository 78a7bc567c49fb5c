use Rattle.std.proofs.Common.{arith, ◌≡◌, ◌<◌, false, true, length}
use Rattle.std.proofs.lemmas.Bool.{cases_eq}
use Rattle.std.proofs.lemmas.Bool.Decides.{nat_tests}
use Rattle.ref_process.specs.Places.{any_vacancy}
use Rattle.ref_process.proofs.VacantPlaces.{none_where, any_where}
use Rattle.ref_process.proofs.places.Places.is_full.Goals as goal

pub returns-then-is_empty : goal.returns-then-is_empty
returns-then-is_empty g c =
    let none : length c.self.inside.free.items ≡ 0 = grind (arith, nat_tests, c.self.inside.free.ok.0) in
    let no : any_vacancy c.self.inside.places.items ≡ false =
    none_where c.self.inside.places.items c.self.inside.free.items c.self.invariant.0 none in
    rw (← c.self.view_is) (grind (arith, nat_tests, cases_eq, no, c.self.inside.places.ok.0))

pub returns-else-is_empty : goal.returns-else-is_empty
returns-else-is_empty g c =
    let some : 0 < length c.self.inside.free.items = grind (arith, nat_tests, c.self.inside.free.ok.0) in
    let any : any_vacancy c.self.inside.places.items ≡ true =
    any_where c.self.inside.places.items c.self.inside.free.items c.self.invariant.0 some in
    rw (← c.self.view_is) (grind (arith, cases_eq, any))
