use Rattle.ref_base.proofs.Common.{arith}
use Rattle.ref_base.proofs.HasLaws.{has-list_any}
use Rattle.ref_base.proofs.StrengthLaws.{found-nowhere, found-phantom, found-soft, found-strong, found-weak}
use Rattle.ref_graph.proofs.reachability.Found.reach_of.Goals as goal

pub returns-in-Some : goal.returns-in-Some
returns-in-Some g c =
    search (found-strong c.args.self.now.reached c.args.self.now.hung c.args.self.now.strong
    c.args.self.now.soft c.args.no c.in-Some.place c.in-Some.ensures.place)

pub returns-in-Some-2 : goal.returns-in-Some-2
returns-in-Some-2 g c =
    grind (
      arith,
      found-soft c.args.self.now.reached c.args.self.now.hung c.args.self.now.strong c.args.self.now.soft
          c.args.no c.in-Some-2.place c.in-Some-2.ensures.place,
    )

pub returns-in-Some-3 : goal.returns-in-Some-3
returns-in-Some-3 g c =
    grind (
      arith,
      found-weak c.args.self.now.reached c.args.self.now.hung c.args.self.now.strong c.args.self.now.soft
          c.args.no c.in-Some-2.place c.in-Some-2.ensures.place,
    )

pub returns-in-None : goal.returns-in-None
returns-in-None g c = grind (arith, found-phantom, has-list_any)

pub returns-in-None-2 : goal.returns-in-None-2
returns-in-None-2 g c = grind (arith, found-nowhere, has-list_any)
