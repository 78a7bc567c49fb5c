use Rattle.ref_base.proofs.Common.{◌≡◌, ◌<◌, ap, arith, length, take}
use Rattle.ref_base.proofs.FilledLemmas.{filled-pushed}
use Rattle.ref_base.specs.Outs.{Outs}
use Rattle.ref_base.specs.declared.out.Done.TheVariants.{Added}
use Rattle.ref_base.proofs.outs.Outs.push.Goals as goal

pub invariant_of-self : goal.invariant_of-self
invariant_of-self c =
    let seen : length (take c.self.inside.count c.self.inside.done) ≡ length c.args.self.now.done =
    ap (λ (o : Outs). length o.done) c.self.view_is in
    let room : c.self.inside.count < 32 = omega (arith, seen, c.self.invariant.1.counted, c.requires) in
    rw c.from.ensures (
      c.self.invariant.0,
      filled-pushed Added c.args.done c.self.inside.done c.self.inside.count c.self.invariant.1 room,
    )
