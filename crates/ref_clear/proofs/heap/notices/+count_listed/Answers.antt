use Rattle.ref_clear.proofs.Common.{◌≡◌, ◌-◌, true, suc, arith}
use Rattle.ref_base.specs.Refusals.{goes_with}
use Rattle.ref_clear.proofs.CountedFronts.{counted_more, first_stands, left_chain}
use Rattle.ref_clear.proofs.heap.notices.+count_listed.Goals as goal

pub count_listed-requires : goal.count_listed-requires
count_listed-requires g t c κs within = (
  omega (arith, c.decreases, c.if-max-eq0.false),
  (within, left_chain c.requires c.take_first.ensures.answer c.in-Some.is c.take_first.ensures.after),
)

pub returns : goal.returns
returns g t c =
    let max_is : c.args.max ≡ suc (c.args.max - 1) = omega (arith, c.if-max-eq0.false) in
    let goes : goes_with c.args.first c.of.result ≡ true = grind arith in
    rw max_is
    (counted_more c.args.first (c.args.max - 1) _ _ c.of.result c.count_listed.result
    (first_stands c.requires c.take_first.ensures.answer c.in-Some.is c.take_first.ensures.after c.of.ensures) goes
    c.count_listed.ensures)
