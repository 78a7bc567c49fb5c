use Rattle.ref_space.proofs.Common.{arith, sym, ◌∙◌}
use Rattle.ref_space.proofs.CondemnLemmas.{has_room, one_more, one_passed, all_cells, all_numbers}
use Rattle.ref_space.proofs.index.condemn.Goals.{then-condemn_one, else-condemn_one}
use Rattle.ref_space.proofs.index.condemn.Goals as goal

pub push-requires : goal.push-requires
push-requires g c = grind (arith, has_room)

pub loop-entry-preserved : goal.loop-entry-preserved
loop-entry-preserved g c =
    elim c.if-condemn_one.branch [
      | then-condemn_one w ↦
          one_more c.args.round c.args.index.now c.args.cells.now c.args.condemned.now c.loop-entry.cells
          c.loop-entry.condemned c.loop-entry.entry-index c.loop-entry.invariant c.entry-item.result
          c.loop-entry-test.true c.entry-item.is c.condemn_one.ensures.after
          (sym c.condemn_one.ensures.answer ∙ w.if-condemn_one.true) (w.condemned-is ∙ w.push.ensures)
      | else-condemn_one w ↦
          rw w.condemned-is
          (one_passed c.args.round c.args.index.now c.args.cells.now c.args.condemned.now c.loop-entry.cells
          c.loop-entry.condemned c.loop-entry.entry-index c.loop-entry.invariant c.entry-item.result
          c.loop-entry-test.true c.entry-item.is c.condemn_one.ensures.after
          (sym c.condemn_one.ensures.answer ∙ w.if-condemn_one.false))
    ]

pub returns-clause-cells : goal.returns-clause-cells
returns-clause-cells g c = grind (arith, all_cells)

pub returns-clause-list : goal.returns-clause-list
returns-clause-list g c = grind (arith, all_numbers)
