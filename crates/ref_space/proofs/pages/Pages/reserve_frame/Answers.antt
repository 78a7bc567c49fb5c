use Rattle.std.proofs.Common.{◌≡◌, ◌*◌, ◌∙◌, ℕ, List, false, ap, sym, get_or, take}
use Rattle.ref_space.specs.Pages.{Pages, taken_places, use_of}
use Rattle.ref_space.proofs.ReserveLemmas.{kept_by, whole_chosen, passed_over, reserved_one}
use Rattle.ref_space.proofs.ReserveLemmas.{all_looked_at}
use Rattle.ref_space.proofs.pages.Pages.reserve_frame.Goals as goal
use Rattle.ref_space.proofs.pages.Pages.reserve_frame.Goals.{then-not-is_set, else-not-is_set}

pub reserve_place-requires-clause-each : goal.reserve_place-requires-clause-each
reserve_place-requires-clause-each g c =
    let still = kept_by (c.args.self.now, c.args.forwards.now) (c.loop-cell.self, c.loop-cell.forwards)
    (taken_places (64 * c.args.frame) (take c.loop-cell.cell (use_of c.args.self.now.uses c.args.frame).free))
    c.loop-cell.invariant in
    c.loop-cell.auto.forwards ∙ c.requires.each ∙ ap (λ n. 64 * n) (sym still.size)

pub loop-cell-preserved : goal.loop-cell-preserved
loop-cell-preserved g c =
    let start : Pages × List ℕ = (c.args.self.now, c.args.forwards.now) in
    let whole = whole_chosen c.args.self.now.uses c.args.frame c.requires.whole c.requires.chosen in
    let read : get_or (use_of c.args.self.now.uses c.args.frame).free c.loop-cell.cell false ≡ c.is_set.result =
    ap (λ bs. get_or bs c.loop-cell.cell false) (sym c.free_cells-free.ensures) ∙ sym c.is_set.ensures in
    elim c.if-not-is_set.branch [
      | then-not-is_set w ↦
          reserved_one start (c.loop-cell.self, c.loop-cell.forwards) c.args.frame c.loop-cell.cell c.requires.chosen
          whole c.loop-cell-test.true c.loop-cell.invariant (read ∙ w.if-not-is_set.true)
          (c.if-not-is_set.self, c.if-not-is_set.forwards)
          ((λ i. (w.self-is i, w.forwards-is i)) ∙ w.reserve_place.ensures)
      | else-not-is_set w ↦
          (λ i. (w.self-is i, w.forwards-is i))
          ∙ passed_over start (c.loop-cell.self, c.loop-cell.forwards) c.args.frame c.loop-cell.cell c.requires.chosen
          whole c.loop-cell-test.true c.loop-cell.invariant (read ∙ w.if-not-is_set.false)
    ]

pub returns : goal.returns
returns g c =
    all_looked_at (c.args.self.now, c.args.forwards.now) (c.loop-cell.self, c.loop-cell.forwards) c.args.frame
    c.loop-cell.cell (whole_chosen c.args.self.now.uses c.args.frame c.requires.whole c.requires.chosen)
    c.loop-cell-test.false c.loop-cell.invariant
