use Rattle.std.proofs.Common.{◌*◌, ◌∙◌, ap, sym, length, take, arith}
use Rattle.ref_space.specs.Pages.{chosen_frames, taken_in}
use Rattle.ref_space.proofs.ReserveLemmas.{KeepsChosen, kept_by, reserved_page}
use Rattle.ref_space.proofs.pages.Pages.reserve.Goals as goal
use Rattle.ref_space.proofs.pages.Pages.reserve.Given.{Over}

kept : (g : Over) (c : goal.In-loop-at g) → KeepsChosen c.args.self.now.uses c.loop-at.self.uses
kept g c =
    kept_by (c.args.self.now, c.args.forwards.now) (c.loop-at.self, c.loop-at.forwards)
    (taken_in c.args.self.now.uses (take c.loop-at.at (chosen_frames c.args.self.now.uses))) c.loop-at.invariant

pub chosen_frame-frame-requires : goal.chosen_frame-frame-requires
chosen_frame-frame-requires g c =
    let frames = ap length (kept g c).frames in
    omega (arith, frames, c.loop-at-test.true, c.chosen_count-at-end.ensures)

pub reserve_frame-requires-clause-each : goal.reserve_frame-requires-clause-each
reserve_frame-requires-clause-each g c =
    let still = kept_by (c.args.self.now, c.args.forwards.now) (c.loop-at.self, c.loop-at.forwards)
    (taken_in c.args.self.now.uses (take c.loop-at.at (chosen_frames c.args.self.now.uses))) c.loop-at.invariant in
    c.loop-at.auto.forwards ∙ c.requires.each ∙ ap (λ n. 64 * n) (sym still.size)

pub loop-at-preserved : goal.loop-at-preserved
loop-at-preserved g c =
    reserved_page (c.args.self.now, c.args.forwards.now) (c.loop-at.self, c.loop-at.forwards)
    (c.reserve_frame.new.self, c.reserve_frame.new.forwards) c.loop-at.at c.chosen_frame-frame.result
    (omega (arith, c.loop-at-test.true, c.chosen_count-at-end.ensures)) c.loop-at.invariant
    c.chosen_frame-frame.ensures.frame c.chosen_frame-frame.ensures.chosen c.reserve_frame.ensures
