use Rattle.std.proofs.Common.{◌≡◌, ◌<◌, sym, subst, length}
use Rattle.ref_space.specs.Pages.{Pages, place_of}
use Rattle.ref_space.proofs.FrameLemmas.{framed_there, read_place}
use Rattle.ref_space.proofs.pages.Pages.place_of.Goals as goal

pub returns : goal.returns
returns g c =
    let ps = c.self.inside.pages.items in
    let within : c.args.frame < length ps =
    subst (λ (s : Pages). c.args.frame < length s.uses) (sym c.self.view_is) c.requires in
    let place = read_place ps c.self.invariant.framed c.self.inside.places.items c.args.frame c.index.result.now
    c.self.invariant.sized c.self.invariant.mapped within c.index.ensures in
    record {
      place = subst (λ (s : Pages). c.index.result.now ≡ place_of s.uses c.args.frame) c.self.view_is place;
      within = subst (λ (s : Pages). c.index.result.now < length s.uses) c.self.view_is
          (subst (λ n. n < length ps) (sym place) (framed_there ps c.self.invariant.framed c.args.frame within));
    }
