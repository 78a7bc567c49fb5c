use Rattle.std.proofs.Common.{◌*◌, ◌<◌, arith, length, subst}
use Rattle.std.specs.Option.{IfSome}
use Rattle.ref_space.specs.Pages.{place_in_frame}
use Rattle.ref_space.proofs.pages.Pages.reserve_place.Goals as goal

pub overflow_mul-forwards : goal.overflow_mul-forwards
overflow_mul-forwards g c =
    let within = subst (λ at. IfSome at (λ a. place_in_frame a < 64 * length c.args.self.now.uses)) c.in-Some.is
    c.place.ensures.within in omega (arith, within, c.requires.each, c.requires.small)

pub overflow_add-forwards : goal.overflow_add-forwards
overflow_add-forwards g c =
    let within = subst (λ at. IfSome at (λ a. place_in_frame a < 64 * length c.args.self.now.uses)) c.in-Some.is
    c.place.ensures.within in omega (arith, within, c.requires.each, c.requires.small)

pub overflow_cast-forwards-in-Some : goal.overflow_cast-forwards-in-Some
overflow_cast-forwards-in-Some g c =
    let within = subst (λ at. IfSome at (λ a. place_in_frame a < 64 * length c.args.self.now.uses)) c.in-Some.is
    c.place.ensures.within in omega (arith, within, c.requires.each, c.requires.small)
