use Rattle.ref_share.proofs.Common.{subst, clean_view, TakesJob}
use Rattle.ref_share.proofs.cleaning.SharedCleaner+J+A.clean.Goals as goal

pub returns-in-Some-clause-cleans : goal.returns-in-Some-clause-cleans
returns-in-Some-clause-cleans g c = λ within.
    let takes = subst
    (λ taken. TakesJob (clean_view c.args.seat.now) c.args.cleanable.obj taken (clean_view c.take.new.seat))
    c.in-Some.is c.in_ok-take.ensures.takes in
    (c.in-Some.hold, c.in-Some.job, takes, c.run.ensures.ran, c.retire-back.ensures.retires)
