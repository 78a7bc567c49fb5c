use Rattle.ref_bench.proofs.cleaner_runs.jobs_registered_and_run.Goals as goal

pub register_and_run-sample-requires : goal.register_and_run-sample-requires
register_and_run-sample-requires g c =
    let made = c.in_ok-heap.ensures.made in
    record { seats = (c.split.ensures.seat.1, rw (made.config_is, made.number_is) made.seat.seat) }
