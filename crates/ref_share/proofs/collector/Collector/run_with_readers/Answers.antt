use Rattle.ref_share.proofs.collector.Collector.run_with_readers.Goals as goal

pub returns-clause-collected : goal.returns-clause-collected
returns-clause-collected g c =
    rw (c.apart-own.ensures.parts, c.of-collector.ensures) c.join-read.ensures.second.1.1
