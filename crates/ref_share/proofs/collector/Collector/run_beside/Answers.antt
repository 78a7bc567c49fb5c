use Rattle.ref_share.proofs.collector.Collector.run_beside.Goals as goal

pub returns-clause-collected : goal.returns-clause-collected
returns-clause-collected g c = rw (c.apart-own.ensures.parts, c.of-collector.ensures) c.go_beside-ran.ensures.left.1
