use Rattle.ref_share.proofs.endings.end_both.Goals as goal

pub returns : goal.returns
returns g c = record {
  queue = c.finish.result;
  queue_left = c.finish.ensures.ok;
  queue_open = c.finish.ensures.err;
  count = c.end_queue-notices.ensures;
  table = c.finish-2.result;
  table_left = c.finish-2.ensures.ok;
  table_open = c.finish-2.ensures.err;
  run = c.run_jobs_left.ensures;
}
