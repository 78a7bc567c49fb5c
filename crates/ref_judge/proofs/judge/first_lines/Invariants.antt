use Rattle.std.proofs.Common.{◌≡◌, vec_len, replicate}
use Rattle.std.specs.Vec.{vec_capacity}
use Rattle.ref_judge.specs.Judged.{no_line}
use Rattle.ref_judge.proofs.judge.first_lines.Given as goal

abbrev pub invariant-loop-queue : goal.invariant-loop-queue
invariant-loop-queue g l = record {
  are : l.lines.items ≡ replicate l._queue no_line;
  count : vec_len l.lines ≡ l._queue;
  room : vec_capacity l.lines ≡ l.fn.count;
}
