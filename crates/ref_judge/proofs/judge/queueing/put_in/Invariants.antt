use Rattle.std.proofs.Common.{◌≡◌, ◌≤◌, ◌+◌, ◌++◌, take, length}
use Rattle.std.specs.VecDeque.{deque_len, deque_capacity}
use Rattle.ref_judge.specs.Queueing.{linked_each}
use Rattle.ref_judge.proofs.judge.queueing.put_in.Given as goal

abbrev pub invariant-loop-no : goal.invariant-loop-no
invariant-loop-no g l = record {
  objects : l.objects ≡ record l.fn.objects { tags = linked_each l.fn.objects.tags (take l.no-index l.fn.numbers) };
  items : l.line-inside.standing.items ≡ l.fn.line.stands ++ take l.no-index l.fn.numbers;
  others : (l.line-inside.put ≡ l.fn.line.put) × (l.line-inside.is_closed ≡ l.fn.line.closed);
  room : deque_len l.line-inside.standing + length l.fn.numbers ≤ deque_capacity l.line-inside.standing + l.no-index;
}
