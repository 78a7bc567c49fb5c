use Rattle.ref_mark.proofs.Common.{◌≡◌, walk, listed, listed_at}
use Rattle.std.proofs.Common.{◌-◌}
use Rattle.ref_mark.proofs.chain.Chain.get.Given as goal

-- it is that at the rest of the places from here on
abbrev pub invariant-loop-step : goal.invariant-loop-step
invariant-loop-step g l =
    listed_at (listed l.fn.objects.tags l.fn.objects.heap.config.cells l.fn.self) l.fn.place
    ≡ listed_at (walk l.fn.objects.tags l.fn.self.last (l.fn.objects.heap.config.cells - l._step) l.no)
    (l.fn.place - l._step)
