-- Lists of threads that call a shared heap.
use Rattle.std.proofs.Common.{◌≡◌, List, [], ◌∷◌, ◌++◌, sym, subst}
use Rattle.std.proofs.lemmas.List.Elements.{All-push}
use Rattle.std.specs.List.{All}
use Rattle.ref_share.specs.HeapSeats.{IsHeapSeat}
use Rattle.ref_bench.specs.declared.heap_runs.Caller.{Caller}

-- one more caller that has its seat
pub seated_more : (old new : List Caller) (caller : Caller) → All (λ c. IsHeapSeat c.heap.now c.seat) old
    → IsHeapSeat caller.heap.now caller.seat → new ≡ old ++ caller ∷ [] → All (λ c. IsHeapSeat c.heap.now c.seat) new
seated_more old new caller before one more =
    subst (All (λ (c : Caller). IsHeapSeat c.heap.now c.seat)) (sym more)
    (All-push (λ (c : Caller). IsHeapSeat c.heap.now c.seat) old caller before one)
