use Rattle.refrun.proofs.Common.{◌≡◌, ℕ, true, take, flat_map, has}
use Rattle.refrun.proofs.lists.are_put_in.Given as goal

abbrev pub invariant-loop-list : goal.invariant-loop-list
invariant-loop-list g l =
    (n : ℕ) → has (flat_map (λ v. v.items) (take l.list-index l.kept)) n ≡ true → has l.enqueued n ≡ true

abbrev pub invariant-loop-number : goal.invariant-loop-number
invariant-loop-number g l = (n : ℕ) → has (take l.number-index l.number-items) n ≡ true → has l.enqueued n ≡ true
