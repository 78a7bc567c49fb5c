use Rattle.refrun.proofs.Common.{◌≡◌, ℕ, true, take, flat_map, has}
use Rattle.refrun.proofs.evidence.not_put_in.Given as goal

abbrev pub invariant-loop-mutator : goal.invariant-loop-mutator
invariant-loop-mutator g l =
    (n : ℕ) → has (flat_map (λ v. v.items) (take l.mutator l.kept)) n ≡ true → has l.enqueued n ≡ true
