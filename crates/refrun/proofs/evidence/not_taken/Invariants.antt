use Rattle.refrun.proofs.Common.{◌≡◌, ℕ, true, take, flat_map, has}
use Rattle.refrun.proofs.evidence.not_taken.Given as goal

abbrev pub invariant-loop-number : goal.invariant-loop-number
invariant-loop-number g l =
    (n : ℕ) → has (take l.number-index l.taken) n ≡ true → has (flat_map (λ v. v.items) l.lists) n ≡ true
