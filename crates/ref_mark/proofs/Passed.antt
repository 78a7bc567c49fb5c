-- What a step of the cycle that isn't refused has passed.
use Rattle.ref_mark.proofs.Common.{arith, ◌≡◌, ℕ, ◌<◌, true, refl, None, false≢true, is_in, work_refusal, Phase, Idle}
use Rattle.ref_mark.proofs.Common.{Marking, Clearing, Sweeping, Moving, CycleHeap}

pub is_clearing : (phase : Phase) → is_in phase Clearing ≡ true → phase ≡ Clearing
is_clearing Idle is = absurd (false≢true is)
is_clearing Marking is = absurd (false≢true is)
is_clearing Clearing is = refl
is_clearing Sweeping is = absurd (false≢true is)
is_clearing Moving is = absurd (false≢true is)

pub is_moving : (phase : Phase) → is_in phase Moving ≡ true → phase ≡ Moving
is_moving Idle is = absurd (false≢true is)
is_moving Marking is = absurd (false≢true is)
is_moving Clearing is = absurd (false≢true is)
is_moving Sweeping is = absurd (false≢true is)
is_moving Moving is = refl

pub is_idle : (phase : Phase) → is_in phase Idle ≡ true → phase ≡ Idle
is_idle Idle is = refl
is_idle Marking is = absurd (false≢true is)
is_idle Clearing is = absurd (false≢true is)
is_idle Sweeping is = absurd (false≢true is)
is_idle Moving is = absurd (false≢true is)

-- what a worker's step asks of the phase and the worker
pub work_passed : (k : CycleHeap) (phase : Phase) (w : ℕ) → work_refusal k.heap k.phase phase w ≡ None
    → (w < k.heap.config.workers) × (is_in k.phase phase ≡ true)
work_passed k phase w none = grind arith
