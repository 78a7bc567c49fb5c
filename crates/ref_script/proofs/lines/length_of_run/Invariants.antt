use Rattle.ref_script.proofs.Common.{◌≡◌, ◌+◌, ◌==◌, drop, prefix_len}
use Rattle.ref_script.proofs.lines.length_of_run.Given as goal

abbrev pub invariant-loop-other : goal.invariant-loop-other
invariant-loop-other l =
    (l.count ≡ l.other-index) × (l.count + prefix_len (λ b. b == l.byte) (drop l.other-index l.bytes) ≡ prefix_len
    (λ b. b == l.byte) l.bytes)
