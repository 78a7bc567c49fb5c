-- Where a state says in a mark that an object is left, one is: each row of a heap keeps this.
use Rattle.ref_base.proofs.Common.{arith, ◌≡◌, ℕ, ◌+◌, ◌<◌, Bool, true, false, List, inl, inr, refl, sym, ap, ◌∙◌}
use Rattle.ref_base.proofs.Common.{subst, false≢true, has, Graph, Policy, EverKept, NamedStep, begun, State, joined}
use Rattle.ref_base.proofs.Common.{is_in, HeapAccepts, begun_state, Scans, IsBut, IsLeft, ticked, Phase, Marking, Reply}
use Rattle.ref_base.specs.CollectorRows.{free_cells}
use Rattle.ref_base.proofs.Outcomes.{Becomes, outcome, IsNoEnd, heap_becomes}
use Rattle.ref_base.proofs.OutcomeParts.{mark_of, mark_in, outcome_stage}
use Rattle.ref_base.specs.declared.heap_step.HeapStep.TheVariants as heap
use Rattle.ref_base.specs.declared.plain_step.PlainStep.TheVariants as plain
use Rattle.ref_base.specs.declared.reply.Reply.TheVariants as replies

-- where it is said in a mark that an object is left, one is
abbrev pub LeftMeans : State → Type 0
LeftMeans a = is_in a.world.phase Marking ≡ true → a.left ≡ true → (n : ℕ) × IsLeft a n

-- ---- it goes by the mark alone

abbrev IsLeftIn : Phase × Policy × List Graph × ℕ × List (List ℕ) × Bool → ℕ → Type 0
IsLeftIn mark n = EverKept mark.1 mark.2 n × (n < mark.3) × (has (joined mark.4) n ≡ false)

abbrev MeansIn : Phase × Policy × List Graph × ℕ × List (List ℕ) × Bool → Type 0
MeansIn mark = is_in mark.0 Marking ≡ true → mark.5 ≡ true → (n : ℕ) × IsLeftIn mark n

pub left_kept : (a c : State) → mark_of c ≡ mark_of a → LeftMeans a → LeftMeans c
left_kept a c same means = subst MeansIn (sym same) means

-- ---- the states that a row leaves

-- what is left stays left as the mark goes on, since what was ever kept stays so
left_ticked : (c : State) → LeftMeans c → LeftMeans (ticked c)
left_ticked c means = grind arith

-- what says it anew says it rightly
left_anew : (c b : State) → IsBut c b → LeftMeans b
left_anew c b but _ said = but.2 (sym (ap (λ (s : State). s.left) but.1) ∙ said)

pub left_becomes : (c b : State) → LeftMeans c → Becomes c b → LeftMeans b
left_becomes c b means (inl same) = subst LeftMeans (sym same) means
left_becomes c b means (inr (inl tick)) = subst LeftMeans (sym tick) (left_ticked c means)
left_becomes c b means (inr (inr but)) = left_anew (ticked c) b but

-- ---- rows

scan_left : (a b : State) (k : ℕ) (reply : Reply) → Scans a k reply b → LeftMeans a → LeftMeans b
scan_left a b k (replies.Scanned n) row means =
    left_anew (ticked (outcome a (heap.Plain (plain.Scan k)) (replies.Scanned n))) b row.2
scan_left a b k reply row means = left_becomes a b means (inr (inl row.1.1))

left_same : (a b : State) (step : NamedStep) (reply : Reply) → HeapAccepts a step reply b → IsNoEnd step
    → mark_of (outcome a step reply) ≡ mark_of a → LeftMeans a → LeftMeans b
left_same a b step reply row no_end same means =
    left_becomes (outcome a step reply) b (left_kept a (outcome a step reply) same means)
    (heap_becomes a b step reply no_end row)

pub heap_left : (a b : State) (step : NamedStep) (reply : Reply) → HeapAccepts a step reply b → LeftMeans a
    → LeftMeans b
heap_left a b (heap.Plain (plain.Begin now how)) reply row means =
    left_anew (ticked (begun_state a (begun a.world (free_cells a.world.heap) now how (a.world.cycle + 1)))) b row.1
heap_left a b (heap.Plain (plain.Scan k)) reply row means = scan_left a b k reply row means
heap_left a b (heap.Plain plain.EndMark) reply row means =
    subst LeftMeans (sym row.after) (λ marks _. absurd (false≢true marks))
heap_left a b (heap.Plain plain.EndClear) reply row means =
    subst LeftMeans (sym row.1) (λ marks _. absurd (false≢true marks))
heap_left a b (heap.Plain plain.EndSweep) reply row means =
    subst LeftMeans (sym row.1) (λ marks _. absurd (false≢true marks))
heap_left a b (heap.Plain plain.Select) reply row means = grind arith
heap_left a b (heap.Plain plain.EndMove) reply row means = grind arith
heap_left a b (heap.Plain (plain.ClearNext k)) (replies.Cleared n) row means =
    left_same a b (heap.Plain (plain.ClearNext k)) (replies.Cleared n) row tt
    (ap (mark_in a) (outcome_stage a (heap.Plain (plain.ClearNext k)) (replies.Cleared n) tt)) means
heap_left a b (heap.Plain (plain.Sweep k)) (replies.Swept count) row means =
    left_same a b (heap.Plain (plain.Sweep k)) (replies.Swept count) row tt refl means
heap_left a b step reply row means =
    left_same a b step reply row tt (ap (mark_in a) (outcome_stage a step reply tt)) means
