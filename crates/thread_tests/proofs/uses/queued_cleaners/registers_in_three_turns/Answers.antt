use Rattle.std.proofs.Common.{◌≡◌, ℕ, ◌+◌, ◌-◌, ◌≤◌, true, leb, [], ◌∷◌, ◌++◌, length, length-append, ap, arith}
use Rattle.std.proofs.lemmas.Bool.{le-leb}
use Rattle.ref_base.specs.declared.heap_step.HoldName.{HoldName}
use Rattle.ref_turn.specs.Seats.{Extends, Longer}
use Rattle.ref_share.specs.Cleanings.{HasMadeApart}
use Rattle.ref_share.specs.HeapSeats.{HeapEntry, HeapView, heap_view}
use Rattle.thread_tests.proofs.uses.queued_cleaners.registers_in_three_turns.Goals as goal

-- a seat has seen its call
one_more : (v w : HeapView) (e : HeapEntry) → Extends v e w
    → (length v.seen + 1 ≤ length w.seen) × (w.first ≡ v.first)
one_more v w e extends =
    let all = ap length extends.1.1 in
    let last = length-append (v.seen ++ extends.1.0) (e ∷ []) in
    let front = length-append v.seen extends.1.0 in
    (omega (arith, all, last, front), extends.0.1)

-- and all three
three_more : (queue m src dst : ℕ) (v w x : HeapView) (hold : HoldName) (before after : ℕ)
    → HasMadeApart queue m src dst v hold w → Longer w x → before ≡ v.first + length v.seen
    → after ≡ x.first + length x.seen → leb 3 (after - before) ≡ true
three_more queue m src dst v w x hold before after made longer is is' =
    let first = one_more v made.1.0 _ made.1.1.2 in
    let second = one_more made.1.0 made.0 _ made.1.2 in
    let third = one_more made.0 w _ made.2.2 in
    let all = ap length longer.1.1 in
    let more = length-append w.seen longer.1.0 in
    le-leb 3 (after - before) (omega (arith, first, second, third, all, more, longer.0.1, is, is'))

pub returns-in-Ok-clause-three : goal.returns-in-Ok-clause-three
returns-in-Ok-clause-three g c =
    three_more _ _ _ _ (heap_view c.served-before.new.seat) (heap_view c.register.new.heap_seat)
    (heap_view c.served.new.seat) c.in-Ok.ensures.registers.0 c.served-before.result c.served.result
    c.in-Ok.ensures.registers.2 c.served.ensures.longer c.served-before.ensures.count c.served.ensures.count
