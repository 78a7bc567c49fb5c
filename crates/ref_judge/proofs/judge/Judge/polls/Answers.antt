use Rattle.std.proofs.Common.{arith, ◌≡◌, refl, sym, subst, None}
use Rattle.ref_judge.specs.Judged.{Judged, polling_refusal}
use Rattle.ref_judge.proofs.PollDone.{polls_called, polls_sound, queue_called, mutator_hand, some_takes, some_wrong}
use Rattle.ref_judge.proofs.PollDone.{some_default, took_told, took_sound}
use Rattle.ref_judge.proofs.judge.Judge.polls.Goals as goal

pub returns-in-Err : goal.returns-in-Err
returns-in-Err g c =
    polls_called c.args.self.now c.args.mutator c.args.queue c.args.max c.in-Err.fault c.args.reply _ c.in-Err.ensures
    c.is_refused.ensures

pub index-line-requires : goal.index-line-requires
index-line-requires g c =
    let none =
    subst (λ (j : Judged). polling_refusal j c.args.mutator c.args.queue c.args.max ≡ None) (sym c.self.view_is)
    c.in_default.ensures in
    let called = polls_sound _ c.self.invariant c.args.mutator c.args.queue c.args.max none in
    let there = queue_called _ c.self.invariant c.args.mutator c.args.queue _ c.queue.view_is called in
    let len = c.self.inside.lines.ok.0 in
    omega (arith, there, len)

pub index_mut-requires : goal.index_mut-requires
index_mut-requires g c =
    let none =
    subst (λ (j : Judged). polling_refusal j c.args.mutator c.args.queue c.args.max ≡ None) (sym c.self.view_is)
    c.in_default.ensures in
    let called = polls_sound _ c.self.invariant c.args.mutator c.args.queue c.args.max none in
    let there = queue_called _ c.self.invariant c.args.mutator c.args.queue _ c.queue.view_is called in
    let len = c.self.inside.lines.ok.0 in
    omega (arith, there, len)

pub fill-requires : goal.fill-requires
fill-requires g c =
    let none =
    subst (λ (j : Judged). polling_refusal j c.args.mutator c.args.queue c.args.max ≡ None) (sym c.self.view_is)
    c.in_default.ensures in
    let called = polls_sound _ c.self.invariant c.args.mutator c.args.queue c.args.max none in
    mutator_hand _ c.self.invariant c.args.mutator c.args.queue called

pub returns-in_default-reply : goal.returns-in_default-reply
returns-in_default-reply g c =
    let none =
    subst (λ (j : Judged). polling_refusal j c.args.mutator c.args.queue c.args.max ≡ None) (sym c.self.view_is)
    c.in_default.ensures in
    let read = rw c.queue.view_is at c.index-line.ensures in
    rw (← c.self.view_is)
    (some_default _ c.args.mutator c.args.queue c.args.max _ read c.self.invariant none c.args.reply _
    c.in_default-reply.not-TookSome c.takes_none.ensures)

pub returns-then-not-may_take : goal.returns-then-not-may_take
returns-then-not-may_take g c =
    let none =
    subst (λ (j : Judged). polling_refusal j c.args.mutator c.args.queue c.args.max ≡ None) (sym c.self.view_is)
    c.in_default.ensures in
    let read = rw c.queue.view_is at c.index-line.ensures in
    let wrong = c.may_take.ensures.wrong c.if-not-may_take.true in
    rw (← c.self.view_is, c.in-TookSome.is)
    (some_wrong _ c.args.mutator c.args.queue c.args.max _ read c.self.invariant none c.in-TookSome.taken
    (rw c.as_slice.ensures.numbers at wrong))

pub invariant_of-self : goal.invariant_of-self
invariant_of-self g c =
    let none =
    subst (λ (j : Judged). polling_refusal j c.args.mutator c.args.queue c.args.max ≡ None) (sym c.self.view_is)
    c.in_default.ensures in
    let called = polls_sound _ c.self.invariant c.args.mutator c.args.queue c.args.max none in
    let there = queue_called _ c.self.invariant c.args.mutator c.args.queue c.args.queue refl called in
    let read = rw c.queue.view_is at c.index-line.ensures in
    took_sound _ c.self.invariant _ c.args.mutator c.args.queue _ read there _
    (some_takes _ c.args.mutator c.args.queue c.args.max _ read c.self.invariant none c.in-TookSome.taken
    (rw c.as_slice.ensures.numbers at (c.may_take.ensures.right c.if-not-may_take.false))) _ c.queue.view_is _
    c.index_mut.ensures.value _ (rw c.as_slice-in-TookSome.ensures.numbers at c.take_each.ensures) _ c.fill.ensures

pub returns-else-not-may_take : goal.returns-else-not-may_take
returns-else-not-may_take g c =
    let none =
    subst (λ (j : Judged). polling_refusal j c.args.mutator c.args.queue c.args.max ≡ None) (sym c.self.view_is)
    c.in_default.ensures in
    let called = polls_sound _ c.self.invariant c.args.mutator c.args.queue c.args.max none in
    let there = queue_called _ c.self.invariant c.args.mutator c.args.queue c.args.queue refl called in
    let read = rw c.queue.view_is at c.index-line.ensures in
    rw (← c.self.view_is, c.in-TookSome.is)
    (took_told _ c.self.invariant _ c.args.mutator c.args.queue _ read there _
    (some_takes _ c.args.mutator c.args.queue c.args.max _ read c.self.invariant none c.in-TookSome.taken
    (rw c.as_slice.ensures.numbers at (c.may_take.ensures.right c.if-not-may_take.false))) _ c.queue.view_is _
    c.index_mut.ensures.value _ (rw c.as_slice-in-TookSome.ensures.numbers at c.take_each.ensures) _ c.fill.ensures)
