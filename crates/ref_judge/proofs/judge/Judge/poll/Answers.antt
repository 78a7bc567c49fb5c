use Rattle.std.proofs.Common.{arith, ◌≡◌, refl, sym, subst, None}
use Rattle.ref_judge.specs.Judged.{Judged, naming_refusal}
use Rattle.ref_judge.proofs.PollDone.{poll_called, poll_filled, queue_called, one_takes, one_wrong, one_default}
use Rattle.ref_judge.proofs.PollDone.{took_told, took_sound}
use Rattle.ref_judge.proofs.judge.Judge.poll.Goals as goal

pub returns-in-Err : goal.returns-in-Err
returns-in-Err g c =
    poll_called c.args.self.now c.args.mutator c.args.queue c.in-Err.fault c.args.reply _ c.in-Err.ensures
    c.is_refused.ensures

pub returns-in-Err-check_empty : goal.returns-in-Err-check_empty
returns-in-Err-check_empty g c =
    let none =
    subst (λ (j : Judged). naming_refusal j.config c.args.mutator c.args.queue ≡ None) (sym c.self.view_is)
    c.in_default.ensures in
    rw (← c.self.view_is)
    (poll_filled _ c.args.mutator c.args.queue c.in-Err-check_empty.fault c.args.reply _ c.self.invariant none
    c.in-Err-check_empty.ensures c.is_refused-in-Err-check_empty.ensures)

pub index-line-requires : goal.index-line-requires
index-line-requires g c =
    let none =
    subst (λ (j : Judged). naming_refusal j.config c.args.mutator c.args.queue ≡ None) (sym c.self.view_is)
    c.in_default.ensures in
    let there = queue_called _ c.self.invariant c.args.mutator c.args.queue _ c.queue.view_is none in
    let len = c.self.inside.lines.ok.0 in
    omega (arith, there, len)

pub index_mut-requires : goal.index_mut-requires
index_mut-requires g c =
    let none =
    subst (λ (j : Judged). naming_refusal j.config c.args.mutator c.args.queue ≡ None) (sym c.self.view_is)
    c.in_default.ensures in
    let there = queue_called _ c.self.invariant c.args.mutator c.args.queue _ c.queue.view_is none in
    let len = c.self.inside.lines.ok.0 in
    omega (arith, there, len)

pub returns-in_default-reply : goal.returns-in_default-reply
returns-in_default-reply g c =
    let none =
    subst (λ (j : Judged). naming_refusal j.config c.args.mutator c.args.queue ≡ None) (sym c.self.view_is)
    c.in_default.ensures in
    let there = queue_called _ c.self.invariant c.args.mutator c.args.queue c.args.queue refl none in
    let read = rw c.queue.view_is at c.index-line.ensures in
    rw (← c.self.view_is)
    (one_default _ c.args.mutator c.args.queue _ read there c.self.invariant none c.in_default-check_empty.ensures
    c.args.reply _ c.in_default-reply.not-Took c.takes_none.ensures)

pub returns-then-not-may_take : goal.returns-then-not-may_take
returns-then-not-may_take g c =
    let none =
    subst (λ (j : Judged). naming_refusal j.config c.args.mutator c.args.queue ≡ None) (sym c.self.view_is)
    c.in_default.ensures in
    let there = queue_called _ c.self.invariant c.args.mutator c.args.queue c.args.queue refl none in
    let read = rw c.queue.view_is at c.index-line.ensures in
    rw (← c.self.view_is, c.in-Took.is)
    (one_wrong _ c.args.mutator c.args.queue _ read there c.self.invariant none c.in_default-check_empty.ensures
    c.in-Took.no (c.may_take.ensures.wrong c.if-not-may_take.true))

pub invariant_of-self : goal.invariant_of-self
invariant_of-self g c =
    let none =
    subst (λ (j : Judged). naming_refusal j.config c.args.mutator c.args.queue ≡ None) (sym c.self.view_is)
    c.in_default.ensures in
    let there = queue_called _ c.self.invariant c.args.mutator c.args.queue c.args.queue refl none in
    let read = rw c.queue.view_is at c.index-line.ensures in
    took_sound _ c.self.invariant _ c.args.mutator c.args.queue _ read there _
    (one_takes _ c.args.mutator c.args.queue _ read there c.self.invariant none c.in_default-check_empty.ensures
    c.in-Took.no (c.may_take.ensures.right c.if-not-may_take.false)) _ c.queue.view_is _ c.index_mut.ensures.value _
    c.take_out.ensures _ c.fill_one.ensures

pub returns-else-not-may_take : goal.returns-else-not-may_take
returns-else-not-may_take g c =
    let none =
    subst (λ (j : Judged). naming_refusal j.config c.args.mutator c.args.queue ≡ None) (sym c.self.view_is)
    c.in_default.ensures in
    let there = queue_called _ c.self.invariant c.args.mutator c.args.queue c.args.queue refl none in
    let read = rw c.queue.view_is at c.index-line.ensures in
    rw (← c.self.view_is, c.in-Took.is)
    (took_told _ c.self.invariant _ c.args.mutator c.args.queue _ read there _
    (one_takes _ c.args.mutator c.args.queue _ read there c.self.invariant none c.in_default-check_empty.ensures
    c.in-Took.no (c.may_take.ensures.right c.if-not-may_take.false)) _ c.queue.view_is _ c.index_mut.ensures.value _
    c.take_out.ensures _ c.fill_one.ensures)
