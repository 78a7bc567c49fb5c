use Rattle.ref_clear.proofs.Common.{◌∙◌, ap, refl, arith}
use Rattle.ref_clear.specs.ClearCalls.{notice_reply}
use Rattle.ref_clear.proofs.HandBatches.{leads_on, none_goes, none_refused, all_handed_on, all_given, all_told}
use Rattle.ref_clear.proofs.heap.Heap.hand_each.Goals as goal

pub loop-left-init : goal.loop-left-init
loop-left-init g c = record {
  may = c.requires.may;
  after = refl;
  gives = refl;
  tells = refl;
  room = c.requires.room;
  room_to_tell = c.requires.told;
}

pub loop-left-preserved : goal.loop-left-preserved
loop-left-preserved g c =
    rw (c.push-in-Ok-Some.ensures, c.push.ensures)
    (leads_on c.loop-left.invariant c.in-Ok-Some.ensures.does (λ none. omega (arith, none, c.loop-left-test.true))
    c.in-Ok-Some.notice (ap notice_reply c.in-Ok-Some.field-0-is)
    (rw c.in-Ok-Some.field-0-is at c.in-Ok-Some.ensures.own) c.obj.result c.obj.ensures)

pub returns-in-Ok-None-clause-after : goal.returns-in-Ok-None-clause-after
returns-in-Ok-None-clause-after g c =
    let none =
    none_goes c.loop-left.invariant.may.there c.in-Ok-None.ensures.does
    (λ none. omega (arith, none, c.loop-left-test.true)) c.loop-left.invariant.may
    (ap notice_reply c.in-Ok-None.field-0-is) in
    (none.1 ∙ all_handed_on c.loop-left.invariant none.0)

pub returns-in-Ok-None-clause-given : goal.returns-in-Ok-None-clause-given
returns-in-Ok-None-clause-given g c =
    let none =
    none_goes c.loop-left.invariant.may.there c.in-Ok-None.ensures.does
    (λ none. omega (arith, none, c.loop-left-test.true)) c.loop-left.invariant.may
    (ap notice_reply c.in-Ok-None.field-0-is) in
    all_given c.loop-left.invariant none.0

pub returns-in-Ok-None-clause-numbers : goal.returns-in-Ok-None-clause-numbers
returns-in-Ok-None-clause-numbers g c =
    let none =
    none_goes c.loop-left.invariant.may.there c.in-Ok-None.ensures.does
    (λ none. omega (arith, none, c.loop-left-test.true)) c.loop-left.invariant.may
    (ap notice_reply c.in-Ok-None.field-0-is) in
    all_told c.loop-left.invariant none.0

pub unreachable-requires : goal.unreachable-requires
unreachable-requires g c =
    none_refused c.loop-left.invariant.may.there c.in-Err.ensures.does
    (λ none. omega (arith, none, c.loop-left-test.true)) c.loop-left.invariant.may c.in-Err.field-0 refl
