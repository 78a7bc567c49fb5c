use Rattle.std.proofs.Common.{refl, subst, sym, ◌∙◌}
use Rattle.ref_base.specs.declared.step.Step.TheVariants as steps
use Rattle.ref_judge.specs.Standing.{IsSettled}
use Rattle.ref_judge.proofs.AnsweredRows.{does_alone}
use Rattle.ref_judge.proofs.PollDone.{polls_called}
use Rattle.ref_judge.proofs.QueueTells.{put_refused, puts_refused}
use Rattle.ref_judge.proofs.ToldRows.{err_refused, refusal_alone}
use Rattle.ref_judge.proofs.judge.Judge.one_answer.Goals as goal

pub returns-in-Unhook : goal.returns-in-Unhook
returns-in-Unhook g c =
    rw c.in-Unhook.is
    (does_alone c.args.self.now c.unhook.new.self (steps.Unhook c.in-Unhook.mutator c.in-Unhook.reference)
    c.unhook.result _
    (subst IsSettled c.self.view_is c.self.invariant.settled) refl c.unhook.ensures c.answered.ensures)

pub returns-in-Hand : goal.returns-in-Hand
returns-in-Hand g c =
    rw c.in-Hand.is
    (does_alone c.args.self.now c.hand.new.self (steps.Hand c.in-Hand.worker) c.hand.result _
    (subst IsSettled c.self.view_is c.self.invariant.settled) refl c.hand.ensures c.answered-in-Hand.ensures)

pub returns-in-Hands : goal.returns-in-Hands
returns-in-Hands g c =
    rw c.in-Hands.is
    (does_alone c.args.self.now c.hands.new.self (steps.Hands c.in-Hands.worker c.in-Hands.max) c.hands.result _
    (subst IsSettled c.self.view_is c.self.invariant.settled) refl c.hands.ensures c.answered-in-Hands.ensures)

pub returns-in-Adopt : goal.returns-in-Adopt
returns-in-Adopt g c =
    rw c.in-Adopt.is
    (does_alone c.args.self.now c.adopt.new.self (steps.Adopt c.in-Adopt.mutator c.in-Adopt.slot) c.adopt.result _
    (subst IsSettled c.self.view_is c.self.invariant.settled) refl c.adopt.ensures c.answered-in-Adopt.ensures)

pub returns-in-Release : goal.returns-in-Release
returns-in-Release g c =
    rw c.in-Release.is
    (does_alone c.args.self.now c.release.new.self (steps.Release c.in-Release.actor) c.release.result _
    (subst IsSettled c.self.view_is c.self.invariant.settled) refl c.release.ensures c.answered-in-Release.ensures)

pub returns-in-Close : goal.returns-in-Close
returns-in-Close g c =
    rw c.in-Close.is
    (does_alone c.args.self.now c.close.new.self (steps.Close c.in-Close.mutator c.in-Close.queue) c.close.result _
    (subst IsSettled c.self.view_is c.self.invariant.settled) refl c.close.ensures c.answered-in-Close.ensures)

pub returns-in-Plain : goal.returns-in-Plain
returns-in-Plain g c = rw c.in-Plain.is c.one_plain_answer.ensures

pub returns-in-Poll : goal.returns-in-Poll
returns-in-Poll g c = rw c.in-Poll.is c.one_poll_answer.ensures

pub returns-in-Put : goal.returns-in-Put
returns-in-Put g c =
    rw (← c.self.view_is)
    (rw c.in-Put.is
    (refusal_alone _ (steps.Put c.in-Put.actor) _ _ refl
    (λ f is reply verdict told. put_refused _ c.in-Put.actor f reply verdict
    (err_refused _ c.first_of.result f c.first_of.ensures.refused (sym c.err.ensures.value ∙ is)) told)
    c.refused.ensures))

pub returns-in-Puts : goal.returns-in-Puts
returns-in-Puts g c =
    rw (← c.self.view_is)
    (rw c.in-Puts.is
    (refusal_alone _ (steps.Puts c.in-Puts.actor) _ _ refl
    (λ f is reply verdict told. puts_refused _ c.in-Puts.actor f reply verdict
    (err_refused _ c.first_of-in-Puts.result f c.first_of-in-Puts.ensures.refused
    (sym c.err-in-Puts.ensures.value ∙ is)) told)
    c.refused-in-Puts.ensures))

pub returns-in-Polls : goal.returns-in-Polls
returns-in-Polls g c =
    rw c.in-Polls.is
    (refusal_alone c.args.self.now (steps.Polls c.in-Polls.mutator c.in-Polls.queue c.in-Polls.max) _ _ refl
    (λ f is reply verdict told. polls_called c.args.self.now c.in-Polls.mutator c.in-Polls.queue c.in-Polls.max f reply
    verdict
    (err_refused _ c.check_polls.result f c.check_polls.ensures (sym c.err-in-Polls.ensures.value ∙ is)) told)
    c.refused-in-Polls.ensures)
