-- Traces that a profile makes legal, and that aren't without it.
use Rattle.ref_base.proofs.Common.{true, false, List, [], ◌∷◌, inl, inr, refl, false≢true, arith}
use Rattle.ref_base.proofs.Common.{IsLegal}
use Rattle.std.proofs.lemmas.Bool.{ltb-true as below}
use Rattle.ref_base.proofs.LegalSteps.{none_left}
use Rattle.ref_base.proofs.WorkedTraces.{row, config_of}
use Rattle.ref_base.specs.declared.actor.Actor.TheVariants.{Mutator}
use Rattle.ref_base.specs.declared.cause.Cause.TheVariants.{Own}
use Rattle.ref_base.specs.declared.strength.Strength.TheVariants.{Weak}
use Rattle.ref_base.specs.declared.urgency.Urgency.TheVariants.{Normal}
use Rattle.ref_base.specs.declared.row.Row.{Row}
use Rattle.ref_base.specs.declared.plain_step.PlainStep.TheVariants as plain
use Rattle.ref_base.specs.declared.step.Step.TheVariants as steps
use Rattle.ref_base.specs.declared.reply.Reply.TheVariants as replies
use Rattle.ref_judge.specs.ProfiledRows.{strict, IsLegalAs}
use Rattle.ref_judge.specs.declared.order.Order.{Order}
use Rattle.ref_judge.specs.declared.order.Order.TheVariants.{Last, Any}
use Rattle.ref_judge.specs.declared.profile.Profile.{Profile}
use Rattle.ref_judge.proofs.StrictRows.{strict_traces}
use Rattle.ref_judge.proofs.ProfiledSteps.{legal_as, stop, ◌⨾◌}
use Rattle.std.specs.Prelude.{Some}

-- ---- a collector by generations keeps object 1, to which nothing refers

abbrev keeps_what_nothing_refers_to : List Row
keeps_what_nothing_refers_to =
    row (steps.Plain (plain.New 0 0 0)) (replies.Object 1) ∷
    row (steps.Plain (plain.New 0 1 0)) (replies.Object 2) ∷
    row (steps.Plain (plain.Drop 0 0)) replies.Done ∷
    row (steps.Plain (plain.Begin 1 Normal)) (replies.Cycle 1) ∷
    row (steps.Plain (plain.Scan 0)) (replies.Scanned 1) ∷
    row (steps.Plain (plain.Scan 0)) (replies.Scanned 2) ∷
    row (steps.Plain plain.EndMark) (replies.Doomed 0) ∷ []

abbrev pub keeps_more : Profile
keeps_more = record strict { keeps_more = true }

it_may_keep_more : IsLegalAs keeps_more (config_of 1) keeps_what_nothing_refers_to
it_may_keep_more = legal_as keeps_more (config_of 1) keeps_what_nothing_refers_to (
    (_, (refl, refl), refl)
    ⨾ (_, (refl, refl), refl)
    ⨾ (_, (refl, refl), refl)
    ⨾ (
      _,
      (_, (refl, (false, refl, none_left)), (true, refl, λ _. (1, (inr (refl, refl), below _ _ refl, refl)))),
      refl,
    )
    ⨾ (
      _,
      (
        refl,
        (inr (refl, refl), below _ _ refl, refl),
        (true, refl, λ _. (2, (inr (refl, refl), below _ _ refl, refl))),
      ),
      refl,
    )
    ⨾ (_, (refl, (inr (refl, refl), below _ _ refl, refl), (false, refl, none_left)), refl)
    ⨾ (
      _,
      record {
        answer = refl;
        may_doom = record {
          none_kept = λ n h. absurd (false≢true h);
          never_kept = λ n there never. absurd (never (inr (refl, there)));
          closed = λ m n there outside target. refl;
        };
        found = [] ∷ [];
        are_found = (refl, tt);
        all_found = λ n h. h;
        after = refl;
      },
      refl,
    )
    ⨾ stop)

-- ---- a queue gives what was put in last

abbrev pub takes_the_last : List Row
takes_the_last =
    row (steps.Plain (plain.New 0 0 0)) (replies.Object 1) ∷
    row (steps.Plain (plain.Refer 0 Weak 1 0 (Some 0) 0)) (replies.Object 2) ∷
    row (steps.Plain (plain.Refer 0 Weak 2 0 (Some 0) 0)) (replies.Object 3) ∷
    row (steps.Unhook 0 1) (replies.Notice 2 0 Own) ∷
    row (steps.Put (Mutator 0)) (replies.Added 0) ∷
    row (steps.Unhook 0 2) (replies.Notice 3 0 Own) ∷
    row (steps.Put (Mutator 0)) (replies.Added 1) ∷
    row (steps.Poll 0 0) (replies.Took 3) ∷ []

-- of the one notice that stands another is taken
abbrev pub takes_what_does_not_stand : List Row
takes_what_does_not_stand =
    row (steps.Plain (plain.New 0 0 0)) (replies.Object 1) ∷
    row (steps.Plain (plain.Refer 0 Weak 1 0 (Some 0) 0)) (replies.Object 2) ∷
    row (steps.Unhook 0 1) (replies.Notice 2 0 Own) ∷
    row (steps.Put (Mutator 0)) (replies.Added 0) ∷
    row (steps.Poll 0 0) (replies.Took 1) ∷ []

abbrev pub with_order : Order → Profile
with_order order = record strict { order = order }

it_may_take_the_last : IsLegalAs (with_order Last) (config_of 1) takes_the_last
it_may_take_the_last = legal_as (with_order Last) (config_of 1) takes_the_last (
    (_, (refl, refl), refl)
    ⨾ (_, (refl, refl), refl)
    ⨾ (_, (refl, refl), refl)
    ⨾ (_, (refl, refl), refl)
    ⨾ inl (refl, refl)
    ⨾ (_, (refl, refl), refl)
    ⨾ inl (refl, refl)
    ⨾ (_, refl, (refl, refl))
    ⨾ stop)

it_may_take_any : IsLegalAs (with_order Any) (config_of 1) takes_the_last
it_may_take_any = legal_as (with_order Any) (config_of 1) takes_the_last (
    (_, (refl, refl), refl)
    ⨾ (_, (refl, refl), refl)
    ⨾ (_, (refl, refl), refl)
    ⨾ (_, (refl, refl), refl)
    ⨾ inl (refl, refl)
    ⨾ (_, (refl, refl), refl)
    ⨾ inl (refl, refl)
    ⨾ (record { object = 3; queue = 0; cause = Own } ∷ [], (refl, (refl, tt)), (refl, refl))
    ⨾ stop)

the_last_is_not_the_first : ¬ (IsLegal (config_of 1) takes_the_last)
the_last_is_not_the_first legal = grind arith

pub the_strict_may_not_take_the_last : ¬ (IsLegalAs strict (config_of 1) takes_the_last)
the_strict_may_not_take_the_last legal =
    the_last_is_not_the_first ((strict_traces (config_of 1) takes_the_last).0 legal)
