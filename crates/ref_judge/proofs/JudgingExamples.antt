-- A trace that leaves idle rows out, a verdict, and answers that are named.
use Rattle.ref_base.proofs.Common.{◌≡◌, false, true, List, [], ◌∷◌, ◌++◌, inl, inr, refl, sym, false≢true, take}
use Rattle.ref_base.proofs.Common.{arith}
use Rattle.std.specs.Prelude.{Some}
use Rattle.std.proofs.lemmas.Bool.{ltb-true as below}
use Rattle.ref_base.proofs.LegalSteps.{none_left}
use Rattle.ref_base.proofs.WorkedTraces.{row, config_of}
use Rattle.ref_base.specs.declared.actor.Actor.TheVariants.{Mutator}
use Rattle.ref_base.specs.declared.fault.Fault.TheVariants.{WrongPhase}
use Rattle.ref_base.specs.declared.urgency.Urgency.TheVariants.{Normal}
use Rattle.ref_base.specs.declared.row.Row.{Row}
use Rattle.ref_base.specs.declared.plain_step.PlainStep.TheVariants as plain
use Rattle.ref_base.specs.declared.step.Step.TheVariants as steps
use Rattle.ref_base.specs.declared.reply.Reply.TheVariants as replies
use Rattle.ref_judge.specs.IdleRows.{LeavesOut}
use Rattle.ref_judge.specs.Judged.{wants_memory}
use Rattle.ref_judge.specs.ProfiledRows.{strict, IsLegalAs}
use Rattle.ref_judge.specs.Verdicts.{Judges, IsOnlyAnswer, NamesAnswerBehind}
use Rattle.ref_judge.specs.declared.rule.Instead.TheVariants.{Only, Among, Untold}
use Rattle.ref_judge.proofs.ProfiledSteps.{legal_as, stop, ◌⨾◌}
use Rattle.ref_judge.proofs.Examples.{keeps_more, takes_the_last, the_strict_may_not_take_the_last}
use Rattle.ref_judge.proofs.Examples.{with_order, takes_what_does_not_stand}
use Rattle.ref_base.proofs.WrongRows.{dooms_a_root}
use Rattle.ref_judge.specs.declared.order.Order.TheVariants.{Any}
use Rattle.ref_judge.proofs.IdleRows.{kept_rows_are_legal}

-- ---- idle rows

abbrev logs_idle_rows : List Row
logs_idle_rows =
    row (steps.Plain (plain.New 0 0 0)) (replies.Object 1) ∷
    row (steps.Plain (plain.Scan 0)) (replies.Refused WrongPhase) ∷
    row (steps.Plain (plain.Begin 1 Normal)) (replies.Cycle 1) ∷
    row (steps.Plain (plain.Scan 0)) (replies.Scanned 1) ∷
    row (steps.Plain (plain.Scan 0)) replies.Nothing ∷
    row (steps.Hand 0) replies.Nothing ∷
    row (steps.Plain plain.EndMark) (replies.Doomed 0) ∷
    row (steps.Plain (plain.ClearNext 0)) replies.Nothing ∷ []

abbrev logs_no_idle_rows : List Row
logs_no_idle_rows =
    row (steps.Plain (plain.New 0 0 0)) (replies.Object 1) ∷
    row (steps.Plain (plain.Begin 1 Normal)) (replies.Cycle 1) ∷
    row (steps.Plain (plain.Scan 0)) (replies.Scanned 1) ∷
    row (steps.Plain plain.EndMark) (replies.Doomed 0) ∷ []

it_leaves_them_out : LeavesOut logs_idle_rows logs_no_idle_rows
it_leaves_them_out =
    inl (refl, inr (refl, inl (refl, inl (refl, inr (refl, inr (refl, inl (refl, (refl, tt))))))))

it_is_legal : IsLegalAs keeps_more (config_of 1) logs_idle_rows
it_is_legal = legal_as keeps_more (config_of 1) logs_idle_rows (
    (_, (refl, refl), refl)
    ⨾ (refl, refl)
    ⨾ (
      _,
      (_, (refl, (false, refl, none_left)), (true, refl, λ _. (1, (inr (refl, refl), below _ _ refl, refl)))),
      refl,
    )
    ⨾ (_, (refl, (inr (refl, refl), below _ _ refl, refl), (false, refl, none_left)), refl)
    ⨾ (_, (refl, (refl, refl)), refl)
    ⨾ (_, (refl, refl), refl)
    ⨾ (
      _,
      record {
        answer = refl;
        may_doom = record {
          none_kept = λ n h. absurd (false≢true h);
          never_kept = λ n there never. absurd (never (inr (refl, there)));
          closed = λ m n there outside target. refl;
        };
        found = [] ∷ [];
        are_found = (refl, tt);
        all_found = λ n h. h;
        after = refl;
      },
      refl,
    )
    ⨾ (_, (refl, refl), refl)
    ⨾ stop)

it_is_legal_without_them : IsLegalAs keeps_more (config_of 1) logs_no_idle_rows
it_is_legal_without_them =
    kept_rows_are_legal keeps_more (config_of 1) logs_idle_rows logs_no_idle_rows it_leaves_them_out it_is_legal

-- an unhook that answers `none` cleared its reference
an_unhook_is_not_idle : ¬ (LeavesOut (row (steps.Unhook 0 0) replies.Nothing ∷ []) [])
an_unhook_is_not_idle out = false≢true out.0

-- ---- a verdict

-- seven rows stand in front of the one that takes the last
the_strict_verdict : Judges strict (config_of 1) takes_the_last (Some 7)
the_strict_verdict = (
  take 7 takes_the_last,
  row (steps.Poll 0 0) (replies.Took 3),
  [],
  refl,
  refl,
  legal_as strict (config_of 1) (take 7 takes_the_last) (
      (_, (refl, refl), refl)
      ⨾ (_, (refl, refl), refl)
      ⨾ (_, (refl, refl), refl)
      ⨾ (_, (refl, refl), refl)
      ⨾ inl (refl, refl)
      ⨾ (_, (refl, refl), refl)
      ⨾ inl (refl, refl)
      ⨾ stop),
  the_strict_may_not_take_the_last,
)

-- ---- answers that are named

abbrev makes_one : List Row
makes_one = row (steps.Plain (plain.New 0 0 0)) (replies.Object 1) ∷ []

-- a scan outside a mark has one answer
a_scan_is_refused : IsOnlyAnswer keeps_more (config_of 1) makes_one (steps.Plain (plain.Scan 0))
    (replies.Refused WrongPhase)
a_scan_is_refused = record {
  legal = legal_as keeps_more (config_of 1)
      (makes_one ++ row (steps.Plain (plain.Scan 0)) (replies.Refused WrongPhase) ∷ [])
      ((_, (refl, refl), refl) ⨾ (refl, refl) ⨾ stop);
  others = λ other differ legal. grind arith;
}

abbrev begins_a_cycle : List Row
begins_a_cycle = makes_one ++ row (steps.Plain (plain.Begin 1 Normal)) (replies.Cycle 1) ∷ []

-- a scan in a mark may answer the object
a_scan_may_answer_it : NamesAnswerBehind keeps_more (config_of 1) begins_a_cycle (steps.Plain (plain.Scan 0))
    (Among (replies.Scanned 1))
a_scan_may_answer_it = (
  refl,
  legal_as keeps_more (config_of 1) (begins_a_cycle ++ row (steps.Plain (plain.Scan 0)) (replies.Scanned 1) ∷ []) (
      (_, (refl, refl), refl)
      ⨾ (
        _,
        (_, (refl, (false, refl, none_left)), (true, refl, λ _. (1, (inr (refl, refl), below _ _ refl, refl)))),
        refl,
      )
      ⨾ (_, (refl, (inr (refl, refl), below _ _ refl, refl), (false, refl, none_left)), refl)
      ⨾ stop),
)

-- and no object, so that neither is the only answer
a_scan_may_answer_none : NamesAnswerBehind keeps_more (config_of 1) begins_a_cycle (steps.Plain (plain.Scan 0))
    (Among replies.Nothing)
a_scan_may_answer_none = (
  refl,
  legal_as keeps_more (config_of 1) (begins_a_cycle ++ row (steps.Plain (plain.Scan 0)) replies.Nothing ∷ []) (
      (_, (refl, refl), refl)
      ⨾ (_, (_, (refl, (false, refl, none_left)), (false, refl, none_left)), refl)
      ⨾ (_, (refl, (refl, refl)), refl)
      ⨾ stop),
)

it_is_not_the_only_one : ¬ (NamesAnswerBehind keeps_more (config_of 1) begins_a_cycle (steps.Plain (plain.Scan 0))
    (Only (replies.Scanned 1)))
it_is_not_the_only_one only = only.others replies.Nothing (λ is. absurd cc) a_scan_may_answer_none.1

-- promise: Judge::row: of a step with one answer some answer is named
none_is_named : ¬ (NamesAnswerBehind keeps_more (config_of 1) [] (steps.Plain (plain.New 0 0 0)) Untold)
none_is_named many = false≢true (sym many)

-- promise: Judge::row: the answer that is named as the only one is that one
no_other_is_the_only_one : ¬ (NamesAnswerBehind keeps_more (config_of 1) makes_one (steps.Plain (plain.Scan 0))
    (Only replies.Nothing))
no_other_is_the_only_one only = let legal = only.legal in grind arith

-- promise: Judge::row: an answer that is named is legal
no_answer_is_named_that_is_not_legal : ¬ (NamesAnswerBehind keeps_more (config_of 1) begins_a_cycle
    (steps.Plain (plain.Scan 0)) (Among (replies.Scanned 7)))
no_answer_is_named_that_is_not_legal named = let legal = named.1 in grind arith

-- ---- what no profile loosens

-- promise: Judge::row: a collector that keeps more dooms no root either
no_root_is_doomed_where_more_is_kept : ¬ (IsLegalAs keeps_more (config_of 1) dooms_a_root)
no_root_is_doomed_where_more_is_kept legal = grind arith

-- promise: Judge::row: a queue of any order gives what stands in it alone
what_does_not_stand_is_not_taken : ¬ (IsLegalAs (with_order Any) (config_of 1) takes_what_does_not_stand)
what_does_not_stand_is_not_taken legal = grind arith

-- ---- memory

a_put_wants_memory : wants_memory (steps.Put (Mutator 0)) ≡ true
a_put_wants_memory = refl

-- promise: Judge::row: no memory is refused where none is wanted
a_poll_wants_none : wants_memory (steps.Poll 0 0) ≡ false
a_poll_wants_none = refl
