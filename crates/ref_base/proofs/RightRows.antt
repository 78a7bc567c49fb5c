-- Traces with a row that a right collector may give: so each is legal for a judge.
use Rattle.ref_base.proofs.Common.{List, [], ◌∷◌, Some, refl, inl, inr, true, false, false≢true, IsLegal, Row}
use Rattle.ref_base.proofs.Common.{Weak, Normal, Own, Mutator, NoMemory, GreyLeft}
use Rattle.std.proofs.lemmas.Bool.{ltb-true as below}
use Rattle.ref_base.proofs.DoomChecks.{may_doom}
use Rattle.ref_base.proofs.LegalSteps.{none_left, mark_ends, legal, stop, ◌⨾◌}
use Rattle.ref_base.proofs.WorkedTraces.{row, config_of}
use Rattle.ref_base.specs.declared.plain_step.PlainStep.TheVariants as plain
use Rattle.ref_base.specs.declared.step.Step.TheVariants as steps
use Rattle.ref_base.specs.declared.reply.Reply.TheVariants as replies

abbrev puts_without_memory : List Row
puts_without_memory =
    row (steps.Plain (plain.New 0 0 0)) (replies.Object 1) ∷
    row (steps.Plain (plain.Refer 0 Weak 1 0 (Some 0) 0)) (replies.Object 2) ∷
    row (steps.Unhook 0 1) (replies.Notice 2 0 Own) ∷
    row (steps.Put (Mutator 0)) (replies.Refused NoMemory) ∷ []

-- promise: Judge::row: memory may be refused to a put
a_put_may_find_no_memory : IsLegal (config_of 1) puts_without_memory
a_put_may_find_no_memory = legal (config_of 1) puts_without_memory (
    (_, (refl, refl), refl)
    ⨾ (_, (refl, refl), refl)
    ⨾ (_, (refl, refl), refl)
    ⨾ inr (refl, refl)
    ⨾ stop)

abbrev refuses_an_end_with_one_left : List Row
refuses_an_end_with_one_left =
    row (steps.Plain (plain.New 0 0 0)) (replies.Object 1) ∷
    row (steps.Plain (plain.Begin 5 Normal)) (replies.Cycle 1) ∷
    row (steps.Plain plain.EndMark) (replies.Refused GreyLeft) ∷ []

-- promise: Judge::row: a mark's end may be refused while an object is left to scan
an_end_may_be_refused_with_one_left : IsLegal (config_of 1) refuses_an_end_with_one_left
an_end_may_be_refused_with_one_left = legal (config_of 1) refuses_an_end_with_one_left (
    (_, (refl, refl), refl)
    ⨾ (_, (refl, (true, refl, λ _. (1, (inl ([], (refl, refl)), below _ _ refl, refl)))), refl)
    ⨾ (refl, refl)
    ⨾ stop)

-- a slot holds object 1 as the cycle begins, and no slot does as it ends
abbrev dooms_what_was_kept_once : List Row
dooms_what_was_kept_once =
    row (steps.Plain (plain.New 0 0 0)) (replies.Object 1) ∷
    row (steps.Plain (plain.Begin 5 Normal)) (replies.Cycle 1) ∷
    row (steps.Plain (plain.Drop 0 0)) replies.Done ∷
    row (steps.Plain plain.EndMark) (replies.Doomed 1) ∷ []

-- promise: Judge::row: what was kept once and is kept no more may be doomed
what_was_kept_once_may_be_doomed : IsLegal (config_of 1) dooms_what_was_kept_once
what_was_kept_once_may_be_doomed = legal (config_of 1) dooms_what_was_kept_once (
    (_, (refl, refl), refl)
    ⨾ (_, (refl, (false, refl, none_left)), refl)
    ⨾ (_, (refl, refl), refl)
    ⨾ (
      _,
      mark_ends _ ([] ∷ []) (may_doom _ _ _ (1 ∷ []) [] refl refl (inl refl, tt) refl)
          (refl, tt) (λ n h. absurd (false≢true h)),
      refl,
    )
    ⨾ stop)

abbrev chooses_none : List Row
chooses_none = row (steps.Plain plain.Select) (replies.Selected 0) ∷ []

-- promise: Judge::row: a choice may be of no object
a_choice_may_be_of_none : IsLegal (config_of 1) chooses_none
a_choice_may_be_of_none = legal (config_of 1) chooses_none ((_, inl (0, (refl, refl)), refl) ⨾ stop)

abbrev moves_what_a_cycle_kept : List Row
moves_what_a_cycle_kept =
    row (steps.Plain (plain.New 0 0 0)) (replies.Object 1) ∷
    row (steps.Plain (plain.Begin 5 Normal)) (replies.Cycle 1) ∷
    row (steps.Plain (plain.Scan 0)) (replies.Scanned 1) ∷
    row (steps.Plain plain.EndMark) (replies.Doomed 0) ∷
    row (steps.Plain plain.EndClear) replies.Done ∷
    row (steps.Plain plain.EndSweep) replies.Done ∷
    row (steps.Plain plain.Select) (replies.Selected 1) ∷
    row (steps.Plain (plain.MoveNext 0)) (replies.Moved 1) ∷ []

-- promise: Judge::row: what a cycle kept may move
what_a_cycle_kept_may_move : IsLegal (config_of 1) moves_what_a_cycle_kept
what_a_cycle_kept_may_move = legal (config_of 1) moves_what_a_cycle_kept (
    (_, (refl, refl), refl)
    ⨾ (_, (refl, (true, refl, λ _. (1, (inl ([], (refl, refl)), below _ _ refl, refl)))), refl)
    ⨾ (_, (refl, (inl ([], (refl, refl)), below _ _ refl, refl), (false, refl, none_left)), refl)
    ⨾ (
      _,
      mark_ends _ ([] ∷ [])
          (may_doom _ _ _ [] (1 ∷ []) refl refl (inr (inl ([], (refl, refl))), tt) refl)
          (refl, tt) (λ n h. absurd (false≢true h)),
      refl,
    )
    ⨾ (_, (refl, refl), refl)
    ⨾ (_, (refl, refl), refl)
    ⨾ (_, inl (1, (refl, refl)), refl)
    ⨾ (_, (refl, refl), refl)
    ⨾ stop)
