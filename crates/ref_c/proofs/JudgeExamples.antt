-- Worked and illegal examples of replies that are read from numbers, of profiles and of verdicts.
use Rattle.std.proofs.Common.{◌≡◌, ℕ, true, false, [], ◌∷◌, List, refl, ap, Option, None, Some}
use Rattle.std.proofs.Common.{arith, inl, inr}
use Rattle.ref_base.specs.declared.out.Done.TheVariants as done
use Rattle.ref_base.specs.declared.reply.Reply.TheVariants as replies
use Rattle.ref_judge.specs.declared.order.Order.TheVariants.{Any}
use Rattle.ref_judge.specs.declared.profile.Profile.{Profile}
use Rattle.ref_judge.specs.declared.rule.Instead.TheVariants.{Only, Untold}
use Rattle.ref_c.proofs.GivenLemmas.{none-plain}
use Rattle.ref_c.specs.GivenReplies.{IsNoReply, IsReplyOf}
use Rattle.ref_c.specs.Holding.{KeptJudge}
use Rattle.ref_c.specs.JudgeSteps.{JudgesHeld, JudgesNumbers, MakesJudgeOf, TellsBreach, bare_verdict, numbered_profile}
use Rattle.ref_c.specs.ReplyNumbers.{of_count, of_kind, of_object}
use Rattle.ref_base.specs.declared.config.Config.{Config}
use Rattle.ref_c.specs.declared.answer.RefReply.{RefReply}
use Rattle.ref_c.specs.declared.step.RefStep.{RefStep}
use Rattle.ref_c.specs.declared.verdict.RefVerdict.{RefVerdict}

-- ---- replies

-- an object, and numbers of it that tell a list too
an_object : IsReplyOf (of_object 64 1) [] 0 (replies.Object 1)
an_object = record { numbered = refl; listed = refl; placed = λ outs is none. absurd cc }

no_object_that_lists : IsReplyOf (of_object 64 1) (2 ∷ []) 0 (replies.Object 1) → ⊥
no_object_that_lists is = let listed : [] ≡ 2 ∷ [] = is.listed in absurd cc

-- another reply isn't guessed for it, nor none
not_what_was_taken : IsReplyOf (of_object 64 1) [] 0 (replies.Took 1) → ⊥
not_what_was_taken is =
    let kind : 77 ≡ 64 = ap (λ (n : RefReply). n.kind) is.numbered in
    absurd (omega (arith, kind))

not_nothing : IsNoReply (of_object 64 1) [] → ⊥
not_nothing none = none (replies.Object 1) tt refl refl

-- behind four, of a batch of which none was added, four were put in before
nothing_added : IsReplyOf (of_count 76 1) (74 ∷ 0 ∷ []) 4
    (replies.Outs (record { before = 4; done = done.Already ∷ [] }))
nothing_added = record { numbered = refl; listed = refl; placed = λ outs is none. cc }

not_behind_three : IsReplyOf (of_count 76 1) (74 ∷ 0 ∷ []) 4
    (replies.Outs (record { before = 3; done = done.Already ∷ [] })) → ⊥
not_behind_three is =
    let three : 3 ≡ 4 = is.placed (record { before = 3; done = done.Already ∷ [] }) refl refl in
    absurd (omega (arith, three))

-- there are 25 faults
no_fault_26 : IsNoReply (record (of_kind 89) { fault = 26 }) []
no_fault_26 =
    none-plain (record (of_kind 89) { fault = 26 }) [] (λ is. absurd (omega (arith, is)))
    (λ is. absurd (omega (arith, is))) (λ is. absurd (omega (arith, is))) refl

-- ---- profiles

any_order : numbered_profile (record { keeps_more = 2; soft_free = 0; order = 2 })
    ≡ Some (record { keeps_more = true; soft_free = false; order = Any })
any_order = refl

no_fourth_order : numbered_profile (record { keeps_more = 0; soft_free = 0; order = 3 }) ≡ None
no_fourth_order = refl

a_judge_of_no_order : (config : Config) → MakesJudgeOf None config 1 None None
a_judge_of_no_order config = (refl, refl)

not_said_to_be_made : (config : Config) → MakesJudgeOf None config 0 None None → ⊥
not_said_to_be_made config is = let zero : 0 ≡ 1 = is.0 in absurd (omega (arith, zero))

-- ---- verdicts

-- null would have been legal
read_after_death : TellsBreach (Only replies.Null)
    (record (bare_verdict 1) { rule = 1; settled = 5; object = 3; row = 7; choice = 1; instead = of_kind 65 })
read_after_death = (refl, refl, refl)

not_said_to_be_legal : TellsBreach Untold (bare_verdict 0) → ⊥
not_said_to_be_legal is = let kind : 0 ≡ 1 = is.0 in
    absurd (omega (arith, kind))

-- without a judge nothing is said of a row
without_a_judge : (step : RefStep) (numbers : RefReply) (list : List ℕ)
    → JudgesHeld None step numbers list (bare_verdict 4) None
without_a_judge step numbers list = (refl, refl)

not_legal_without_a_judge : (step : RefStep) (numbers : RefReply) (list : List ℕ)
    → JudgesHeld None step numbers list (bare_verdict 0) None → ⊥
not_legal_without_a_judge step numbers list is =
    let kind : 0 ≡ 4 = ap (λ (v : RefVerdict). v.kind) is.0 in
    absurd (omega (arith, kind))

-- nor behind an illegal row
a_stopped_judge : (kept : KeptJudge) (step : RefStep) (numbers : RefReply) (list : List ℕ) → kept.is_stopped ≡ true
    → JudgesNumbers kept step numbers list (bare_verdict 6) kept
a_stopped_judge kept step numbers list is = inl (is, refl, refl)

not_legal_behind_an_illegal_row : (kept new : KeptJudge) (step : RefStep) (numbers : RefReply) (list : List ℕ)
    → kept.is_stopped ≡ true → JudgesNumbers kept step numbers list (bare_verdict 0) new → ⊥
not_legal_behind_an_illegal_row kept new step numbers list is (inl stopped) =
    let kind : 0 ≡ 6 = ap (λ (v : RefVerdict). v.kind) stopped.1 in
    absurd (omega (arith, kind))
not_legal_behind_an_illegal_row kept new step numbers list is (inr goes) =
    let not : kept.is_stopped ≡ false = goes.0 in absurd cc
