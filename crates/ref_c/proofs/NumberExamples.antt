-- Worked and illegal examples of numbers, of tables that they are written into, and of plays.
use Rattle.std.proofs.Common.{◌≡◌, ℕ, [], ◌∷◌, refl}
use Rattle.ref_base.specs.declared.cause.Cause.TheVariants.{Own, Cycle as OfCycle}
use Rattle.ref_base.specs.declared.out.Done.TheVariants as done
use Rattle.ref_base.specs.declared.plain_step.PlainStep.TheVariants as plain
use Rattle.ref_base.specs.declared.reply.Reply.TheVariants as replies
use Rattle.ref_base.specs.declared.step.Step.TheVariants as steps
use Rattle.ref_base.specs.declared.strength.Strength.TheVariants.{Weak}
use Rattle.std.specs.declared.option.Option.{Option}
use Rattle.std.specs.declared.option.Option.TheVariants.{None, Some}
use Rattle.ref_c.specs.Holding.{KeptWorld}
use Rattle.ref_c.specs.ReplyNumbers.{of_object, reply_listed, reply_numbers}
use Rattle.ref_c.specs.StepNumbers.{numbered_step}
use Rattle.ref_c.specs.WorldSteps.{Plays}
use Rattle.ref_c.specs.Written.{written_over}
use Rattle.ref_c.specs.declared.answer.Answer.TheVariants.{NoWorld}
use Rattle.ref_c.specs.declared.step.RefStep.{RefStep}

abbrev weak : RefStep
weak = record { kind = 2; by = 1; a = 2; b = 3; c = 4; n = 6; clock = 7 }

-- m1 weak s2 s3 q4 6, and one that is for no queue
a_weak_reference : numbered_step weak ≡ Some (steps.Plain (plain.Refer 1 Weak 2 3 (Some 4) 6))
a_weak_reference = refl

an_unqueued_reference :
    numbered_step (record weak { kind = 36 }) ≡ Some (steps.Plain (plain.Refer 1 Weak 2 3 None 6))
an_unqueued_reference = refl

no_step_between_the_kinds : numbered_step (record weak { kind = 19 }) ≡ None
no_step_between_the_kinds = refl

no_step_behind_the_kinds : numbered_step (record weak { kind = 38 }) ≡ None
no_step_behind_the_kinds = refl

-- the referent's slot isn't the queue
not_the_slot_for_the_queue : numbered_step weak ≡ Some (steps.Plain (plain.Refer 1 Weak 2 3 (Some 3) 6)) → ⊥
not_the_slot_for_the_queue same = absurd cc

-- a notice of a cycle and one of the program's own
a_notice : reply_numbers (replies.Notice 2 1 (OfCycle 5 3))
    ≡ record (of_object 69 2) { queue = 1; worker = 3; number = 5 }
a_notice = refl

an_own_notice : reply_numbers (replies.Notice 2 1 Own) ≡ record (of_object 70 2) { queue = 1 }
an_own_notice = refl

-- of what was put in behind four, the first was added and the second was put in before
what_became_of_two : reply_listed (replies.Outs (record { before = 4; done = done.Added ∷ done.Already ∷ [] }))
    ≡ 73 ∷ 4 ∷ 74 ∷ 0 ∷ []
what_became_of_two = refl

-- what stood behind stays, and what finds no room is left out
a_table_with_room : written_over {T = ℕ} (1 ∷ 2 ∷ 3 ∷ []) (7 ∷ 8 ∷ []) ≡ 7 ∷ 8 ∷ 3 ∷ []
a_table_with_room = refl

a_short_table : written_over {T = ℕ} (1 ∷ []) (7 ∷ 8 ∷ []) ≡ 7 ∷ []
a_short_table = refl

-- each step has its answer: without a world, that there is none
a_play_of_two : Plays None (weak ∷ weak ∷ []) (NoWorld ∷ NoWorld ∷ []) None
a_play_of_two = (None, (refl, refl), (None, (refl, refl), refl))

no_play_that_ends_early : (new : Option KeptWorld) → Plays None (weak ∷ weak ∷ []) (NoWorld ∷ []) new → ⊥
no_play_that_ends_early new (between, first, ended) = ended
