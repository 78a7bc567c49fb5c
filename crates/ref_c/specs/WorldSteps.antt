-- What a call does with the world that a handle has.
use Rattle.std.specs.Prelude.{ℕ, ◌≡◌, ◌⊎◌, Bool, false, Option, None, Some, Ok, Err, if◌then◌else◌, ◌==◌, List, [], ◌∷◌}
use Rattle.ref_base.specs.Collectors.{first_state}
use Rattle.ref_base.specs.Faults.{number_of}
use Rattle.ref_base.specs.Graphs.{is_there}
use Rattle.ref_base.specs.declared.config.Config.{Config}
use Rattle.ref_base.specs.declared.fault.Fault.{Fault}
use Rattle.ref_base.specs.declared.reply.Reply.{Reply}
use Rattle.ref_base.specs.declared.span_rule.SpanRule.TheVariants.{Fixed, Scaled}
use Rattle.ref_base.specs.declared.step.Step.{Step}
use Rattle.ref_objects.specs.Grounds.{IsMade, starting_refusal}
use Rattle.ref_world.specs.Cores.{first_core}
use Rattle.ref_world.specs.Standing.{IsRowOf, Stands}
use Rattle.ref_world.specs.WorldHeaps.{model_heap}
use Rattle.ref_c.specs.Holding.{KeptWorld}
use Rattle.ref_c.specs.ReplyNumbers.{all_listed, all_numbers, listed_by, numbers_of}
use Rattle.ref_c.specs.StepNumbers.{numbered_step}
use Rattle.ref_c.specs.Written.{written_over}
use Rattle.ref_c.specs.declared.RefConfig.{RefConfig}
use Rattle.ref_c.specs.declared.answer.Answer.{Answer}
use Rattle.ref_c.specs.declared.answer.Answer.TheVariants.{NoStep, NoWorld, Replied}
use Rattle.ref_c.specs.declared.answer.RefReply.{RefReply}
use Rattle.ref_c.specs.declared.step.RefStep.{RefStep}

-- ---- a world is made

abbrev pub numbered_config : RefConfig → Config
numbered_config c = record {
  mutators = c.mutators;
  workers = c.workers;
  queues = c.queues;
  cells = c.cells;
  span = c.span;
  rule = if c.scaled == 0 then Fixed else Scaled;
}

-- why no world is made, where its numbers are outside the limits
abbrev pub first_refusal : Config → Option Fault
first_refusal config = starting_refusal config (record { obj = 1; cycle = 0; page = 1 })

-- 0, and the handle has a world without objects; or the number of a fault, and it is as it was
abbrev pub MakesWorld : RefConfig → ℕ → Option KeptWorld → Option KeptWorld → Type 0
MakesWorld c n old new =
    let config = numbered_config c in
    ((n ≡ 0) × (kept : KeptWorld) × (new ≡ Some kept)
    × IsMade (first_refusal config) (first_core config) (Ok kept.world) × Stands kept.world (first_state config))
    ⊎ ((fault : Fault) × (n ≡ number_of fault) × IsMade (first_refusal config) (first_core config) (Err fault)
    × (new ≡ old))

-- ---- a step

-- one row of the world; or nothing is done, where the numbers were no step
abbrev pub Answers : KeptWorld → Option Step → Answer → KeptWorld → Type 0
Answers old None answer new = (answer ≡ NoStep) × (new ≡ old)
Answers old (Some step) answer new =
    (reply : Reply) × (answer ≡ Replied reply) × IsRowOf old.world step reply new.world

-- a handle that has nothing stays so, and a world does the step of these numbers
abbrev pub Steps : Option KeptWorld → RefStep → Answer → Option KeptWorld → Type 0
Steps None numbers answer new = (answer ≡ NoWorld) × (new ≡ None)
Steps (Some old) numbers answer new =
    (kept : KeptWorld) × (new ≡ Some kept) × Answers old (numbered_step numbers) answer kept

-- these numbers tell the step's answer, and so much of the list what it lists
abbrev pub TellsStep : Option KeptWorld → RefStep → RefReply → List ℕ → List ℕ → Option KeptWorld → Type 0
TellsStep old step reply list list' new =
    (answer : Answer) × Steps old step answer new × (reply ≡ numbers_of answer)
    × (list' ≡ written_over list (listed_by answer))

-- ---- a question

-- whether an object of this number is there: in a world, and in one that a handle has
abbrev pub is_object_of : KeptWorld → ℕ → Bool
is_object_of kept n = is_there (model_heap kept.world.heap).objects n

abbrev pub is_object_in : Option KeptWorld → ℕ → Bool
is_object_in None n = false
is_object_in (Some kept) n = is_object_of kept n

-- ---- a play

-- the steps one after the other, each with its answer
abbrev pub Plays : Option KeptWorld → List RefStep → List Answer → Option KeptWorld → Type 0
Plays old [] [] new = new ≡ old
Plays old (step ∷ steps) (answer ∷ answers) new =
    (between : Option KeptWorld) × Steps old step answer between × Plays between steps answers new
Plays old steps answers new = ⊥

-- the replies tell the answers of these steps, and the list what they list, one behind the other
abbrev pub TellsPlay : Option KeptWorld → List RefStep → List RefReply → List RefReply → List ℕ → List ℕ
    → Option KeptWorld → Type 0
TellsPlay old steps replies replies' list list' new =
    (answers : List Answer) × Plays old steps answers new × (replies' ≡ written_over replies (all_numbers answers))
    × (list' ≡ written_over list (all_listed answers))
