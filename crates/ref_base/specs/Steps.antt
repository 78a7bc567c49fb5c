-- How each step is spelled (this project's profile).
use Rattle.std.specs.Prelude.{ℕ, List, [], ◌∷◌, codes}
use Rattle.ref_base.specs.Texts.{Word, Letters, Long, mutator, worker, slot, queue, queue_or_none, number}
use Rattle.ref_base.specs.declared.actor.Actor.{Actor}
use Rattle.ref_base.specs.declared.actor.Actor.TheVariants.{Mutator, Worker}
use Rattle.ref_base.specs.declared.urgency.Urgency.{Urgency}
use Rattle.ref_base.specs.declared.urgency.Urgency.TheVariants.{Normal, Urgent}
use Rattle.ref_base.specs.declared.strength.Strength.{Strength}
use Rattle.ref_base.specs.declared.strength.Strength.TheVariants.{Soft, Weak, Phantom}
use Rattle.ref_base.specs.declared.plain_step.PlainStep.{PlainStep}
use Rattle.ref_base.specs.declared.plain_step.PlainStep.TheVariants as plain
use Rattle.ref_base.specs.declared.step.Step.{Step}
use Rattle.ref_base.specs.declared.step.Step.TheVariants as steps

-- the word for whoever has a hand
abbrev pub actor : Actor → Word
actor (Mutator m) = mutator m
actor (Worker w) = worker w

-- the word for a cycle's urgency
abbrev pub urgency_name : Urgency → List ℕ
urgency_name Normal = codes "normal"
urgency_name Urgent = codes "urgent"

-- the word for a reference's strength
abbrev pub strength_name : Strength → List ℕ
strength_name Soft = codes "soft"
strength_name Weak = codes "weak"
strength_name Phantom = codes "phantom"

-- the words of a step that hands nothing over, as a script and a trace have them
abbrev pub plain_words : PlainStep → List Word
plain_words (plain.New m s n) = mutator m ∷ Letters (codes "new") ∷ slot s ∷ number n ∷ []
plain_words (plain.Refer m strength s r q n) =
    mutator m ∷ Letters (strength_name strength) ∷ slot s ∷ slot r ∷ queue_or_none q ∷ number n ∷ []
plain_words (plain.Store m s i v) = mutator m ∷ Letters (codes "store") ∷ slot s ∷ number i ∷ slot v ∷ []
plain_words (plain.Load m d s i) = mutator m ∷ Letters (codes "load") ∷ slot d ∷ slot s ∷ number i ∷ []
plain_words (plain.Copy m d s) = mutator m ∷ Letters (codes "copy") ∷ slot d ∷ slot s ∷ []
plain_words (plain.Drop m s) = mutator m ∷ Letters (codes "drop") ∷ slot s ∷ []
plain_words (plain.Get m d r) = mutator m ∷ Letters (codes "get") ∷ slot d ∷ slot r ∷ []
plain_words (plain.Clear m r) = mutator m ∷ Letters (codes "clear") ∷ slot r ∷ []
plain_words (plain.RefersTo m r s) = mutator m ∷ Letters (codes "refers") ∷ slot r ∷ slot s ∷ []
plain_words (plain.Begin now urgency) = Letters (codes "begin") ∷ Long now ∷ Letters (urgency_name urgency) ∷ []
plain_words (plain.Scan w) = worker w ∷ Letters (codes "scan") ∷ []
plain_words plain.EndMark = Letters (codes "endmark") ∷ []
plain_words (plain.ClearNext w) = worker w ∷ Letters (codes "clearnext") ∷ []
plain_words plain.EndClear = Letters (codes "endclear") ∷ []
plain_words (plain.Sweep w) = worker w ∷ Letters (codes "sweep") ∷ []
plain_words plain.EndSweep = Letters (codes "endsweep") ∷ []
plain_words plain.Select = Letters (codes "select") ∷ []
plain_words (plain.MoveNext w) = worker w ∷ Letters (codes "move") ∷ []
plain_words plain.EndMove = Letters (codes "endmove") ∷ []

-- the words of a step, as a script and a trace have them
abbrev pub step_words : Step → List Word
step_words (steps.Plain step) = plain_words step
step_words (steps.Unhook m r) = mutator m ∷ Letters (codes "unhook") ∷ slot r ∷ []
step_words (steps.Put a) = actor a ∷ Letters (codes "put") ∷ []
step_words (steps.Puts a) = actor a ∷ Letters (codes "puts") ∷ []
step_words (steps.Poll m q) = mutator m ∷ Letters (codes "poll") ∷ queue q ∷ []
step_words (steps.Polls m q max) = mutator m ∷ Letters (codes "polls") ∷ queue q ∷ number max ∷ []
step_words (steps.Adopt m s) = mutator m ∷ Letters (codes "adopt") ∷ slot s ∷ []
step_words (steps.Release a) = actor a ∷ Letters (codes "release") ∷ []
step_words (steps.Close m q) = mutator m ∷ Letters (codes "close") ∷ queue q ∷ []
step_words (steps.Hand w) = worker w ∷ Letters (codes "hand") ∷ []
step_words (steps.Hands w max) = worker w ∷ Letters (codes "hands") ∷ number max ∷ []
