-- Steps that have one answer in each state, by a collector of any profile.
use Rattle.ref_base.proofs.Common.{◌≡◌, ℕ, Bool, true, false, List, [], ◌∷◌, Option, Some, None, sym, ◌∙◌, State}
use Rattle.ref_base.proofs.Common.{Notice, hand_of, queue_at, NamedStep, heap_step, spending, ◌+◌, begun}
use Rattle.ref_base.proofs.Common.{refusal, slot_at, reference_of, referent_got, field_in, Gives, Loads, Gets, Unhooks}
use Rattle.ref_base.proofs.Common.{GivesAnewIf}
use Rattle.ref_base.specs.CollectorRows.{PlainAccepts, Sweeps, Closes, begun_state, free_cells}
use Rattle.ref_base.specs.Heaps.{registered_in}
use Rattle.ref_base.specs.declared.actor.Actor.{Actor}
use Rattle.ref_base.specs.declared.actor.Actor.TheVariants.{Mutator}
use Rattle.ref_base.specs.declared.fault.Fault.{Fault}
use Rattle.ref_base.specs.declared.heap_step.HeapStep.TheVariants as heap
use Rattle.ref_base.specs.declared.plain_step.PlainStep.{PlainStep}
use Rattle.ref_base.specs.declared.plain_step.PlainStep.TheVariants as plain
use Rattle.ref_base.specs.declared.step.Step.{Step}
use Rattle.ref_base.specs.declared.step.Step.TheVariants as steps
use Rattle.ref_base.specs.declared.reply.Reply.{Reply}
use Rattle.ref_base.specs.declared.reply.Reply.TheVariants as replies
use Rattle.ref_judge.specs.Judged.{has_one, has_one_answer}
use Rattle.ref_judge.specs.ProfiledRows.{says_anew, PlainAcceptsAs, HeapAcceptsAs, AcceptsAskingAs, IsAnswerAs, IsRowAs}
use Rattle.ref_judge.specs.declared.profile.Profile.{Profile}
use Rattle.ref_judge.proofs.FreeAnswers.{also_accepted}

-- two answers of one step of a state
abbrev Agree : Reply → Reply → (Reply → State → Type 0) → Type 0
Agree reply other Answers = (b c : State) → Answers reply b → Answers other c → reply ≡ other

module _ (a : State) (reply other : Reply) where
  of_gives : (answer : Reply) (to : State) → Agree reply other (Gives answer to)
  of_gives answer to b c first second = first.0 ∙ sym second.0

  of_anew : (flag : Bool) (answer : Reply) (to : State) → Agree reply other (GivesAnewIf flag answer to)
  of_anew true answer to b c first second = first.0 ∙ sym second.0
  of_anew false answer to b c first second = first.0 ∙ sym second.0

  of_load : (m d : ℕ) (value : Option ℕ) → Agree reply other (Loads a m d value)
  of_load m d None b c first second = first.0 ∙ sym second.0
  of_load m d (Some n) b c first second = of_anew _ _ _ b c first second

  of_get : (m d s : ℕ) (value : Option ℕ) → Agree reply other (Gets a m d s value)
  of_get m d s None b c first second = first.0 ∙ sym second.0
  of_get m d s (Some n) b c first second = of_anew _ _ _ b c first second

  of_unhook : (m s : ℕ) (held queue : Option ℕ) → Agree reply other (Unhooks a m s held queue)
  of_unhook m s None queue b c first second = first.0 ∙ sym second.0
  of_unhook m s (Some n) None b c first second = first.0 ∙ sym second.0
  of_unhook m s (Some n) (Some q) b c first second = first.0 ∙ sym second.0

  of_sweep : (doomed : List ℕ) → Agree reply other (Sweeps a doomed)
  of_sweep [] b c first second = first.0 ∙ sym second.0
  of_sweep (n ∷ ns) b c first second = first.0 ∙ sym second.0

  of_close : (q : ℕ) (closed : Bool) → Agree reply other (Closes a q closed)
  of_close q true b c first second = first.0 ∙ sym second.0
  of_close q false b c first second = first.0 ∙ sym second.0

  of_plain : (step : PlainStep) → has_one_answer step ≡ true → Agree reply other (PlainAccepts a step)
  of_plain (plain.Load m d s i) one b c first second =
      of_load m d (field_in a.world.heap (slot_at a.world.heap m s) i) b c first second
  of_plain (plain.Get m d s) one b c first second =
      of_get m d s (referent_got (reference_of a.world.heap (slot_at a.world.heap m s))) b c first second
  of_plain (plain.Begin now how) one b c first second =
      let n : ℕ = a.world.cycle + 1 in
      of_anew true (replies.Cycle n) (begun_state a (begun a.world (free_cells a.world.heap) now how n)) b c first
      second
  of_plain (plain.Sweep k) one b c first second = of_sweep a.doomed b c first second
  of_plain (plain.New m d k) one b c first second = first.0 ∙ sym second.0
  of_plain (plain.Refer m strength d s q k) one b c first second = first.0 ∙ sym second.0
  of_plain (plain.Store m s i v) one b c first second = first.0 ∙ sym second.0
  of_plain (plain.Copy m d s) one b c first second = first.0 ∙ sym second.0
  of_plain (plain.Drop m s) one b c first second = first.0 ∙ sym second.0
  of_plain (plain.Clear m s) one b c first second = first.0 ∙ sym second.0
  of_plain (plain.RefersTo m s v) one b c first second = first.0 ∙ sym second.0
  of_plain plain.EndSweep one b c first second = first.0 ∙ sym second.0
  of_plain step one b c first second = absurd cc

module _ (p : Profile) (a : State) (reply other : Reply) where
  of_plain_as : (step : PlainStep) → has_one_answer step ≡ true → Agree reply other (PlainAcceptsAs p a step)
  of_plain_as (plain.Scan k) one b c first second = absurd cc
  of_plain_as plain.EndMark one b c first second = absurd cc
  of_plain_as step one b c first second =
      let x = also_accepted p a b (says_anew a step reply) step reply first in
      let y = also_accepted p a c (says_anew a step other) step other second in
      of_plain a reply other step one x.0 y.0 x.1 y.1

  of_asking : (asked : NamedStep) (step : Step) → Agree reply other (HeapAcceptsAs p a asked)
      → Agree reply other (AcceptsAskingAs p a (Some asked) step)
  of_asking asked step agree b c first second = agree first.0 second.0 first.1 second.1

  of_adopt : (m d : ℕ) (hand : List Notice)
      → Agree reply other (AcceptsAskingAs p a (spending a.world (λ hold. heap.Adopt m d hold) hand) (steps.Adopt m d))
  of_adopt m d [] b c first second = absurd first
  of_adopt m d (notice ∷ rest) b c first second = first.1.0 ∙ sym second.1.0

  of_release : (who : Actor) (hand : List Notice)
      → Agree reply other (AcceptsAskingAs p a (spending a.world (λ hold. heap.Release hold) hand) (steps.Release who))
  of_release who [] b c first second = absurd first
  of_release who (notice ∷ rest) b c first second = first.1.0 ∙ sym second.1.0

  of_accepted : (step : Step) → has_one step ≡ true
      → Agree reply other (AcceptsAskingAs p a (heap_step a.world step) step)
  of_accepted (steps.Plain step) one b c first second =
      of_plain_as step one first.0 second.0 first.1 second.1
  of_accepted (steps.Unhook m s) one b c first second =
      let held = slot_at a.world.heap m s in
      of_unhook a reply other m s held (registered_in (reference_of a.world.heap held)) first.0 second.0 first.1
      second.1
  of_accepted (steps.Hand k) one b c first second = first.1.0 ∙ sym second.1.0
  of_accepted (steps.Hands k max) one b c first second = first.1.0 ∙ sym second.1.0
  of_accepted (steps.Adopt m d) one b c first second = of_adopt m d (hand_of a.world (Mutator m)) b c first second
  of_accepted (steps.Release who) one b c first second = of_release who (hand_of a.world who) b c first second
  of_accepted (steps.Close m q) one b c first second =
      of_close a reply other q (queue_at a.world q).closed b c first second
  of_accepted step one b c first second = absurd cc

  of_fault : (fault : Option Fault) (step : Step) → has_one step ≡ true
      → Agree reply other (λ r b. IsAnswerAs p a fault step r b)
  of_fault (Some fault) step one b c first second = first.0 ∙ sym second.0
  of_fault None step one b c first second = of_accepted step one b c first second

  -- two answers to such a step are one
  pub one_answer : (step : Step) (b c : State) → has_one step ≡ true
      → IsRowAs p a (record { step = step; reply = reply }) b → IsRowAs p a (record { step = step; reply = other }) c
      → reply ≡ other
  one_answer step b c one first second = of_fault (refusal a step) step one b c first second
