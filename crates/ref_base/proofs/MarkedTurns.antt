-- A notice of a cycle comes after the end of that cycle's mark, which showed what it had to: how each turn at a heap
-- keeps it.
use Rattle.ref_base.proofs.Common.{arith, ℕ, List, Some, Object, World, Notice, first_world, heap_step, State}
use Rattle.ref_base.proofs.Common.{NamedStep, Config, Cause, Own, Cycle, Step, Reply}
use Rattle.ref_base.proofs.HeapTurns.{IsTurn}
use Rattle.ref_base.proofs.OutHeaps.{AreOutBy}
use Rattle.ref_base.proofs.CarryHeaps.{Anew}
use Rattle.ref_base.proofs.CarryLaws.{AnyCycle, Carries, Lasts}
use Rattle.ref_base.proofs.CarryRows.{Mints, first_carries, carries_more}
use Rattle.ref_base.specs.declared.heap_step.HeapStep.TheVariants as heap
use Rattle.ref_base.specs.declared.plain_step.PlainStep.TheVariants as plain
use Rattle.ref_base.specs.declared.step.Step.TheVariants as steps

abbrev pub AnyObject : Object → Type 0
AnyObject o = Unit {0}

pub any_lasts : Lasts AnyObject
any_lasts = search

module _ (Shown : ℕ → ℕ → Type 0) where
  -- where the cause of a notice of reference n is a cycle, that cycle's mark has shown this of n
  abbrev IsShown : ℕ → Cause → Type 0
  IsShown n Own = Unit {0}
  IsShown n (Cycle cycle k) = Shown cycle n

  -- and so of a notice
  abbrev pub IsMarked : Notice → Type 0
  IsMarked notice = IsShown notice.object notice.cause

  -- each notice that is out or will be given is so
  abbrev pub AreMarked : World → Type 0
  AreMarked w = Carries AnyObject IsMarked AnyCycle w

  pub first_marked : (config : Config) → AreMarked (first_world config)
  first_marked config = first_carries AnyObject IsMarked AnyCycle config tt

  module _ (Dead : ℕ → Type 0) (gone : List ℕ) (a b : State) (out : AreOutBy Dead Shown gone a) where
    -- what a worker clears at a turn, the mark's end of the cycle that goes on has shown
    pub turn_anew : (asked : NamedStep) (reply : Reply) → IsTurn a (Some asked) reply b
        → Anew AnyObject IsMarked AnyCycle a asked reply
    turn_anew (heap.Plain (plain.New m d k)) reply turn = λ is. tt
    turn_anew (heap.Plain (plain.Refer m strength d s q k)) reply turn = λ is. tt
    turn_anew (heap.Plain (plain.Begin now how)) reply turn = λ is. tt
    turn_anew (heap.Plain (plain.ClearNext k)) reply turn = grind arith
    turn_anew asked reply turn = tt

    pub row_mints : (step : Step) (reply : Reply) → IsTurn a (heap_step a.world step) reply b
        → Mints AnyObject IsMarked AnyCycle a step reply
    row_mints (steps.Plain step) reply turn = turn_anew (heap.Plain step) reply turn
    row_mints (steps.Unhook m s) reply turn = λ n q is there. tt
    row_mints step reply turn = tt

-- what was shown stays so where what is shown does
pub more_marked : (Shown Shows : ℕ → ℕ → Type 0) (w : World) → ((cycle n : ℕ) → Shown cycle n → Shows cycle n)
    → AreMarked Shown w → AreMarked Shows w
more_marked Shown Shows w more marked = search (carries_more, still_shown)
  where
    still_shown : (n : ℕ) (cause : Cause) → IsShown Shown n cause → IsShown Shows n cause
    still_shown n Own is = tt
    still_shown n (Cycle cycle k) is = more cycle n is
