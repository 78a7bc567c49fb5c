-- The objects that a judge has are those of each state to which the rows lead that it took.
use Rattle.ref_base.proofs.Common.{◌≡◌, ℕ, Bool, true, false, List, State, is_there, is_in, sym, ap, ◌∙◌}
use Rattle.ref_base.specs.declared.config.Config.{Config}
use Rattle.ref_base.specs.declared.phase.Phase.TheVariants.{Marking, Clearing}
use Rattle.ref_base.specs.declared.row.Row.{Row}
use Rattle.ref_judge.proofs.JudgedRuns.{HasTaken}
use Rattle.ref_judge.proofs.StandingHeaps.{there_same}
use Rattle.ref_judge.specs.Judged.{Judged}
use Rattle.ref_judge.specs.ObjectsBehind.{TellsObjects}
use Rattle.ref_judge.specs.Standing.{FitsIn}
use Rattle.ref_judge.specs.declared.profile.Profile.{Profile}

-- what is free in a state is none of its objects
fits_there : (marks clears : Bool) (j : Judged) (a b : State) → FitsIn marks clears j a b
    → (n : ℕ) → is_there a.world.heap.objects n ≡ is_there b.world.heap.objects n
fits_there true clears j a b fits n = ap (λ (s : State). is_there s.world.heap.objects n) (sym fits.1)
fits_there false true j a b fits n = ap (λ (s : State). is_there s.world.heap.objects n) (sym fits.1)
fits_there false false j a b fits n = ap (λ (s : State). is_there s.world.heap.objects n) (sym fits)

fits_next : (marks clears : Bool) (j : Judged) (a b : State) → FitsIn marks clears j a b → b.next ≡ a.next
fits_next true clears j a b fits = ap (λ (s : State). s.next) fits.1
fits_next false true j a b fits = ap (λ (s : State). s.next) fits.1
fits_next false false j a b fits = ap (λ (s : State). s.next) fits

pub taken_objects : (p : Profile) (config : Config) (rows : List Row) (j : Judged) → HasTaken p config rows j
    → TellsObjects p config rows (λ n. is_there j.ground.heap.objects n) j.ground.next
taken_objects p config rows j taken = record {
  objects = λ s run n.
      there_same j taken.state taken.stands n
      ∙ fits_there (is_in j.phase Marking) (is_in j.phase Clearing) j taken.state s (taken.on s run) n;
  number = λ s run.
      fits_next (is_in j.phase Marking) (is_in j.phase Clearing) j taken.state s (taken.on s run)
      ∙ sym taken.stands.next;
}
