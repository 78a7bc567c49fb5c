-- While a cycle goes on, its number is above 0.
use Rattle.ref_base.proofs.Common.{◌≡◌, ◌<◌, true, State}
use Rattle.ref_base.specs.declared.config.Config.{Config}
use Rattle.ref_judge.specs.Judged.{is_going}
use Rattle.ref_judge.specs.Standing.{Lawful}
use Rattle.ref_judge.specs.declared.profile.Profile.{Profile}
use Rattle.ref_judge.proofs.ScannedFacts.{lawful_going}

pub lawful_begun : (p : Profile) (config : Config) (a : State) → Lawful p config a → is_going a.world.phase ≡ true
    → 0 < a.world.cycle
lawful_begun p config a lawful going = lawful_going p config a lawful going
