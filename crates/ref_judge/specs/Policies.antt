-- The policy under which the abstract collector keeps what a collector of a profile may (this project's).
use Rattle.std.specs.Prelude.{false, if◌then◌else◌}
use Rattle.ref_base.specs.Collectors.{State}
use Rattle.ref_base.specs.declared.policy.Policy.{Policy}
use Rattle.ref_base.specs.declared.urgency.Urgency.TheVariants.{Normal}
use Rattle.ref_judge.specs.declared.profile.Profile.{Profile}

-- the policy under which each soft reference is kept
abbrev pub soft_policy : Policy
soft_policy = record { clock = 0; urgency = Normal; span = 0 }

-- the policy under which the abstract collector keeps what one of the profile may
abbrev pub policy_as : Profile → Policy → Policy
policy_as p policy = if p.soft_free then soft_policy else policy

-- the state under that policy, where it is said that no object is left
abbrev pub profiled : Profile → State → State
profiled p a = record a { world = record a.world { policy = policy_as p a.world.policy }; left = false }
