-- How each strength of reachability is spelled (this project's profile).
use Rattle.std.specs.Prelude.{ℕ, List, codes}
use Rattle.ref_base.specs.declared.reach.Reach.{Reach}
use Rattle.ref_base.specs.declared.reach.Reach.TheVariants.{Strong, Soft, Weak, Phantom, Unreachable}

-- the name of a strength, as it is printed
abbrev pub name_of_reach : Reach → List ℕ
name_of_reach Strong = codes "strong"
name_of_reach Soft = codes "soft"
name_of_reach Weak = codes "weak"
name_of_reach Phantom = codes "phantom"
name_of_reach Unreachable = codes "unreachable"
