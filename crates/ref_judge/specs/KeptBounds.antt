-- What a collector may keep alive in a cycle, and what it must (this project's profiles): two sets of kept paths take
-- the place of the one of `ref_base`. What may be kept bounds from above what is scanned and what must be doomed; what
-- must be kept bounds what is doomed.
use Rattle.std.specs.Prelude.{◌≡◌, ℕ, true, false, if◌then◌else◌, List, [], ◌∷◌, ◌⊎◌}
use Rattle.ref_base.specs.Members.{has}
use Rattle.ref_base.specs.Graphs.{Graph, is_there}
use Rattle.ref_base.specs.Paths.{Allowed, EndsPath, no_referents, soft_referents, targets_at}
use Rattle.ref_base.specs.KeptPaths.{is_kept}
use Rattle.ref_base.specs.Collectors.{State}
use Rattle.ref_base.specs.Worlds.{graph_of}
use Rattle.ref_base.specs.declared.policy.Policy.{Policy}
use Rattle.ref_judge.specs.declared.profile.Profile.{Profile}

-- the references that a path of what may be kept goes through: any soft one where these are free
abbrev pub may_keep : Profile → Policy → Allowed
may_keep profile policy = if profile.soft_free then soft_referents else is_kept policy

-- and of what must be kept: none where soft references are free
abbrev pub must_keep : Profile → Policy → Allowed
must_keep profile policy = if profile.soft_free then no_referents else is_kept policy

-- a path that goes so ended at n at one of these moments of a mark (`EverKept`)
abbrev pub EverEnds : Allowed → List Graph → ℕ → Type 0
EverEnds allow [] n = ⊥
EverEnds allow (g ∷ gs) n = EndsPath allow g n ⊎ EverEnds allow gs n

-- n may be kept in this mark: a path of what may be kept ended at it; or the collector keeps more, and it is there
abbrev pub MayBeKept : Profile → State → ℕ → Type 0
MayBeKept profile a n =
    EverEnds (may_keep profile a.world.policy) a.moments n
    ⊎ ((profile.keeps_more ≡ true) × (is_there a.world.heap.objects n ≡ true))

-- A mark that ends in this state may doom the objects d: nothing that must be kept; each object that may not be kept;
-- and no object outside them leads into them by a strong field or as a soft reference that must be kept (`MayDoom`).
pub record MayDoomAs (profile : Profile) (a : State) (d : List ℕ) : Type 0 where
  pub none_kept : (n : ℕ) → has d n ≡ true → ¬ (EndsPath (must_keep profile a.world.policy) (graph_of a.world) n)
  pub never_kept :
      (n : ℕ) → is_there a.world.heap.objects n ≡ true → ¬ (MayBeKept profile a n) → has d n ≡ true
  pub closed :
      (m n : ℕ) → is_there a.world.heap.objects m ≡ true → has d m ≡ false
      → has (targets_at (must_keep profile a.world.policy) a.world.heap.objects m) n ≡ true → has d n ≡ false
