-- How strongly the objects of two small graphs are reachable.
use Rattle.std.proofs.Common.{◌≡◌, ℕ, [], ◌∷◌, Some, refl, sym}
use Rattle.std.proofs.lemmas.Bool.{true≢false}
use Rattle.ref_base.specs.Graphs.{Graph, plain_object, reference_object}
use Rattle.ref_base.specs.Paths.{Allowed, EndsPath, soft_referents, soft_and_weak_referents}
use Rattle.ref_base.specs.Strengths.{HasStrength}
use Rattle.ref_base.specs.declared.strength.Strength.TheVariants as strength
use Rattle.ref_base.specs.declared.reach.Reach.{Reach}
use Rattle.ref_base.specs.declared.reach.Reach.TheVariants as reach
use Rattle.ref_base.proofs.ClosedSets.{closed_has}
use Rattle.ref_base.proofs.StrengthLaws.{exclusive}

-- the root refers weakly to object 2
abbrev pub weak_graph : Graph
weak_graph = record {
  objects = reference_object 1 strength.Weak (Some 2) [] ∷ plain_object 2 [] ∷ [];
  roots = 1 ∷ [];
}

-- there is no root, and a phantom reference to object 2
abbrev pub rootless_graph : Graph
rootless_graph = record {
  objects = reference_object 1 strength.Phantom (Some 2) [] ∷ plain_object 2 [] ∷ [];
  roots = [];
}

referent_is_weak : HasStrength weak_graph 2 reach.Weak
referent_is_weak = (
  λ ends. true≢false (sym (closed_has soft_referents weak_graph (1 ∷ []) refl 2 ends)),
  (1 ∷ [], (refl, refl, (refl, refl))),
)

pub weak_graph_weak : (r : Reach) → HasStrength weak_graph 2 r → r ≡ reach.Weak
weak_graph_weak r is = exclusive weak_graph 2 r reach.Weak is referent_is_weak

no_path : (allow : Allowed) (n : ℕ) → ¬ (EndsPath allow rootless_graph n)
no_path allow n = λ ends. true≢false (sym (closed_has allow rootless_graph [] refl n ends))

referent_is_unreachable : HasStrength rootless_graph 2 reach.Unreachable
referent_is_unreachable =
    (no_path soft_and_weak_referents 2, λ hangs. no_path soft_and_weak_referents hangs.0 hangs.1)

pub rootless_graph_unreachable : (r : Reach) → HasStrength rootless_graph 2 r → r ≡ reach.Unreachable
rootless_graph_unreachable r is = exclusive rootless_graph 2 r reach.Unreachable is referent_is_unreachable
