-- What a kept path reaches is marked; and the abstract collector's marks keep the promise.
use Rattle.std.proofs.Common.{arith, ◌≡◌, refl, ℕ, Bool, true, false, not, List, Option, Some, None, is_some}
use Rattle.std.proofs.lemmas.Bool.{cases_eq}
use Rattle.ref_base.proofs.PathLaws.{path_within, root_ends}
use Rattle.ref_base.specs.DoomedSets.{MayDoom}
use Rattle.ref_base.specs.Graphs.{Graph, Object, object_at}
use Rattle.ref_base.specs.KeptPaths.{is_kept, IsKept}
use Rattle.ref_base.specs.Members.{has}
use Rattle.ref_base.specs.Paths.{Allowed, targets_of}
use Rattle.ref_base.specs.declared.policy.Policy.{Policy}
use Rattle.ref_process.specs.Promises.{MarksKept}

pub kept_is_marked : (p : Policy) (g : Graph) (marked : ℕ → Bool) → MarksKept p g marked → (n : ℕ) → IsKept p g n
    → marked n ≡ true
kept_is_marked p g marked promise n kept =
    path_within (is_kept p) g (λ k. marked k ≡ true) (λ k there root. promise.roots k there root)
    (λ k m before target there. promise.closed k m there before target) n kept.0 kept.1

pub targets_there : (allow : Allowed) (o : Option Object) (n : ℕ) → has (targets_of allow o) n ≡ true
    → is_some o ≡ true
targets_there allow None n is = grind arith
targets_there allow (Some o) n is = refl

pub not_true : (b : Bool) → (b ≡ true → ⊥) → not b ≡ true
not_true true is_not = absurd (is_not refl)
not_true false is_not = refl

pub undoomed_keeps : (p : Policy) (g : Graph) (moments : List Graph) (d : List ℕ) → MayDoom p g moments d
    → MarksKept p g (λ n. not (has d n))
undoomed_keeps p g moments d may = record {
  roots = λ n there root. not_true (has d n) (λ doomed. may.none_kept n doomed (root_ends (is_kept p) g n there root));
  closed = λ m n there lives target.
      grind (arith, cases_eq, may.closed m n (targets_there (is_kept p) (object_at g.objects m) n target));
}
