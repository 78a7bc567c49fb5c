-- How paths begin, go on, and stay within what is closed.
use Rattle.ref_base.proofs.Common.{arith, ◌≡◌, ℕ, true, List, [], ◌∷◌, Option, Some, None, has, Graph, Object}
use Rattle.ref_base.proofs.Common.{Reference, object_at, is_there, Allowed, IsPath, EndsPath, targets_at, targets_of}
use Rattle.ref_base.proofs.Common.{allowed_referent, present, fields_of}
use Rattle.ref_base.proofs.HasLaws.{has-cases, has-left}

module _ (allow : Allowed) (g : Graph) where
  -- a path ends at each root that is there
  pub root_ends : (n : ℕ) → is_there g.objects n ≡ true → has g.roots n ≡ true → EndsPath allow g n
  root_ends n there root = ([], (there, root))

  -- a path goes on to each target that is there
  pub target_ends : (m n : ℕ) → EndsPath allow g m → has (targets_at allow g.objects m) n ≡ true
      → is_there g.objects n ≡ true → EndsPath allow g n
  target_ends m n ends target there = (m ∷ ends.0, (there, target, ends.1))

  -- what holds of the roots and goes on along a path holds where one ends
  pub path_within : (P : ℕ → Type 0) → ((n : ℕ) → is_there g.objects n ≡ true → has g.roots n ≡ true → P n)
      → ((m n : ℕ) → P m → has (targets_at allow g.objects m) n ≡ true → is_there g.objects n ≡ true → P n)
      → (n : ℕ) (before : List ℕ) → IsPath allow g n before → P n
  path_within P at_roots along n [] path = at_roots n path.0 path.1
  path_within P at_roots along n (m ∷ before) path =
      along m n (path_within P at_roots along m before path.2) path.1 path.0

-- what an object's fields hold is among its targets
pub fields-targets : (allow : Allowed) (o : Option Object) (n : ℕ) → has (fields_of o) n ≡ true
    → has (targets_of allow o) n ≡ true
fields-targets allow None n h = h
fields-targets allow (Some o) n h = has-left (present o.fields) (allowed_referent allow o.reference) n h

-- where more references may be gone through, there are no fewer targets
module _ (allow more : Allowed) (wider : (r : Reference) → allow r ≡ true → more r ≡ true) where
  pub targets_of-wider : (o : Option Object) (n : ℕ) → has (targets_of allow o) n ≡ true
      → has (targets_of more o) n ≡ true
  targets_of-wider None n h = h
  targets_of-wider (Some o) n h = grind (arith, has-cases, has-left)

  -- and no fewer ends of paths
  pub ends-wider : (g : Graph) (n : ℕ) → EndsPath allow g n → EndsPath more g n
  ends-wider g n ends =
      path_within allow g (EndsPath more g) (root_ends more g)
      (λ k m before target there.
      target_ends more g k m before (targets_of-wider (object_at g.objects k) m target) there)
      n ends.0 ends.1
