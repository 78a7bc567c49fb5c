-- A path leaves what lives by a reference that the mark's end clears.
use Rattle.ref_base.proofs.Common.{arith, ◌≡◌, ℕ, true, false, refl, sym, ◌∙◌, List, [], ◌∷◌, Option, Some, None, inl}
use Rattle.ref_base.proofs.Common.{inr, cases_Bool, or_cases, or_left, false≢true, has, Graph, Object, Reference}
use Rattle.ref_base.proofs.Common.{object_at, is_there, Allowed, IsPath, soft_and_weak_referents, targets_at}
use Rattle.ref_base.proofs.Common.{targets_of, allowed_referent, Policy, MayDoom, refers_into, new_clears, meets}
use Rattle.ref_base.proofs.Common.{FirstLeaves, reference_in}
use Rattle.ref_base.specs.LeavingEdges.{LeavesBy}
use Rattle.ref_base.proofs.HasLaws.{has-cases, has-left}

-- ---- by what a step goes

-- this is a reference that a path may go through, and its referent is n
abbrev GoesBy : Allowed → Option Reference → ℕ → Type 0
GoesBy allow found n = (r : Reference) × (found ≡ Some r) × (allow r ≡ true) × (r.referent ≡ Some n)

by_referent : (allow : Allowed) (found : Option Reference) (n : ℕ) → has (allowed_referent allow found) n ≡ true
    → GoesBy allow found n
by_referent allow None n h = absurd (false≢true h)
by_referent allow (Some r) n h = grind arith

-- a step to where no path goes on that may go through fewer references is by a referent
by_no_field : (allow more : Allowed) (o : Option Object) (n : ℕ) → has (targets_of more o) n ≡ true
    → ¬ (has (targets_of allow o) n ≡ true) → GoesBy more (reference_in o) n
by_no_field allow more None n target none = absurd (false≢true target)
by_no_field allow more (Some o) n target none = grind (arith, has-cases, has-left, by_referent)

-- ---- the reference is a new clear

-- a reference outside the doomed whose referent is doomed is one; numbers need not rise, as the first of a number is
-- the one that is looked up
has-new_clear : (os : List Object) (d : List ℕ) (n : ℕ) → has d n ≡ false
    → refers_into (has d) (reference_in (object_at os n)) ≡ true → has (new_clears os d) n ≡ true
has-new_clear [] d n out into = absurd (false≢true into)
has-new_clear (o ∷ os) d n out into = grind (arith, has-new_clear os d n out)

-- ---- the first step to the doomed

module _ (p : Policy) (g : Graph) (moments : List Graph) (d : List ℕ) where
  -- a step from outside the doomed to one of them is by the referent of a new clear
  step_clears : (m n : ℕ) → MayDoom p g moments d → is_there g.objects m ≡ true → has d m ≡ false → has d n ≡ true
      → has (targets_at soft_and_weak_referents g.objects m) n ≡ true → LeavesBy g.objects d m n
  step_clears m n may there out doomed target = grind (arith, by_no_field, has-new_clear, may.closed m n there out)

  pub first_step_clears : (n : ℕ) (before : List ℕ) (outer inner : ℕ) → MayDoom p g moments d
      → IsPath soft_and_weak_referents g n before → FirstLeaves d n before outer inner
      → LeavesBy g.objects d outer inner
  first_step_clears n [] outer inner may path first = absurd first
  first_step_clears n (m ∷ before) outer inner may path first =
      grind (arith, step_clears, first_step_clears m before outer inner may path.2)

  -- a path on which one of the doomed stands has a first step to them: the root that it begins at is kept
  first_step : (allow : Allowed) (n : ℕ) (before : List ℕ) → MayDoom p g moments d → IsPath allow g n before
      → meets d (n ∷ before) ≡ true → (outer inner : ℕ) × FirstLeaves d n before outer inner
  first_step allow n [] may path meet = grind arith
  first_step allow n (m ∷ before) may path meet =
      elim (cases_Bool (meets d (m ∷ before))) [
        | inl earlier ↦
            let step = first_step allow m before may path.2 earlier in
            (step.0, step.1, inr step.2)
        | inr none ↦
            elim (or_cases (has d n) (meets d (m ∷ before)) meet) [
              | inl doomed ↦ (m, n, inl (doomed, none, refl, refl))
              | inr some ↦ absurd (false≢true (sym none ∙ some))
            ]
      ]

  pub has_first_step : (n : ℕ) (before : List ℕ) → MayDoom p g moments d
      → IsPath soft_and_weak_referents g n before → has d n ≡ true
      → (outer inner : ℕ) × FirstLeaves d n before outer inner
  has_first_step n before may path doomed =
      first_step soft_and_weak_referents n before may path (or_left (has d n) (meets d before) doomed)
