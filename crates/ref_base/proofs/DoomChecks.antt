-- Tests by which one shows of a concrete graph that a mark's end may doom what it dooms.
use Rattle.ref_base.proofs.Common.{arith, ◌≡◌, ℕ, Bool, true, false, not, ◌&&◌, ◌||◌, sym, ◌∙◌, List, [], ◌∷◌, ◌⊎◌, inl}
use Rattle.ref_base.proofs.Common.{inr, true≢false, false≢true, AllByRecursion, has, Graph, Object, is_there, numbers}
use Rattle.ref_base.proofs.Common.{Allowed, targets_at, Policy, is_kept, EverKept, MayDoom, meets}
use Rattle.ref_base.proofs.ClosedSets.{is_closed, closed_has}

-- whether each of these objects is in the set or has no target in it
abbrev pub stay_off : Allowed → List Object → List ℕ → List ℕ → Bool
stay_off allow os set [] = true
stay_off allow os set (m ∷ ms) =
    (has set m || not (meets set (targets_at allow os m))) && stay_off allow os set ms

-- what is in one of two lists that don't meet isn't in the other
pub apart : (d ns : List ℕ) → meets d ns ≡ false → (n : ℕ) → has ns n ≡ true → has d n ≡ false
apart d [] none n h = absurd (false≢true h)
apart d (m ∷ ms) none n h = grind (arith, apart d ms)

-- what holds of each object's number holds of each number that is there
pub each_there : (P : ℕ → Type 0) (os : List Object) → AllByRecursion P (numbers os) → (n : ℕ)
    → is_there os n ≡ true → P n
each_there P [] all n there = absurd (false≢true there)
each_there P (o ∷ os) all n there = grind (arith, each_there P os all.1 n)

stay_off_has : (allow : Allowed) (os : List Object) (set : List ℕ) (ms : List ℕ) → stay_off allow os set ms ≡ true
    → AllByRecursion (λ m. (n : ℕ) → has set m ≡ false → has (targets_at allow os m) n ≡ true → has set n ≡ false) ms
stay_off_has allow os set [] all = tt
stay_off_has allow os set (m ∷ ms) all = grind (arith, apart, stay_off_has allow os set ms)

-- a mark may doom these objects where what is closed doesn't meet them, each object is one of them or was ever kept,
-- and no other has a target among them
pub may_doom : (p : Policy) (g : Graph) (moments : List Graph) (d live : List ℕ)
    → is_closed (is_kept p) g live ≡ true → meets d live ≡ false
    → AllByRecursion (λ n. (has d n ≡ true) ⊎ EverKept p moments n) (numbers g.objects)
    → stay_off (is_kept p) g.objects d (numbers g.objects) ≡ true → MayDoom p g moments d
may_doom p g moments d live closed none each off = record {
  none_kept = λ n doomed kept.
      true≢false (sym doomed ∙ apart d live none n (closed_has (is_kept p) g live closed n kept));
  never_kept = λ n there never.
      elim (each_there (λ k. (has d k ≡ true) ⊎ EverKept p moments k) g.objects each n there) [
        | inl doomed ↦ doomed
        | inr ever ↦ absurd (never ever)
      ];
  closed = λ m n there out target.
      each_there (λ k. (j : ℕ) → has d k ≡ false → has (targets_at (is_kept p) g.objects k) j ≡ true → has d j ≡ false)
      g.objects (stay_off_has (is_kept p) g.objects d (numbers g.objects) off) m there n out target;
}
