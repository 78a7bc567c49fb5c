-- Whether each number of several lists was put in.
use Rattle.refrun.proofs.Common.{◌≡◌, ℕ, ◌<◌, ◌≤◌, sym, ap, ◌∙◌, true, false, List, length, get_or, take, map, flat_map}
use Rattle.refrun.proofs.Common.{true≢false, take_all, has}
use Rattle.refrun.specs.StressChecks.{PutInAll}
use Rattle.refrun.proofs.ListChecks.{concat-flat_map}
use Rattle.refrun.proofs.NoEvidence.{contained, is_given}

module _ {X : Type 0} (numbers : X → List ℕ) (xs : List X) (enqueued : List ℕ) where
  pub all_put_in : ((n : ℕ) → has (flat_map numbers xs) n ≡ true → has enqueued n ≡ true)
      → PutInAll enqueued (map numbers xs)
  all_put_in all n there = all n (ap (λ l. has l n) (sym (concat-flat_map numbers xs)) ∙ there)

  -- all lists were looked at
  pub all_looked_at : (i : ℕ) → length xs ≤ i
      → ((n : ℕ) → has (flat_map numbers (take i xs)) n ≡ true → has enqueued n ≡ true)
      → PutInAll enqueued (map numbers xs)
  all_looked_at i past all =
      all_put_in (λ n there. all n (ap (λ l. has (flat_map numbers l) n) (take_all i xs past) ∙ there))

  -- a number of one list was not put in
  pub one_missing : (i : ℕ) (x : X) (ns : List ℕ) → i < length xs → x ≡ get_or xs i x → ns ≡ numbers x → (j n : ℕ)
      → j < length ns → n ≡ get_or ns j n → has enqueued n ≡ false → ¬ (PutInAll enqueued (map numbers xs))
  one_missing i x ns within is_x are j n there at missing all =
      let given : has (flat_map numbers xs) n ≡ true =
      is_given numbers xs i x ns within is_x are n (contained ns n (j, there, sym at)) in
      true≢false (sym (all n (ap (λ l. has l n) (concat-flat_map numbers xs) ∙ given)) ∙ missing)
